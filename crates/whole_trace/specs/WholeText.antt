-- The text of a whole trace, and what reading says of a text.
use Rattle.std.specs.Prelude.{◌≡◌, ◌≢◌, ◌⊎◌, ℕ, Option, Some, None, Result, Ok, Err, List, ◌++◌}
use Rattle.std.specs.Fmt.{option_append}
use Rattle.base.specs.declared.or_memory.OrMemory.{OrMemory}
use Rattle.base.specs.declared.or_memory.OrMemory.TheVariants.{OutOfMemory, Fault}
use Rattle.world_calls.specs.declared.carried_line.CarriedLine.{CarriedLine}
use Rattle.world_calls.specs.declared.trace.Trace.{Trace}
use Rattle.world_calls.specs.declared.trace.Version.{Version}
use Rattle.trace.specs.declared.fault.TraceFault.{TraceFault}
use Rattle.trace.specs.declared.fault.TraceFault.TheVariants.{Header, Line}
use Rattle.trace.specs.Reading.{IsFaultyLine}
use Rattle.trace.specs.TraceText.{header, trace_text}
use Rattle.carried_lines.specs.FirstLine.{continued_header}
use Rattle.carried_lines.specs.InOrder.{AreInOrder}
use Rattle.whole_trace.specs.Continued.{IsFaultyContinued, IsReadSo, after_header, items_of}
use Rattle.whole_trace.specs.declared.reader.WholeTrace.{WholeTrace}

-- The text of a trace: of an engine that took over nothing; or the first line of a continued trace, the carried lines, the lines of
-- records, and the last line.
abbrev pub whole_text : Option (List CarriedLine) → Trace → Option (List ℕ)
whole_text None trace = trace_text trace
whole_text (Some lines) trace = option_append (Some (continued_header trace.version)) (after_header trace.version lines trace.records.items trace.totals)

-- the carried lines are in order
abbrev pub AreOrdered : Option (List CarriedLine) → Type 0
AreOrdered None = Unit {0}
AreOrdered (Some lines) = AreInOrder lines

-- After the first line of a version, that of a continued trace or of another one, the line of this number is the first that is not of the form.
pub record IsFaultyPlain (text : List ℕ) (number : ℕ) : Type 0 where
  pub version : Version
  pub rest : List ℕ
  pub whole : text ≡ header version ++ rest
  pub is : IsFaultyLine version rest number

pub record IsFaultyIn (text : List ℕ) (number : ℕ) : Type 0 where
  pub version : Version
  pub rest : List ℕ
  pub whole : text ≡ continued_header version ++ rest
  pub is : IsFaultyContinued version rest number

-- it begins with no first line of a version
pub record HasNoHeader (text : List ℕ) : Type 0 where
  pub plain : (version : Version) (rest : List ℕ) → text ≢ header version ++ rest
  pub continued : (version : Version) (rest : List ℕ) → text ≢ continued_header version ++ rest

-- What is said of a text: that it is this trace's; that it begins with no first line; or which line is the first that is not of the
-- form. Want of memory says nothing.
abbrev pub SaysWhole : List ℕ → Result WholeTrace (OrMemory TraceFault) → Type 0
SaysWhole text (Ok whole) = (whole_text (items_of whole.carried) whole.trace ≡ Some text) × AreOrdered (items_of whole.carried)
SaysWhole text (Err OutOfMemory) = Unit {0}
SaysWhole text (Err (Fault Header)) = HasNoHeader text
SaysWhole text (Err (Fault (Line number))) = IsFaultyPlain text number ⊎ IsFaultyIn text number

-- the trace whose text this is, with its carried lines in order
abbrev pub IsReadAgain : List ℕ → Result WholeTrace (OrMemory TraceFault) → Type 0
IsReadAgain text read =
    (carried : Option (List CarriedLine)) (trace : Trace) → AreOrdered carried → whole_text carried trace ≡ Some text
    → IsReadSo carried trace.version trace.records.items trace.totals read

-- ---- inside: a text that begins with no first line of a continued trace

abbrev pub SaysPlain : List ℕ → Result WholeTrace (OrMemory TraceFault) → Type 0
SaysPlain text (Ok whole) = (trace_text whole.trace ≡ Some text) × (items_of whole.carried ≡ None)
SaysPlain text (Err OutOfMemory) = Unit {0}
SaysPlain text (Err (Fault Header)) = (version : Version) (rest : List ℕ) → text ≢ header version ++ rest
SaysPlain text (Err (Fault (Line number))) = IsFaultyPlain text number

abbrev pub IsReadPlain : List ℕ → Result WholeTrace (OrMemory TraceFault) → Type 0
IsReadPlain text read = (trace : Trace) → trace_text trace ≡ Some text → IsReadSo None trace.version trace.records.items trace.totals read

-- What reading says of a text: its trace, or which of its lines is the first that is not of the form.
use Rattle.std.specs.Prelude.{◌≡◌, ◌≢◌, ◌+◌, ℕ, Option, Some, None, IfSome, Result, Ok, Err, List, [], ◌++◌, length}
use Rattle.std.specs.Fmt.{option_append}
use Rattle.world_calls.specs.declared.record.Record.{Record}
use Rattle.world_calls.specs.declared.record.StoppedAt.{StoppedAt}
use Rattle.world_calls.specs.declared.record.StoppedAt.TheVariants as stopped
use Rattle.world_calls.specs.declared.totals.Totals.{Totals}
use Rattle.world_calls.specs.declared.trace.Trace.{Trace}
use Rattle.world_calls.specs.declared.trace.Version.{Version}
use Rattle.trace_lines.specs.Values.{long_number_at, number_at}
use Rattle.trace_lines.specs.declared.kind.Slots.{Slots}
use Rattle.trace_lines.specs.declared.value.Stop.{Stop}
use Rattle.trace_lines.specs.declared.value.Stop.TheVariants as stops
use Rattle.trace_lines.specs.declared.value.Value.{Value}
use Rattle.trace_lines.specs.declared.word.Word.{Word}
use Rattle.base.specs.declared.or_memory.OrMemory.{OrMemory}
use Rattle.base.specs.declared.or_memory.OrMemory.TheVariants.{OutOfMemory, Fault}
use Rattle.trace.specs.declared.fault.TraceFault.{TraceFault}
use Rattle.trace.specs.declared.fault.TraceFault.TheVariants.{Header, Line}
use Rattle.trace.specs.TraceText.{asked_of, header, lines_text, record_text, records_text, told_text, totals_text, trace_text}

-- no line of a record stands in front, and no last line
pub record HasNoLine (version : Version) (text : List ℕ) : Type 0 where
  pub no_record : (entry : Record) (rest : List ℕ) → option_append (record_text version entry) (Some rest) ≢ Some text
  pub no_end : (totals : Totals) (rest : List ℕ) → option_append (totals_text totals) (Some rest) ≢ Some text

-- lines of records, and the last line where it is there: what they are, and how many
abbrev pub front_text : Version → List Record → Option Totals → Option (List ℕ)
front_text version records None = records_text version records
front_text version records (Some totals) = lines_text version records totals

abbrev pub front_lines : List Record → Option Totals → ℕ
front_lines records None = length records
front_lines records (Some totals) = length records + 1

-- what may not follow these: what begins with no line, as nothing does; after the last line any text
abbrev pub MayNotFollow : Version → Option Totals → List ℕ → Type 0
MayNotFollow version None rest = HasNoLine version rest
MayNotFollow version (Some totals) rest = rest ≢ []

-- In a text after the first line of a version the line of this number is the first that is not of the form: the lines before it are records' lines,
-- and maybe the last line, and what follows these may not. Where nothing follows, it is the number of the line that is missing.
pub record IsFaultyLine (version : Version) (text : List ℕ) (number : ℕ) : Type 0 where
  pub records : List Record
  pub sums : Option Totals
  pub rest : List ℕ
  pub front : option_append (front_text version records sums) (Some rest) ≡ Some text
  pub place : number ≡ front_lines records sums + 2
  pub faulty : MayNotFollow version sums rest

-- The same, counted from the number of the line with which the text begins.
pub record IsFaultyFrom (version : Version) (text : List ℕ) (first number : ℕ) : Type 0 where
  pub place : ℕ
  pub is : IsFaultyLine version text place
  pub counted : number + 2 ≡ first + place

-- what is said of a text after the first line of a version, or after more lines, that begins with the line of this number
abbrev pub SaysLines : Version → List ℕ → ℕ → Result Trace (OrMemory TraceFault) → Type 0
SaysLines version text first (Ok trace) = (trace.version ≡ version) × (lines_text version trace.records.items trace.totals ≡ Some text)
SaysLines version text first (Err OutOfMemory) = Unit {0}
SaysLines version text first (Err (Fault Header)) = ⊥
SaysLines version text first (Err (Fault (Line number))) = IsFaultyFrom version text first number

-- What is said of a text: that it is this trace's; that no version's header stands in front; or that after the header of one this line is
-- the first that is not of the form. Want of memory says nothing.
abbrev pub Says : List ℕ → Result Trace (OrMemory TraceFault) → Type 0
Says text (Ok trace) = trace_text trace ≡ Some text
Says text (Err OutOfMemory) = Unit {0}
Says text (Err (Fault Header)) = (version : Version) (rest : List ℕ) → text ≢ header version ++ rest
Says text (Err (Fault (Line number))) = (version : Version) × (rest : List ℕ) × (text ≡ header version ++ rest) × IsFaultyLine version rest number

-- this version, these records and these sums are what was read, unless memory was refused
abbrev pub IsTrace : Version → List Record → Totals → Result Trace (OrMemory TraceFault) → Type 0
IsTrace version records totals (Ok trace) = (trace.version ≡ version) × (trace.records.items ≡ records) × (trace.totals ≡ totals)
IsTrace version records totals (Err OutOfMemory) = Unit {0}
IsTrace version records totals (Err (Fault fault)) = ⊥

-- the trace whose text this is, or whose text stands after the first line of a version
abbrev pub IsReadAgain : List ℕ → Result Trace (OrMemory TraceFault) → Type 0
IsReadAgain text read = (trace : Trace) → trace_text trace ≡ Some text → IsTrace trace.version trace.records.items trace.totals read

abbrev pub AreReadAgain : Version → List ℕ → Result Trace (OrMemory TraceFault) → Type 0
AreReadAgain version text read = (records : List Record) (totals : Totals) → lines_text version records totals ≡ Some text → IsTrace version records totals read

-- ---- a line

-- a record is read of what was asked and of how that was answered
pub record ReadsAnswered (word : Word) (held : Slots Value) (told : List ℕ) (read : Option Record) : Type 0 where
  pub said : IfSome read (λ entry. (asked_of entry ≡ (word, held)) × (told_text entry ≡ Some told))
  pub back : (entry : Record) → asked_of entry ≡ (word, held) → told_text entry ≡ Some told → read ≡ Some entry

-- where a run stopped, of a field
abbrev pub stopped_at : Stop → StoppedAt
stopped_at (stops.Helper helper) = stopped.Helper helper
stopped_at (stops.Bytes helper bytes) = stopped.Trace helper bytes
stopped_at (stops.Code helper code) = stopped.Finish helper code
stopped_at stops.Exit = stopped.Exit

-- the sums, of the fields of the last line
abbrev pub sums_of : Slots Value → Totals
sums_of held = record {
  history = long_number_at held.first;
  frozen = number_at held.second;
  active = number_at held.third;
  runs = number_at held.fourth;
}

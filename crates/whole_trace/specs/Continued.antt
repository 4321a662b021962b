-- What stands after the first line of a continued trace: carried lines, and then the lines of records and the last line; and what reading
-- says of it.
use Rattle.std.specs.Prelude.{◌≡◌, ◌+◌, ◌≤◌, ◌⊎◌, ℕ, Option, Some, None, Result, Ok, Err, List, [], ◌∷◌, ◌++◌, length}
use Rattle.std.specs.Borrow.{Bor}
use Rattle.std.specs.Fmt.{option_append, with_newline}
use Rattle.std.specs.declared.alloc.Global.{Global}
use Rattle.std.specs.declared.vec.Vec.{Vec}
use Rattle.base.specs.declared.or_memory.OrMemory.{OrMemory}
use Rattle.base.specs.declared.or_memory.OrMemory.TheVariants.{OutOfMemory, Fault}
use Rattle.world_calls.specs.declared.carried_line.CarriedLine.{CarriedLine}
use Rattle.world_calls.specs.declared.record.Record.{Record}
use Rattle.world_calls.specs.declared.totals.Totals.{Totals}
use Rattle.world_calls.specs.declared.trace.Version.{Version}
use Rattle.trace.specs.declared.fault.TraceFault.{TraceFault}
use Rattle.trace.specs.declared.fault.TraceFault.TheVariants.{Header, Line}
use Rattle.trace.specs.Reading.{HasNoLine, IsFaultyFrom}
use Rattle.trace.specs.TraceText.{lines_text}
use Rattle.carried_lines.specs.CarriedText.{carried_text}
use Rattle.carried_lines.specs.InOrder.{AreInOrder, IsFront}
use Rattle.whole_trace.specs.declared.reader.WholeTrace.{WholeTrace}

-- the texts of carried lines of a version, each with its line feed
unfoldable pub carried_texts : Version → List CarriedLine → Option (List ℕ)
carried_texts version [] = Some []
carried_texts version (line ∷ lines) = option_append (with_newline (carried_text version line)) (carried_texts version lines)

-- what stands after the first line
abbrev pub after_header : Version → List CarriedLine → List Record → Totals → Option (List ℕ)
after_header version lines records totals = option_append (carried_texts version lines) (lines_text version records totals)

-- the text begins with that line of the version
abbrev pub BeginsWith : Version → CarriedLine → List ℕ → List ℕ → Type 0
BeginsWith version line more text = option_append (with_newline (carried_text version line)) (Some more) ≡ Some text

-- it begins with no carried line of the version
abbrev pub HasNoCarried : Version → List ℕ → Type 0
HasNoCarried version text = (line : CarriedLine) (more : List ℕ) → BeginsWith version line more text → ⊥

-- The line of this number is the first that is not of the form, and it stands where a carried line may stand: the lines before it are
-- carried lines in order, none that could be next stands there, and if those before it may be all, no line of a record and no last line.
pub record IsFaultyCarried (version : Version) (text : List ℕ) (number : ℕ) : Type 0 where
  pub lines : List CarriedLine
  pub rest : List ℕ
  pub front : option_append (carried_texts version lines) (Some rest) ≡ Some text
  pub place : number ≡ length lines + 2
  pub in_order : IsFront lines
  pub not_next : (line : CarriedLine) (more : List ℕ) → BeginsWith version line more rest → IsFront (lines ++ line ∷ []) → ⊥
  pub not_after : AreInOrder lines → HasNoLine version rest

-- The line of this number is the first that is not of the form, and all carried lines stand before it.
pub record IsFaultyAfter (version : Version) (text : List ℕ) (number : ℕ) : Type 0 where
  pub lines : List CarriedLine
  pub rest : List ℕ
  pub front : option_append (carried_texts version lines) (Some rest) ≡ Some text
  pub in_order : AreInOrder lines
  pub no_more : HasNoCarried version rest
  pub is : IsFaultyFrom version rest (length lines + 2) number

-- in what stands after the first line of a continued trace, the line of this number is the first that is not of the form
abbrev pub IsFaultyContinued : Version → List ℕ → ℕ → Type 0
IsFaultyContinued version text number = IsFaultyCarried version text number ⊎ IsFaultyAfter version text number

abbrev pub items_of : Option (Vec CarriedLine Global) → Option (List CarriedLine)
items_of None = None
items_of (Some lines) = Some lines.items

-- ---- what is said of such a text

-- it is that of this trace
pub record IsContinued (version : Version) (text : List ℕ) (whole : WholeTrace) : Type 0 where
  pub lines : List CarriedLine
  pub carried : items_of whole.carried ≡ Some lines
  pub in_order : AreInOrder lines
  pub version_is : whole.trace.version ≡ version
  pub is : after_header version lines whole.trace.records.items whole.trace.totals ≡ Some text

abbrev pub SaysContinued : Version → List ℕ → Result WholeTrace (OrMemory TraceFault) → Type 0
SaysContinued version text (Ok whole) = IsContinued version text whole
SaysContinued version text (Err OutOfMemory) = Unit {0}
SaysContinued version text (Err (Fault Header)) = ⊥
SaysContinued version text (Err (Fault (Line number))) = IsFaultyContinued version text number

-- this is what was read, unless memory was refused
pub record IsWhole (carried : Option (List CarriedLine)) (version : Version) (records : List Record) (totals : Totals) (whole : WholeTrace) : Type 0 where
  pub carried_is : items_of whole.carried ≡ carried
  pub version_is : whole.trace.version ≡ version
  pub records_are : whole.trace.records.items ≡ records
  pub totals_are : whole.trace.totals ≡ totals

abbrev pub IsReadSo : Option (List CarriedLine) → Version → List Record → Totals → Result WholeTrace (OrMemory TraceFault) → Type 0
IsReadSo carried version records totals (Ok whole) = IsWhole carried version records totals whole
IsReadSo carried version records totals (Err OutOfMemory) = Unit {0}
IsReadSo carried version records totals (Err (Fault fault)) = ⊥

abbrev pub IsReadContinued : Version → List ℕ → Result WholeTrace (OrMemory TraceFault) → Type 0
IsReadContinued version text read =
    (lines : List CarriedLine) (records : List Record) (totals : Totals) → AreInOrder lines → after_header version lines records totals ≡ Some text
    → IsReadSo (Some lines) version records totals read

-- ---- inside

-- these are all carried lines with which the text begins, and this stands after them
pub record AreCarried (version : Version) (text : List ℕ) (lines : List CarriedLine) (rest : List ℕ) : Type 0 where
  pub front : option_append (carried_texts version lines) (Some rest) ≡ Some text
  pub in_order : AreInOrder lines
  pub no_more : HasNoCarried version rest
  pub room : length lines + length rest ≤ length text

abbrev pub SaysCarried : Version → List ℕ → List CarriedLine → Result (Bor (List ℕ)) (OrMemory TraceFault) → Type 0
SaysCarried version text lines (Ok rest) = AreCarried version text lines rest.now
SaysCarried version text lines (Err OutOfMemory) = Unit {0}
SaysCarried version text lines (Err (Fault Header)) = ⊥
SaysCarried version text lines (Err (Fault (Line number))) = IsFaultyCarried version text number

-- what is said of the text after these carried lines
abbrev pub SaysAfter : Version → List CarriedLine → List ℕ → Result WholeTrace (OrMemory TraceFault) → Type 0
SaysAfter version lines text (Ok whole) =
    (items_of whole.carried ≡ Some lines) × (whole.trace.version ≡ version) × (lines_text version whole.trace.records.items whole.trace.totals ≡ Some text)
SaysAfter version lines text (Err OutOfMemory) = Unit {0}
SaysAfter version lines text (Err (Fault Header)) = ⊥
SaysAfter version lines text (Err (Fault (Line number))) = IsFaultyFrom version text (length lines + 2) number

abbrev pub IsReadAfter : Version → List CarriedLine → List ℕ → Result WholeTrace (OrMemory TraceFault) → Type 0
IsReadAfter version lines text read =
    (records : List Record) (totals : Totals) → lines_text version records totals ≡ Some text → IsReadSo (Some lines) version records totals read

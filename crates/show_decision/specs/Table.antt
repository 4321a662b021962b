-- A table of what is decided of all sense data, and why there is none.
use Rattle.std.specs.Prelude.{◌≡◌, ◌<◌, ◌/◌, ◌%◌, ℕ, List, Option, Some, None, length, slice_get, slice_index}
use Rattle.std.specs.Io.KnownBytes.{Appends, Keeps}
use Rattle.std.specs.List.{flat_map}
use Rattle.base.specs.declared.or_memory.OrMemory.{OrMemory}
use Rattle.base.specs.declared.or_memory.OrMemory.TheVariants.{OutOfMemory, Fault}
use Rattle.world_calls.specs.declared.carried_line.CarriedLine.{CarriedLine}
use Rattle.world.specs.World.{Setup}
use Rattle.show_question.specs.declared.Failure.{Failure}
use Rattle.show_question.specs.declared.Question.{Question}
use Rattle.host_decision.specs.Asked.{AreLinesOf}
use Rattle.host_decision.specs.Faults.{IsFault, IsPossible}
use Rattle.host_decision.specs.declared.undecided.Undecided.{Undecided}
use Rattle.host_decision.specs.declared.undecided.Undecided.TheVariants.{Sense}
use Rattle.show_decision.specs.Numbered.{AreApart, IsPushed, text_at}
use Rattle.show_decision.specs.Rows.{AreRowsOf, IsUsual, number_at}
use Rattle.show_decision.specs.RowTexts.{key_rows_text}
use Rattle.show_decision.specs.Sense.{IsKnown, sense_bytes}
use Rattle.show_decision.specs.Told.{IsTextOf}
use Rattle.show_decision.specs.declared.rows.Row.{Row}
use Rattle.show_decision.specs.declared.rows.TheConstants.{CODES}
use Rattle.show_decision.specs.declared.table.TheConstants.{KEYS}
use Rattle.show_decision.specs.declared.writing.Heading.{Heading}

-- the response code of the sense data that is given
abbrev pub response_of : Question → ℕ
response_of question = slice_index question.failure.sense 0

-- the failure with the sense data of a key and a code
abbrev pub failure_of : Failure → (response key code : ℕ) → Failure
failure_of failure response key code = record failure { sense = sense_bytes response key (code / 256) (code % 256) }

-- what the rows of a key begin with
abbrev pub heading_of : Failure → (response key : ℕ) → Heading
heading_of failure response key = record { status = failure.status; scsi = failure.scsi; response = response; key = key }

-- the text of that number is what is decided of the failure in an engine with these lines
abbrev pub IsDecidedAs : Setup → List CarriedLine → Failure → List (List ℕ) → ℕ → Type 0
IsDecidedAs config lines failure texts number = (text : List ℕ) × IsTextOf config lines failure text × (slice_get texts number ≡ Some text)

-- So many codes of a key have numbers, each that of what is decided of the code.
pub record AreDecided (config : Setup) (lines : List CarriedLine) (failure : Failure) (response key count : ℕ) (numbers : List ℕ) (texts : List (List ℕ)) : Type 0 where
  pub count_is : length numbers ≡ count
  pub each : (code usual : ℕ) → code < count → IsDecidedAs config lines (failure_of failure response key code) texts (number_at numbers code usual)

-- what is decided of the failure comes after what there was
pub record AddsDecided (config : Setup) (lines : List CarriedLine) (failure : Failure) (numbers : List ℕ) (texts : List (List ℕ)) (new_numbers : List ℕ) (new : List (List ℕ)) : Type 0 where
  pub text : List ℕ
  pub is : IsTextOf config lines failure text
  pub pushed : IsPushed numbers texts text new_numbers new

-- The rows of a key. Each code has the number of what is decided of it, and each decision has one number. What is decided of most stands in the
-- row of the key, which goes for all codes that no other row names. The others name, in the order of the codes, just those of which another thing
-- is decided, each with that.
pub record IsKeyText (config : Setup) (lines : List CarriedLine) (failure : Failure) (response key : ℕ) (text : List ℕ) : Type 0 where
  pub texts : List (List ℕ)
  pub usual : ℕ
  pub rows : List Row
  pub numbers : List ℕ
  pub decided : AreDecided config lines failure response key CODES numbers texts
  pub apart : AreApart texts
  pub most : IsUsual numbers usual
  pub are : AreRowsOf numbers usual CODES rows
  pub text_is : text ≡ key_rows_text (heading_of failure response key) texts usual rows

-- the rows of so many keys, one key after the other
pub record AreKeyTexts (config : Setup) (lines : List CarriedLine) (failure : Failure) (response count : ℕ) (text : List ℕ) : Type 0 where
  pub keys : List (List ℕ)
  pub count_is : length keys ≡ count
  pub each : (key : ℕ) → key < count → IsKeyText config lines failure response key (text_at keys key)
  pub text_is : text ≡ flat_map (λ rows. rows) keys

-- why there is no table: the question has that fault; or it has none, and no format has the response code
abbrev pub WhyNoTable : Setup → Question → Undecided → Type 0
WhyNoTable config question Sense = IsPossible config question × (IsKnown (response_of question) → ⊥)
WhyNoTable config question fault = IsFault config question fault

-- memory was refused, or that is why
abbrev pub IsUntabled : Setup → Question → OrMemory Undecided → Type 0
IsUntabled config question OutOfMemory = Unit {0}
IsUntabled config question (Fault fault) = WhyNoTable config question fault

-- there can be a table
abbrev pub HasTable : Setup → Question → Type 0
HasTable config question = IsPossible config question × IsKnown (response_of question)

-- The output grows by the rows of all keys, from engines in which nothing but that CCB is.
pub record IsTable (config : Setup) (question : Question) (old new : Option (List ℕ)) : Type 0 where
  pub possible : HasTable config question
  pub lines : List CarriedLine
  pub are : AreLinesOf config question lines
  pub text : List ℕ
  pub keys : AreKeyTexts config lines question.failure (response_of question) KEYS text
  pub output : Appends old new text

-- the table is printed; or nothing goes out, and that is why
abbrev pub IsTabled : Setup → Question → (old new : Option (List ℕ)) → Option Undecided → Type 0
IsTabled config question old new None = IsTable config question old new
IsTabled config question old new (Some fault) = WhyNoTable config question fault × Keeps old new

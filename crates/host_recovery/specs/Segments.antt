-- The text of a segment, of an engine that took over nothing and of one that took over what its carried lines say; and which line of a text
-- is the first that is not of the form.
use Rattle.std.specs.Prelude.{◌≡◌, ◌⊎◌, ℕ, Option, Some, None, IfSome, List, [], ◌++◌}
use Rattle.std.specs.List.{AllByRecursion}
use Rattle.std.specs.Fmt.{option_append}
use Rattle.world_calls.specs.declared.carried_line.CarriedLine.{CarriedLine}
use Rattle.world_calls.specs.declared.record.Record.{Record}
use Rattle.world_calls.specs.declared.totals.Totals.{Totals}
use Rattle.world_calls.specs.declared.trace.Version.{Version}
use Rattle.trace.specs.Reading.{IsFaultyLine, front_text}
use Rattle.trace.specs.ShortLines.{IsShort}
use Rattle.trace.specs.TraceText.{entry_text, header, sums_text}
use Rattle.carried_lines.specs.FirstLine.{continued_header}
use Rattle.carried_lines.specs.InOrder.{AreInOrder}
use Rattle.whole_trace.specs.Continued.{IsFaultyAfter, IsFaultyCarried, carried_texts}
use Rattle.whole_trace.specs.WholeText.{AreOrdered}

-- What may be cut off after lines of records: no line feed, no other byte that no line has, and no more bytes than a line has. After the
-- last line nothing may be.
abbrev pub MayBeLeft : Option Totals → List ℕ → Type 0
MayBeLeft None rest = IsShort rest
MayBeLeft (Some totals) rest = rest ≡ []

-- no other value has its text
abbrev pub IsItsOwn : {T : Type 0} → (T → Option (List ℕ)) → T → Type 0
IsItsOwn {T = T} text_of value = (other : T) → text_of other ≡ text_of value → other ≡ value

-- The text before the first record: the first line; and after it the carried lines, if the engine took over what they say.
abbrev pub head_text : Version → Option (List CarriedLine) → Option (List ℕ)
head_text version None = Some (header version)
head_text version (Some lines) = option_append (Some (continued_header version)) (carried_texts version lines)

-- The text is a segment of this version: its first line, these carried lines, in order, if there are any, the lines of these records and of
-- no others, the last line if it is there, and what is cut off.
pub record IsSegment (version : Version) (carried : Option (List CarriedLine)) (text : List ℕ) (records : List Record) (sums : Option Totals) (torn : List ℕ) : Type 0 where
  pub whole : option_append (head_text version carried) (option_append (front_text version records sums) (Some torn)) ≡ Some text
  pub ordered : AreOrdered carried
  pub left : MayBeLeft sums torn
  pub own : AllByRecursion (IsItsOwn (entry_text version)) records
  pub own_sums : IfSome sums (IsItsOwn sums_text)

-- ---- the first line that is not of the form

-- After the first line of a version the line of this number is the first that is not of the form, and it is none that was cut off.
pub record IsBroken (version : Version) (text : List ℕ) (number : ℕ) : Type 0 where
  pub faulty : IsFaultyLine version text number
  pub not_left : MayBeLeft faulty.sums faulty.rest → ⊥

-- The same after the first line of a continued trace, where a carried line may stand. A line is cut off there only if the numbers and the
-- clock stand before it.
pub record IsBrokenCarried (version : Version) (text : List ℕ) (number : ℕ) : Type 0 where
  pub faulty : IsFaultyCarried version text number
  pub not_left : AreInOrder faulty.lines → IsShort faulty.rest → ⊥

-- And after all carried lines.
pub record IsBrokenAfter (version : Version) (text : List ℕ) (number : ℕ) : Type 0 where
  pub faulty : IsFaultyAfter version text number
  pub not_left : MayBeLeft faulty.is.is.sums faulty.is.is.rest → ⊥

pub record IsBrokenPlain (text : List ℕ) (number : ℕ) : Type 0 where
  pub version : Version
  pub rest : List ℕ
  pub whole : text ≡ header version ++ rest
  pub is : IsBroken version rest number

pub record IsBrokenContinued (text : List ℕ) (number : ℕ) : Type 0 where
  pub version : Version
  pub rest : List ℕ
  pub whole : text ≡ continued_header version ++ rest
  pub is : IsBrokenCarried version rest number ⊎ IsBrokenAfter version rest number

-- in a text that begins with a first line of one of both kinds
abbrev pub IsBrokenIn : List ℕ → ℕ → Type 0
IsBrokenIn text number = IsBrokenPlain text number ⊎ IsBrokenContinued text number

-- Whether a segment begins with what the engine of the segment before it left.
use Rattle.std.specs.Prelude.{◌≡◌, ◌⊎◌, ℕ, Bool, true, false, Option, Some, None, IfSome, List, [], ◌++◌, length, ⊤}
use Rattle.base.specs.declared.or_memory.OrMemory.{OrMemory}
use Rattle.base.specs.declared.or_memory.OrMemory.TheVariants.{OutOfMemory, Fault}
use Rattle.world_calls.specs.declared.carried_line.CarriedLine.{CarriedLine}
use Rattle.world.specs.World.{Setup, version_of}
use Rattle.engine_beginning.specs.Lines.{lines_of}
use Rattle.engine_carried.specs.declared.numbering.Numbering.{Numbering}
use Rattle.engine_carried.specs.declared.numbering.Numbering.TheVariants.{Fresh as FreshNumbers, Same as SameNumbers}
use Rattle.engine_core.specs.ByNumber.{NumberedState}
use Rattle.engine_succession.specs.Numbered.{MayBeFollowedBy, taken_from}
use Rattle.whole_trace.specs.Front.{HasUnspelled, front_text}
use Rattle.host_journal.specs.declared.fault.JournalFault.{JournalFault}
use Rattle.host_journal.specs.declared.fault.JournalFault.TheVariants as faults
use Rattle.host_journal.specs.declared.left.FrontText.{FrontText}
use Rattle.host_journal.specs.declared.left.Left.{Left}
use Rattle.host_journal.specs.declared.left.Left.TheVariants.{Fronts, Nothing}

-- these bytes begin with that front
abbrev pub BeginsSo : List ℕ → List ℕ → Type 0
BeginsSo front bytes = (rest : List ℕ) × (bytes ≡ front ++ rest)

-- the lines of what an engine of the configuration takes over from this one
abbrev pub lines_left : Numbering → NumberedState → Setup → List CarriedLine
lines_left numbering before config = lines_of (taken_from numbering before config)

-- A segment of these bytes, if they are known, and of so many carried lines begins with what the engine leaves under that numbering.
pub record IsLinkedUnder (numbering : Numbering) (known : Option (List ℕ)) (config : Setup) (before : NumberedState) (carried : ℕ) : Type 0 where
  pub may : MayBeFollowedBy before config
  pub front : List ℕ
  pub is : front_text (version_of config) (lines_left numbering before config) ≡ Some front
  pub count : carried ≡ length (lines_left numbering before config)
  pub begins : IfSome known (BeginsSo front)

-- under either numbering
abbrev pub IsLinked : Option (List ℕ) → Setup → NumberedState → ℕ → Type 0
IsLinked known config before carried = IsLinkedUnder SameNumbers known config before carried ⊎ IsLinkedUnder FreshNumbers known config before carried

-- under none, if the bytes are known
abbrev pub IsUnlinked : Option (List ℕ) → Setup → NumberedState → ℕ → Type 0
IsUnlinked known config before carried = IfSome known (λ bytes. IsLinked (Some bytes) config before carried → ⊥)

-- ---- inside

-- the text before the first record with these carried lines, and how many they are
pub record IsFrontOf (config : Setup) (lines : List CarriedLine) (front : FrontText) : Type 0 where
  pub is : front_text (version_of config) lines ≡ Some front.bytes.items
  pub count : front.carried ≡ length lines

-- that of what is left under that numbering
abbrev pub IsFrontUnder : Numbering → NumberedState → Setup → FrontText → Type 0
IsFrontUnder numbering before config front = IsFrontOf config (lines_left numbering before config) front

-- that of both, if the engine may be followed
abbrev pub IsLeft : NumberedState → Setup → Left → Type 0
IsLeft before config Nothing = MayBeFollowedBy before config → ⊥
IsLeft before config (Fronts same fresh) = MayBeFollowedBy before config × IsFrontUnder SameNumbers before config same × IsFrontUnder FreshNumbers before config fresh

-- why there is no such text, if the engine may be followed: memory, or a line that has none
abbrev pub IsUnprintable : NumberedState → Setup → OrMemory JournalFault → Type 0
IsUnprintable before config OutOfMemory = ⊤
IsUnprintable before config (Fault faults.InternalError) = MayBeFollowedBy before config × ((numbering : Numbering) × HasUnspelled (version_of config) (lines_left numbering before config))
IsUnprintable before config (Fault fault) = ⊥

-- whether the bytes, if they are known, begin with the text, and there are as many carried lines
abbrev pub HasFront : Option (List ℕ) → ℕ → FrontText → Bool → Type 0
HasFront known carried front true = (carried ≡ front.carried) × IfSome known (BeginsSo front.bytes.items)
HasFront known carried front false = IfSome known (λ bytes. carried ≡ front.carried → BeginsSo front.bytes.items bytes → ⊥)

-- with one of the texts
abbrev pub Judges : Option (List ℕ) → ℕ → Left → Bool → Type 0
Judges known carried Nothing is_so = is_so ≡ false
Judges known carried (Fronts same fresh) true = HasFront known carried same true ⊎ HasFront known carried fresh true
Judges known carried (Fronts same fresh) false = HasFront known carried same false × HasFront known carried fresh false

-- so much of the front was read, and this is left of it; at its end more may have been read
pub record IsMatched (from now : Option (List ℕ)) (front left : List ℕ) : Type 0 where
  pub taken : List ℕ
  pub front_is : front ≡ taken ++ left
  pub more : List ℕ
  pub ends : left ≡ [] ⊎ more ≡ []
  pub came : IfSome from (λ all. (rest : List ℕ) × (now ≡ Some rest) × (all ≡ taken ++ (more ++ rest)))

-- what is left of a text after a piece that came
abbrev pub LeftAfter : List ℕ → List ℕ → List ℕ → Type 0
LeftAfter left piece rest = (left ≡ piece ++ rest) ⊎ ((rest ≡ []) × BeginsSo left piece)

-- whatever follows, the piece is no front of what begins with the text
abbrev pub IsOther : List ℕ → List ℕ → Type 0
IsOther left piece = (more : List ℕ) → BeginsSo left (piece ++ more) → ⊥

-- What is known of the arguments of a helper call, when each is sure to be as the helper asks, and when the call may pass.
use Rattle.std.specs.Prelude.{◌≡◌, ℕ, ◌+◌, ◌<◌, ◌≤◌, true, false, List, length, Option, Some, None, slice_index_or}
use Rattle.bpf_insn.specs.declared.reg.Reg.TheVariants.{R1, R2, R3}
use Rattle.helpers.specs.declared.columns.ArgKind.{ArgKind}
use Rattle.helpers.specs.declared.columns.ArgKind.TheVariants.{Queue, HeldFreeze, Within, Table, Index, Word, Room, Bytes}
use Rattle.helpers.specs.declared.columns.Asks.{Asks}
use Rattle.helpers.specs.declared.columns.Needs.{Needs}
use Rattle.helpers.specs.declared.columns.Needs.TheVariants as needs
use Rattle.helpers.specs.declared.limits.HelperLimits.{HelperLimits}
use Rattle.helpers.specs.declared.request.Arguments.{Arguments}
use Rattle.helpers.specs.declared.table.Helper.{Helper}
use Rattle.helpers.specs.Table.{asks, is_there, row_of}
use Rattle.bpf_semantics.specs.declared.bounds.TheConstants.{MAX_HELD}
use Rattle.bpf_semantics.specs.Calls.{is_as_asked}
use Rattle.bpf_semantics.specs.Frames.{has_room, has_written}
use Rattle.bpf_semantics.specs.MachineState.{MachineState}
use Rattle.stack_domain.specs.Stack.{Knows}
use Rattle.check_helper_calls.specs.declared.arguments.Known.{Known}
use Rattle.check_description.specs.declared.description.Description.{Description}
use Rattle.check_register_kinds.specs.declared.freeze_name.FreezeName.{FreezeName}
use Rattle.check_register_kinds.specs.declared.held.Certainty.TheVariants.{Sure}
use Rattle.check_register_kinds.specs.declared.kind.Kind.{Kind}
use Rattle.check_register_kinds.specs.declared.kind.Kind.TheVariants.{Unwritten, Number, Address, Freeze}
use Rattle.check_register_kinds.specs.declared.region.Region.TheVariants.{Context, Frame}
use Rattle.check_description.specs.declared.saved.SavedRegisters.{SavedRegisters}
use Rattle.check_description.specs.Description.{DescribesWith, kind_at}
use Rattle.check_description.specs.Spills.{AreUnspilled}
use Rattle.check_helper_calls.specs.Fresh.{IsFresh}
use Rattle.check_register_kinds.specs.Freezes.{FreezeNumbers, certainty_of}
use Rattle.check_register_kinds.specs.Kinds.{HoldsKind, IsBelow, IsBetween, IsKnown, IsNumber, IsWritten}

-- a freeze that is held, and sure not to be 0
abbrev pub IsSureFreeze : Description → Kind → Type 0
IsSureFreeze d kind = (name : FreezeName) × (kind ≡ Freeze name) × (certainty_of d.held name ≡ Some Sure)

-- the address of so many bytes of one live frame
abbrev pub IsPlace : Description → ℕ → Kind → Type 0
IsPlace d bytes Unwritten = ⊥
IsPlace d bytes (Number scalar) = ⊥
IsPlace d bytes (Address Context offsets) = ⊥
IsPlace d bytes (Address (Frame frame) offsets) = (frame < length d.stack) × (offsets.least ≤ offsets.most) × (offsets.most + bytes ≤ 512)
IsPlace d bytes (Freeze name) = ⊥

-- the address of bytes of one live frame that are known to be written, at most so many, and of which none is spilled
abbrev pub IsWrittenPlace : Description → ℕ → Kind → Type 0
IsWrittenPlace d bytes Unwritten = ⊥
IsWrittenPlace d bytes (Number scalar) = ⊥
IsWrittenPlace d bytes (Address Context offsets) = ⊥
IsWrittenPlace d bytes (Address (Frame frame) offsets) =
    IsPlace d bytes (Address (Frame frame) offsets) × ((at : ℕ) → offsets.least ≤ at → at < offsets.most + bytes → Knows d.stack frame at) × AreUnspilled d.spills frame offsets.least (offsets.most + bytes)
IsWrittenPlace d bytes (Freeze name) = ⊥

-- and as many as a number says
abbrev pub AreToldBytes : Description → Kind → Kind → Type 0
AreToldBytes d place Unwritten = ⊥
AreToldBytes d place (Number count) = IsWrittenPlace d count.unsigned.most place
AreToldBytes d place (Address region offsets) = ⊥
AreToldBytes d place (Freeze name) = ⊥

-- the table of that number has so many words at least
abbrev pub HasWords : List ℕ → Kind → ℕ → Type 0
HasWords lengths table words = (numbers : FreezeNumbers) (number : ℕ) → HoldsKind numbers table (Some number) → words ≤ slice_index_or lengths number 0

-- so many bytes lie in one live frame from the address on
abbrev pub PointsToRoom : Description → Kind → ℕ → Type 0
PointsToRoom d kind bytes = (numbers : FreezeNumbers) (callers : List SavedRegisters) (m : MachineState) (address : ℕ) → DescribesWith numbers callers d m → HoldsKind numbers kind (Some address) → has_room 0 m.frames address bytes ≡ true

-- and are written, as many as a number says
abbrev pub HasBytes : Description → Kind → Kind → Type 0
HasBytes d kind count =
    (numbers : FreezeNumbers) (callers : List SavedRegisters) (m : MachineState) (address bytes : ℕ) → DescribesWith numbers callers d m → HoldsKind numbers kind (Some address) →
    HoldsKind numbers count (Some bytes) → has_written 0 m.frames address bytes ≡ true

-- arguments of these kinds
pub record AreArguments (numbers : FreezeNumbers) (known : Known) (arguments : Arguments) : Type 0 where
  pub first : HoldsKind numbers known.first (Some arguments.first)
  pub second : HoldsKind numbers known.second (Some arguments.second)
  pub third : HoldsKind numbers known.third (Some arguments.third)

-- an argument of that kind is as asked
abbrev pub ArgumentMatches : HelperLimits → Description → Known → ArgKind → Kind → Type 0
ArgumentMatches limits d known asked kind =
    (numbers : FreezeNumbers) (callers : List SavedRegisters) (m : MachineState) (arguments : Arguments) (value : ℕ) → DescribesWith numbers callers d m → AreArguments numbers known arguments →
    HoldsKind numbers kind (Some value) → is_as_asked limits m arguments asked value ≡ true

abbrev pub ArgumentMatchesAny : HelperLimits → Description → Known → Option ArgKind → Kind → Type 0
ArgumentMatchesAny limits d known (Some asked) kind = ArgumentMatches limits d known asked kind
ArgumentMatchesAny limits d known None kind = Unit {0}

-- all arguments are written, and as asked
pub record AllFit (limits : HelperLimits) (d : Description) (asks : Asks) (known : Known) : Type 0 where
  pub first_written : IsWritten known.first
  pub second_written : IsWritten known.second
  pub third_written : IsWritten known.third
  pub first : ArgumentMatchesAny limits d known asks.first known.first
  pub second : ArgumentMatchesAny limits d known asks.second known.second
  pub third : ArgumentMatchesAny limits d known asks.third known.third

-- what is known of an argument, where its register is known to be that
abbrev pub IsKnownOf : Option ArgKind → Kind → Kind → Type 0
IsKnownOf (Some asked) register kind = kind ≡ register
IsKnownOf None register kind = IsWritten kind

pub record AreKnownOf (d : Description) (asks : Asks) (known : Known) : Type 0 where
  pub first : IsKnownOf asks.first (kind_at d R1) known.first
  pub second : IsKnownOf asks.second (kind_at d R2) known.second
  pub third : IsKnownOf asks.third (kind_at d R3) known.third

-- what is enough for an argument of that kind to be as asked
abbrev pub ArgumentIsChecked : HelperLimits → Description → Known → ArgKind → Kind → Type 0
ArgumentIsChecked limits d known Queue kind = IsBelow limits.queues kind
ArgumentIsChecked limits d known HeldFreeze kind = IsSureFreeze d kind
ArgumentIsChecked limits d known (Within least most) kind = IsBetween least most kind
ArgumentIsChecked limits d known Table kind = IsBelow (length limits.table_lengths) kind
ArgumentIsChecked limits d known Index kind = (table : ℕ) × IsKnown table known.first × IsBelow (slice_index_or limits.table_lengths table 0) kind
ArgumentIsChecked limits d known Word kind = IsNumber kind
ArgumentIsChecked limits d known (Room bytes) kind = IsPlace d bytes kind
ArgumentIsChecked limits d known Bytes kind = AreToldBytes d kind known.second

abbrev pub SuitsAny : HelperLimits → Description → Known → Option ArgKind → Kind → Type 0
SuitsAny limits d known (Some asked) kind = ArgumentIsChecked limits d known asked kind
SuitsAny limits d known None kind = IsWritten kind

pub record AllSuit (limits : HelperLimits) (d : Description) (asks : Asks) (known : Known) : Type 0 where
  pub first : SuitsAny limits d known asks.first known.first
  pub second : SuitsAny limits d known asks.second known.second
  pub third : SuitsAny limits d known asks.third known.third

-- whatever counts for an argument that is not taken
abbrev pub RegistersSuit : HelperLimits → Description → Asks → Type 0
RegistersSuit limits d asks = (known : Known) → AreKnownOf d asks known → AllSuit limits d asks known

-- what is known of an argument that is as asked
abbrev pub Shows : Description → ArgKind → Kind → Type 0
Shows d HeldFreeze kind = IsSureFreeze d kind
Shows d (Room bytes) kind = IsPlace d bytes kind
Shows d asked kind = Unit {0}

abbrev pub ShowsAny : Description → Option ArgKind → Kind → Type 0
ShowsAny d (Some asked) kind = Shows d asked kind
ShowsAny d None kind = Unit {0}

-- what a helper needs of the run, where a freeze that it takes gets that name, and these functions wait
abbrev pub MeetsNeed : List SavedRegisters → Description → FreezeName → Needs → Type 0
MeetsNeed callers d name needs.Nothing = Unit {0}
MeetsNeed callers d name needs.Room = (length d.held < MAX_HELD) × (certainty_of d.held name ≡ None) × IsFresh name callers
MeetsNeed callers d name needs.Undisposed = d.disposed ≡ false

-- a call of the helper may pass: it is there, by its arguments, and by what it needs
pub record MayCall (limits : HelperLimits) (callers : List SavedRegisters) (d : Description) (name : FreezeName) (helper : Helper) : Type 0 where
  pub there : is_there limits.helpers helper ≡ true
  pub suit : RegistersSuit limits d (asks helper)
  pub run : MeetsNeed callers d name (row_of helper).needs

-- When the helper of a number may be called, and what is known after it. It says nothing of machines: it is what a program
-- may rely on that is to be accepted.
use Rattle.std.specs.Prelude.{◌≡◌, ℕ, ℤ, ◌≤◌, true, List, [], ◌∷◌, ◌++◌, length, Some}
use Rattle.bpf_insn.specs.declared.reg.Reg.{Reg}
use Rattle.bpf_insn.specs.declared.reg.Reg.TheVariants.{R0, R1}
use Rattle.bpf_insn.specs.Reg.{number_of}
use Rattle.helpers.specs.declared.columns.Change.{Change}
use Rattle.helpers.specs.declared.columns.Change.TheVariants as changes
use Rattle.helpers.specs.declared.columns.Gives.{Gives}
use Rattle.helpers.specs.declared.columns.Gives.TheVariants as gives
use Rattle.helpers.specs.declared.table.Helper.{Helper}
use Rattle.helpers.specs.declared.limits.HelperLimits.{HelperLimits}
use Rattle.helpers.specs.Table.{helper_of, row_of}
use Rattle.stack_domain.specs.Stack.{Knows}
use Rattle.check_description.specs.declared.description.Description.{Description}
use Rattle.check_register_kinds.specs.declared.freeze_name.FreezeName.{FreezeName}
use Rattle.check_register_kinds.specs.declared.kind.Kind.{Kind}
use Rattle.check_register_kinds.specs.declared.kind.Kind.TheVariants.{Freeze}
use Rattle.check_description.specs.declared.saved.SavedRegisters.{SavedRegisters}
use Rattle.check_register_kinds.specs.declared.region.Region.TheVariants.{Frame}
use Rattle.check_helper_calls.specs.Arguments.{MayCall}
use Rattle.check_description.specs.Description.{kind_at}
use Rattle.check_register_kinds.specs.Freezes.{open_freeze}
use Rattle.check_register_kinds.specs.Kinds.{IsAt, IsKnown, IsNumberWithin}
use Rattle.check_description.specs.Changes.{IsFreeze, LeavesGivenUp}
use Rattle.check_description.specs.Memory.{AreKnown, ChangesStack}

-- the helper of that number may be called
abbrev pub CanCall : HelperLimits → List SavedRegisters → Description → FreezeName → ℤ → Type 0
CanCall limits callers d name number = (helper : Helper) × (helper_of number ≡ Some helper) × MayCall limits callers d name helper

-- and is under any limits, whichever functions wait, and however a freeze that it takes is named
abbrev pub EnoughToCall : ℤ → Description → Type 0
EnoughToCall number d = (limits : HelperLimits) (callers : List SavedRegisters) (name : FreezeName) → CanCall limits callers d name number

-- so many bytes are written from R1's address on, where it is one address
abbrev pub LeavesFirstWritten : ℕ → Description → Description → Type 0
LeavesFirstWritten bytes d there = (frame at : ℕ) → IsAt (Frame frame) at (kind_at d R1) → AreKnown there frame at bytes

-- the freeze of which R1 is a copy is held no more, and other copies are numbers that a freeze may have
abbrev pub LeavesFirstGivenUp : Description → Description → Type 0
LeavesFirstGivenUp d there =
    (name : FreezeName) → kind_at d R1 ≡ Freeze name → (copy : Kind) × IsNumberWithin 1 0xffff_ffff copy × LeavesGivenUp name copy d there

-- What a call changes, but for R0 to R5. A freeze that it takes is held by that name, and may be 0.
abbrev pub LeavesChanged : FreezeName → Change → Description → Description → Type 0
LeavesChanged name changes.Nothing d there = there ≡ d
LeavesChanged name changes.Holds d there = there ≡ record d { held = d.held ++ open_freeze name ∷ [] }
LeavesChanged name changes.GivesUp d there = LeavesFirstGivenUp d there
LeavesChanged name changes.Disposes d there = there ≡ record d { disposed = true }
LeavesChanged name (changes.Writes bytes) d there = ChangesStack d there × LeavesFirstWritten bytes d there

-- what is given: a number of this range, known where it is but one, or a freeze of that name
abbrev pub IsGivenAs : FreezeName → Gives → Kind → Type 0
IsGivenAs name (gives.Number least most) kind = IsNumberWithin least most kind × (least ≡ most → IsKnown least kind)
IsGivenAs name gives.NewFreeze kind = kind ≡ Freeze name

-- the answer is in R0, and all else but R1 to R5 is known as before
pub record LeavesAnswer (kind : Kind) (d there : Description) : Type 0 where
  pub r0 : kind_at there R0 ≡ kind
  pub registers : (reg : Reg) → 6 ≤ number_of reg → kind_at there reg ≡ kind_at d reg
  pub stack : there.stack ≡ d.stack
  pub spills : there.spills ≡ d.spills
  pub held : there.held ≡ d.held
  pub disposal : there.disposed ≡ d.disposed

-- after the call of a helper, by its row: what it changes comes first, and then its answer
pub record LeavesOver (name : FreezeName) (helper : Helper) (d there : Description) : Type 0 where
  pub between : Description
  pub change : LeavesChanged name (row_of helper).machine d between
  pub kind : Kind
  pub given : IsGivenAs name (row_of helper).gives kind
  pub answer : LeavesAnswer kind between there

-- and after that of any: what is in R6 to R10 and no freeze is there as before
pub record LeavesCalled (name : FreezeName) (d : Description) (number : ℤ) (there : Description) : Type 0 where
  pub registers : (reg : Reg) → 6 ≤ number_of reg → (IsFreeze (kind_at d reg) → ⊥) → kind_at there reg ≡ kind_at d reg
  pub depth : length there.stack ≡ length d.stack
  pub known : (frame at : ℕ) → Knows d.stack frame at → Knows there.stack frame at
  pub unspilled : d.spills ≡ [] → there.spills ≡ []
  pub by : (helper : Helper) → helper_of number ≡ Some helper → LeavesOver name helper d there

-- What is known at the start of a local function, and of its caller once that returned. But for what is held of the registers
-- that a call saved, it says nothing of machines.
use Rattle.std.specs.Prelude.{ℕ, ◌<◌, List, take, drop, Option, None, slice_index_or, [], ◌∷◌, ◌≡◌, ◌+◌, ◌/◌, ◌≤◌, nat_lt, length, Some, if◌then◌else◌}
use Rattle.check_register_kinds.specs.declared.kind.Kind.{Kind}
use Rattle.check_register_kinds.specs.declared.kind.Kind.TheVariants.{Unwritten, Number, Address, Freeze}
use Rattle.check_register_kinds.specs.Freezes.{FreezeNumbers, certainty_of}
use Rattle.check_register_kinds.specs.Kinds.{HoldsKind, IsAt}
use Rattle.check_description.specs.Changes.{at}
use Rattle.bpf_insn.specs.declared.reg.Reg.{Reg}
use Rattle.bpf_insn.specs.declared.reg.Reg.TheVariants.{R0, R10}
use Rattle.bpf_insn.specs.Reg.{number_of}
use Rattle.scalar_domain.specs.declared.scalars.Scalar.{Scalar}
use Rattle.scalar_domain.specs.Scalar.{Has}
use Rattle.stack_domain.specs.Stack.{Knows}
use Rattle.check_description.specs.declared.description.Description.{Description}
use Rattle.check_register_kinds.specs.declared.freeze_name.FreezeName.{FreezeName}
use Rattle.check_register_kinds.specs.declared.held.Certainty.{Certainty}
use Rattle.check_register_kinds.specs.declared.held.Certainty.TheVariants.{Sure}
use Rattle.check_register_kinds.specs.declared.held.HeldFreeze.{HeldFreeze}
use Rattle.check_register_kinds.specs.declared.region.Region.TheVariants.{Context, Frame}
use Rattle.check_description.specs.declared.saved.SavedRegister.{SavedRegister}
use Rattle.check_description.specs.declared.saved.SavedRegisters.{SavedRegisters}
use Rattle.check_description.specs.Description.{kind_at}
use Rattle.check_description.specs.Spills.{IsGone, at_place, spill_at}

-- R6 to R9
abbrev pub words_saved : List (Option ℕ) → List (Option ℕ)
words_saved registers = take 4 (drop 6 registers)

-- those kinds hold of them
abbrev pub HoldBack : FreezeNumbers → List Kind → List (Option ℕ) → Type 0
HoldBack numbers kinds os = (k : ℕ) → k < 4 → HoldsKind numbers (slice_index_or kinds k Unwritten) (slice_index_or os k None)

-- the registers of a function that is called, where that is the pointer to its frame: R1 to R5 are its arguments
abbrev pub entered_kinds : List Kind → Kind → List Kind
entered_kinds kinds pointer =
    Unwritten ∷ at kinds 1 ∷ at kinds 2 ∷ at kinds 3 ∷ at kinds 4 ∷ at kinds 5 ∷ Unwritten ∷ Unwritten ∷ Unwritten ∷ Unwritten ∷ pointer ∷ []

-- and of one to which another returned: R0 is the result, and R6 to R9 are kept
abbrev pub left_kinds : Kind → List Kind → Kind → List Kind
left_kinds r0 kept pointer =
    r0 ∷ Unwritten ∷ Unwritten ∷ Unwritten ∷ Unwritten ∷ Unwritten ∷ at kept 0 ∷ at kept 1 ∷ at kept 2 ∷ at kept 3 ∷ pointer ∷ []

-- a saved copy of a freeze is one as long as that is held, and then one of these numbers
abbrev pub copy_back : FreezeName → Scalar → Option Certainty → Kind
copy_back name copies None = Number copies
copy_back name copies (Some certainty) = Freeze name

abbrev pub kind_back_of : List HeldFreeze → Scalar → Kind → Kind
kind_back_of held copies Unwritten = Unwritten
kind_back_of held copies (Number scalar) = Number scalar
kind_back_of held copies (Address region offsets) = Address region offsets
kind_back_of held copies (Freeze name) = copy_back name copies (certainty_of held name)

-- what a saved register is back in its function, where these freezes are held
abbrev pub kind_back : List HeldFreeze → SavedRegister → Kind
kind_back held register = kind_back_of held register.copies register.kind

-- what a result is where so many frames are live
abbrev pub outlived_kind : ℕ → Kind → Kind
outlived_kind live Unwritten = Unwritten
outlived_kind live (Number scalar) = Number scalar
outlived_kind live (Address Context offsets) = Address Context offsets
outlived_kind live (Address (Frame frame) offsets) = if nat_lt frame live then Address (Frame frame) offsets else Unwritten
outlived_kind live (Freeze name) = Freeze name

-- a copy of a freeze that is sure at the call is neither 0 nor too great, once it is a number
abbrev pub IsSureCopy : Description → SavedRegister → Type 0
IsSureCopy d register =
    (name : FreezeName) (number : ℕ) → register.kind ≡ Freeze name → certainty_of d.held name ≡ Some Sure → Has register.copies number → (1 ≤ number) × (number ≤ 0xffff_ffff)

-- at the start of a function that is called
pub record LeavesEntered (saved : SavedRegisters) (d there : Description) : Type 0 where
  pub arguments : (reg : Reg) → 1 ≤ number_of reg → number_of reg ≤ 5 → kind_at there reg ≡ kind_at d reg
  pub pointer : IsAt (Frame (length d.stack)) 512 (kind_at there R10)
  pub saves : (k : ℕ) (default : SavedRegister) → k < 4 → (slice_index_or saved.registers k default).kind ≡ at d.registers (6 + k)
  pub copies : (k : ℕ) (default : SavedRegister) → k < 4 → IsSureCopy d (slice_index_or saved.registers k default)
  pub known : (k offset : ℕ) → Knows d.stack k offset → Knows there.stack k offset
  pub spills : there.spills ≡ d.spills
  pub held : there.held ≡ d.held
  pub disposal : there.disposed ≡ d.disposed

-- back in its caller: no address of a frame that is gone is spilled any more, and bytes in which one was are not known to be
-- written
pub record LeavesReturned (saved : SavedRegisters) (d there : Description) : Type 0 where
  pub result : kind_at there R0 ≡ outlived_kind (length there.stack) (kind_at d R0)
  pub kept : (k : ℕ) (default : SavedRegister) → k < 4 → at there.registers (6 + k) ≡ kind_back d.held (slice_index_or saved.registers k default)
  pub pointer : (frame : ℕ) → frame + 1 ≡ length there.stack → IsAt (Frame frame) 512 (kind_at there R10)
  pub known : (k offset : ℕ) → k < length there.stack → (IsGone (length there.stack) (spill_at d.spills k (offset / 8)) → ⊥) → Knows d.stack k offset → Knows there.stack k offset
  pub outlives : (place : ℕ) → IsGone (length there.stack) (at_place there.spills place) → ⊥
  pub unspilled : d.spills ≡ [] → there.spills ≡ []
  pub held : there.held ≡ d.held
  pub disposal : there.disposed ≡ d.disposed

-- What is known of functions that wait, where a freeze is held no more.
use Rattle.std.proofs.Common.{◌≡◌, ℕ, List, [], ◌∷◌, Option, Some, None, sym, ◌∙◌, inl, inr}
use Rattle.std.proofs.lemmas.Bool.{cases_Bool}
use Rattle.bpf_semantics.specs.MachineState.{OpenCall}
use Rattle.scalar_domain.specs.declared.scalars.Scalar.{Scalar}
use Rattle.check_register_kinds.specs.declared.freeze_name.FreezeName.{FreezeName}
use Rattle.check_register_kinds.specs.declared.kind.Kind.{Kind}
use Rattle.check_register_kinds.specs.declared.kind.Kind.TheVariants.{Unwritten, Number, Address, Freeze}
use Rattle.check_description.specs.declared.saved.SavedRegister.{SavedRegister}
use Rattle.check_description.specs.declared.saved.SavedRegisters.{SavedRegisters}
use Rattle.check_register_kinds.specs.Freezes.{FreezeNumbers, is_name, renumbered}
use Rattle.check_description.specs.OpenCalls.{AreOpen, AreSaved, HoldsAs, HoldsSaved}
use Rattle.check_register_kinds.proofs.Freezes.{renumbered_here, renumbered_other}

-- what is saved holds by other numbers of the freezes too
abbrev pub KeepsSaved : FreezeNumbers → FreezeNumbers → SavedRegister → Type 0
KeepsSaved before after register = (o : Option ℕ) → HoldsSaved before register o → HoldsSaved after register o

saved_kept : (before after : FreezeNumbers) → ((register : SavedRegister) → KeepsSaved before after register) → (registers : List SavedRegister) (os : List (Option ℕ)) → AreSaved before registers os → AreSaved after registers os
saved_kept before after keeps [] [] are = tt
saved_kept before after keeps [] (o ∷ os) are = absurd are
saved_kept before after keeps (register ∷ registers) [] are = absurd are
saved_kept before after keeps (register ∷ registers) (o ∷ os) are = (keeps register o are.0, saved_kept before after keeps registers os are.1)

open_kept : (before after : FreezeNumbers) → ((register : SavedRegister) → KeepsSaved before after register) → (callers : List SavedRegisters) (calls : List OpenCall) → AreOpen before callers calls → AreOpen after callers calls
open_kept before after keeps callers [] are = are
open_kept before after keeps callers (call ∷ calls) (outer, saved, split, its, rest) =
    (outer, saved, split, (its.0, saved_kept before after keeps saved.registers call.saved its.1), open_kept before after keeps outer calls rest)

-- a name stands for none after it was given up
still_saved : (numbers : FreezeNumbers) (name : FreezeName) (kind : Kind) (copies : Scalar) (o : Option ℕ) → HoldsAs numbers kind copies o → HoldsAs (renumbered numbers name None) kind copies o
still_saved numbers name Unwritten copies o holds = tt
still_saved numbers name (Number scalar) copies o holds = holds
still_saved numbers name (Address region offsets) copies o holds = holds
still_saved numbers name (Freeze other) copies o (number, is, has, only) = (
  number,
  is,
  has,
  λ n e. elim (cases_Bool (is_name other name)) [
    | inl same ↦ absurd (let bad : None ≡ Some n = sym (renumbered_here numbers name other None same) ∙ e in cc)
    | inr apart ↦ only n (sym (renumbered_other numbers name other None apart) ∙ e)
  ],
)

pub open_given_up : (numbers : FreezeNumbers) (name : FreezeName) (callers : List SavedRegisters) (calls : List OpenCall) → AreOpen numbers callers calls → AreOpen (renumbered numbers name None) callers calls
open_given_up numbers name callers calls are =
    open_kept numbers (renumbered numbers name None) (λ register o holds. still_saved numbers name register.kind register.copies o holds) callers calls are

-- What is known of functions that wait, where a freeze is taken of which none has a copy.
use Rattle.std.proofs.Common.{◌≡◌, ℕ, false, List, [], ◌∷◌, ◌++◌, Option, Some, refl, sym, subst, ◌∙◌}
use Rattle.std.specs.List.{list_any}
use Rattle.std.proofs.lemmas.Bool.{or_from, or_parts}
use Rattle.bpf_semantics.specs.MachineState.{OpenCall}
use Rattle.scalar_domain.specs.declared.scalars.Scalar.{Scalar}
use Rattle.check_register_kinds.specs.declared.freeze_name.FreezeName.{FreezeName}
use Rattle.check_register_kinds.specs.declared.kind.Kind.{Kind}
use Rattle.check_register_kinds.specs.declared.kind.Kind.TheVariants.{Unwritten, Number, Address, Freeze}
use Rattle.check_description.specs.declared.saved.SavedRegister.{SavedRegister}
use Rattle.check_description.specs.declared.saved.SavedRegisters.{SavedRegisters}
use Rattle.check_register_kinds.specs.Freezes.{FreezeNumbers, renumbered}
use Rattle.check_description.specs.OpenCalls.{AreOpen, AreSaved, HoldsAs}
use Rattle.check_helper_calls.specs.Fresh.{IsFresh, is_copy, is_copy_of, saves}
use Rattle.check_register_kinds.proofs.Freezes.{renumbered_other}
use Rattle.check_description.proofs.OpenCalls.{KeepsSaved}

-- what is saved and is no copy of one freeze holds by other numbers of the freezes too
others_kept : (before after : FreezeNumbers) (name : FreezeName) → ((register : SavedRegister) → is_copy name register ≡ false → KeepsSaved before after register)
    → (registers : List SavedRegister) (os : List (Option ℕ)) → list_any (is_copy name) registers ≡ false → AreSaved before registers os → AreSaved after registers os
others_kept before after name keeps [] [] none are = tt
others_kept before after name keeps [] (o ∷ os) none are = absurd are
others_kept before after name keeps (register ∷ registers) [] none are = absurd are
others_kept before after name keeps (register ∷ registers) (o ∷ os) none are =
    let parts = or_parts (is_copy name register) (list_any (is_copy name) registers) none in
    (keeps register parts.0 o are.0, others_kept before after name keeps registers os parts.1 are.1)

-- the innermost function that waits, and those around it
fresh_parts : (name : FreezeName) (outer : List SavedRegisters) (saved : SavedRegisters) → IsFresh name (outer ++ saved ∷ []) → IsFresh name outer × (saves name saved ≡ false)
fresh_parts name [] saved fresh = (refl, (or_parts (saves name saved) false fresh).0)
fresh_parts name (first ∷ outer) saved fresh =
    let parts = or_parts (saves name first) (list_any (saves name) (outer ++ saved ∷ [])) fresh in
    let rest = fresh_parts name outer saved parts.1 in
    (or_from (saves name first) (list_any (saves name) outer) parts.0 rest.0, rest.1)

others_open : (before after : FreezeNumbers) (name : FreezeName) → ((register : SavedRegister) → is_copy name register ≡ false → KeepsSaved before after register)
    → (callers : List SavedRegisters) (calls : List OpenCall) → IsFresh name callers → AreOpen before callers calls → AreOpen after callers calls
others_open before after name keeps callers [] fresh are = are
others_open before after name keeps callers (call ∷ calls) fresh (outer, saved, split, its, rest) =
    let parts = fresh_parts name outer saved (subst (IsFresh name) split fresh) in
    (outer, saved, split, (its.0, others_kept before after name keeps saved.registers call.saved parts.1 its.1), others_open before after name keeps outer calls parts.0 rest)

-- so does what is known of a register where a freeze is taken of which it is no copy
other_saved : (numbers : FreezeNumbers) (name : FreezeName) (number : ℕ) (kind : Kind) (copies : Scalar) (o : Option ℕ) → is_copy_of name kind ≡ false → HoldsAs numbers kind copies o → HoldsAs (renumbered numbers name (Some number)) kind copies o
other_saved numbers name taken Unwritten copies o apart holds = tt
other_saved numbers name taken (Number scalar) copies o apart holds = holds
other_saved numbers name taken (Address region offsets) copies o apart holds = holds
other_saved numbers name taken (Freeze other) copies o apart (number, is, has, only) = (
  number,
  is,
  has,
  λ n e. only n (sym (renumbered_other numbers name other (Some taken) apart) ∙ e),
)

pub open_taken : (numbers : FreezeNumbers) (name : FreezeName) (number : ℕ) (callers : List SavedRegisters) (calls : List OpenCall) → IsFresh name callers → AreOpen numbers callers calls → AreOpen (renumbered numbers name (Some number)) callers calls
open_taken numbers name number callers calls fresh are =
    others_open numbers (renumbered numbers name (Some number)) name (λ register apart o holds. other_saved numbers name number register.kind register.copies o apart holds) callers calls fresh are

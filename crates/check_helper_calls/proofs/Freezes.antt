-- What becomes of a described machine where a freeze is taken, and what is known of one that is given up.
use Rattle.std.proofs.Common.{◌≡◌, ℕ, ◌<◌, ◌^◌, true, List, [], ◌∷◌, ◌++◌, Option, Some, None, ap, sym, subst, ◌∙◌}
use Rattle.bpf_insn.specs.declared.reg.Reg.TheVariants.{R1}
use Rattle.bpf_semantics.specs.Calls.{is_held}
use Rattle.bpf_semantics.specs.MachineState.{MachineState, register}
use Rattle.bpf_semantics.specs.Step.{IsNewFreeze, held_with}
use Rattle.check_description.specs.declared.description.Description.{Description}
use Rattle.check_register_kinds.specs.declared.freeze_name.FreezeName.{FreezeName}
use Rattle.check_register_kinds.specs.declared.kind.Kind.{Kind}
use Rattle.check_register_kinds.specs.declared.kind.Kind.TheVariants.{Unwritten, Number, Address, Freeze}
use Rattle.check_description.specs.declared.saved.SavedRegisters.{SavedRegisters}
use Rattle.check_helper_calls.specs.Arguments.{IsSureFreeze}
use Rattle.check_description.specs.Description.{DescribesWith, kind_at}
use Rattle.check_description.specs.Spills.{kind_of, spill_at}
use Rattle.check_register_kinds.specs.Freezes.{FreezeNumbers, certainty_of, open_freeze, renumbered}
use Rattle.check_register_kinds.specs.Kinds.{HoldsKind}
use Rattle.check_helper_calls.specs.Fresh.{IsFresh}
use Rattle.check_register_kinds.proofs.Freezes.{held_taken, name_other, no_number, number_is_held, renumbered_other, sure_number}
use Rattle.check_helper_calls.proofs.Fresh.{open_taken}

-- what holds of a register that is no copy of a freeze, whatever number the freeze has
pub other_holds : (numbers : FreezeNumbers) (name : FreezeName) (n o : Option ℕ) (kind : Kind) → (kind ≡ Freeze name → ⊥) → HoldsKind numbers kind o → HoldsKind (renumbered numbers name n) kind o
other_holds numbers name n o Unwritten apart holds = tt
other_holds numbers name n o (Number scalar) apart holds = holds
other_holds numbers name n o (Address region offsets) apart holds = holds
other_holds numbers name n o (Freeze other) apart holds =
    (holds.0, holds.1, renumbered_other numbers name other n (name_other other name (λ e. apart (ap Freeze e))) ∙ holds.2)

pub taken_described : (numbers : FreezeNumbers) (callers : List SavedRegisters) (d : Description) (m : MachineState) (name : FreezeName) (number : ℕ) → DescribesWith numbers callers d m → certainty_of d.held name ≡ None → IsFresh name callers → IsNewFreeze m.held number
    → DescribesWith (renumbered numbers name (Some number)) callers (record d { held = d.held ++ open_freeze name ∷ [] }) (record m { held = held_with m.held number })
taken_described numbers callers d m name number is fresh unsaved new = record {
  registers = λ reg. still (kind_at d reg) _ (is.registers reg);
  count = is.count;
  frames = is.frames;
  standing = is.standing;
  loaded = is.loaded;
  spills = λ frame word few. still (kind_of (spill_at d.spills frame word)) _ (is.spills frame word few);
  bytes = is.bytes;
  context = is.context;
  held = held_taken numbers d.held m.held name number is.held fresh new;
  disposal = is.disposal;
  calls = open_taken numbers name number callers m.open_calls unsaved is.calls;
  depth = is.depth;
}
  where
    -- no register is a copy of a freeze that is not held, and none is spilled
    still : (kind : Kind) (o : Option ℕ) → HoldsKind numbers kind o → HoldsKind (renumbered numbers name (Some number)) kind o
    still kind o holds = other_holds numbers name (Some number) o kind (λ e. no_copy (subst (λ (k : Kind). HoldsKind numbers k o) e holds)) holds
      where
        no_copy : HoldsKind numbers (Freeze name) o → ⊥
        no_copy copy = let bad : None ≡ Some copy.0 = sym (no_number numbers d.held m.held name is.held fresh) ∙ copy.2 in absurd cc

-- a freeze that is sure is among those that the run holds
pub sure_is_held : (numbers : FreezeNumbers) (callers : List SavedRegisters) (d : Description) (m : MachineState) (kind : Kind) (value : ℕ) → DescribesWith numbers callers d m → IsSureFreeze d kind → HoldsKind numbers kind (Some value) → is_held m.held value ≡ true
sure_is_held numbers callers d m kind value is (name, same, sure) holds =
    let copy = subst (λ (k : Kind). HoldsKind numbers k (Some value)) same holds in
    let both : value ≡ copy.0 = let e = copy.1 in cc in
    let its : numbers name ≡ Some value = copy.2 ∙ ap Some (sym both) in
    number_is_held numbers d.held m.held name value is.held its (sure_number numbers d.held m.held name value is.held sure its).0

-- the number of a freeze that is sure, where R1 is a copy of it
pub copied_number : (numbers : FreezeNumbers) (callers : List SavedRegisters) (d : Description) (m : MachineState) (name : FreezeName) (freeze : ℕ) → DescribesWith numbers callers d m → kind_at d R1 ≡ Freeze name → IsSureFreeze d (kind_at d R1) → register m R1 ≡ Some freeze
    → (numbers name ≡ Some freeze) × (0 < freeze) × (freeze < 2 ^ 32)
copied_number numbers callers d m name freeze is same (known, known_same, sure) at =
    let copy = subst (λ (k : Kind). HoldsKind numbers k (register m R1)) same (is.registers R1) in
    let both : Some freeze ≡ Some copy.0 = sym at ∙ copy.1 in
    let its : numbers name ≡ Some freeze = copy.2 ∙ sym both in
    let kinds : Freeze known ≡ Freeze name = sym known_same ∙ same in
    let one : known ≡ name = cc in
    let range = sure_number numbers d.held m.held name freeze is.held (ap (certainty_of d.held) (sym one) ∙ sure) its in
    (its, range.0, range.1)

-- What becomes of a machine is described by what becomes of its description.
use Rattle.std.proofs.Common.{◌≡◌, ℕ, ◌<◌, List, [], Option, Some, None, IfSome, length, get_or, refl, ap, sym, subst, ◌∙◌, arith, inl, inr, ne_eqb, get_or-set_other}
use Rattle.std.specs.Prelude.{slice_index_or}
use Rattle.std.proofs.Math.ListN.{length-set}
use Rattle.std.proofs.lemmas.Bool.{cases_eq}
use Rattle.std.proofs.lemmas.Grind.{get_or-set_at}
use Rattle.bpf_insn.specs.declared.reg.Reg.{Reg}
use Rattle.bpf_insn.specs.Reg.{number_of}
use Rattle.bpf_semantics.specs.MachineState.{MachineState, moved_to, register, with_register}
use Rattle.stack_domain.specs.declared.numbers.NumberPlace.{NumberPlace}
use Rattle.stack_domain.specs.Numbers.{AreStanding, number_in}
use Rattle.stack_domain.specs.Stack.{MarksCover as CoversFrames}
use Rattle.check_description.specs.declared.description.Description.{Description}
use Rattle.check_description.specs.declared.description.Loaded.{Loaded}
use Rattle.check_register_kinds.specs.declared.held.HeldFreeze.{HeldFreeze}
use Rattle.check_register_kinds.specs.declared.kind.Kind.{Kind}
use Rattle.check_register_kinds.specs.declared.kind.Kind.TheVariants.{Unwritten}
use Rattle.check_description.specs.declared.saved.SavedRegisters.{SavedRegisters}
use Rattle.check_description.specs.Description.{DescribesWith, HoldsLoaded, IsStillLoaded, kind_at}
use Rattle.check_description.specs.Spills.{AreSpilled}
use Rattle.check_private_insns.specs.Enough.{ChangesOnly, Replaces}
use Rattle.check_register_kinds.specs.Freezes.{AreHeld, FreezeNumbers}
use Rattle.check_register_kinds.specs.Kinds.{HoldsKind}
use Rattle.check_description.proofs.RegisterPlaces.{number_below}

holds_as : (numbers : FreezeNumbers) (a b : Kind) (o p : Option ℕ) → a ≡ b → o ≡ p → HoldsKind numbers b p → HoldsKind numbers a o
holds_as numbers a b o p same_kind same h = subst (λ (k : Kind). HoldsKind numbers k o) (sym same_kind) (subst (HoldsKind numbers b) (sym same) h)

-- wherever the machine stands
pub moved_described : (numbers : FreezeNumbers) (callers : List SavedRegisters) (d : Description) (m : MachineState) (place : ℕ) → DescribesWith numbers callers d m → DescribesWith numbers callers d (moved_to m place)
moved_described numbers callers d m place is = record {
  registers = is.registers;
  count = is.count;
  frames = is.frames;
  standing = is.standing;
  loaded = is.loaded;
  spills = is.spills;
  bytes = is.bytes;
  context = is.context;
  held = is.held;
  disposal = is.disposal;
  calls = is.calls;
  depth = is.depth;
}

-- a register is written, and its kind holds of the word
pub set_described : (numbers : FreezeNumbers) (callers : List SavedRegisters) (d there : Description) (m : MachineState) (dst : Reg) (word place : ℕ) → ChangesOnly dst d there → there.numbers ≡ d.numbers → IsStillLoaded (with_register m dst word).registers m.frames there.loaded → HoldsKind numbers (kind_at there dst) (Some word) → DescribesWith numbers callers d m → DescribesWith numbers callers there (moved_to (with_register m dst word) place)
set_described numbers callers d there m dst word place only kept linked holds is = record {
  registers = go;
  count = length-set m.registers (number_of dst) (Some word) ∙ is.count;
  frames = subst (λ stack. CoversFrames stack m.frames) (sym only.stack) is.frames;
  spills = subst (λ spills. AreSpilled numbers spills m.frames) (sym only.spills) is.spills;
  standing = subst (AreStanding m.frames) (sym kept) is.standing;
  loaded = linked;
  bytes = is.bytes;
  context = is.context;
  held = subst (λ (held : List HeldFreeze). AreHeld numbers held m.held) (sym only.held) is.held;
  disposal = is.disposal ∙ sym only.disposal;
  calls = is.calls;
  depth = is.depth;
}
  where
    go : (reg : Reg) → HoldsKind numbers (kind_at there reg) (register (with_register m dst word) reg)
    go reg = elim (cases_eq (number_of reg) (number_of dst)) [
      | inl same ↦ holds_as numbers _ _ _ _ (ap (λ n. get_or there.registers n Unwritten) same) (get_or-set_at m.registers (number_of dst) (number_of reg) (Some word) None same (omega (arith, is.count, number_below dst))) holds
      | inr other ↦ holds_as numbers _ _ _ _ (only.others reg (ne_eqb _ _ other)) (get_or-set_other m.registers (number_of dst) (number_of reg) (Some word) None other) (is.registers reg)
    ]

-- another one that was loaded last still holds what stands there
other_loaded : (d : Description) (m : MachineState) (dst : Reg) (word : ℕ) (linked : Option Loaded) → IfSome linked (λ l. (d.loaded ≡ Some l) × (number_of l.reg ≡ number_of dst → ⊥)) → IsStillLoaded m.registers m.frames d.loaded → IsStillLoaded (with_register m dst word).registers m.frames linked
other_loaded d m dst word None kept still = tt
other_loaded d m dst word (Some l) kept still =
    let was : HoldsLoaded m.registers m.frames l = subst (IsStillLoaded m.registers m.frames) kept.0 still in
    record {
      live = was.live;
      word = was.word;
      stands = was.stands;
      holds = get_or-set_other m.registers (number_of dst) (number_of l.reg) (Some word) None kept.1 ∙ was.holds;
    }

-- and is not the one that was loaded last
pub replaced_described : (numbers : FreezeNumbers) (callers : List SavedRegisters) (d there : Description) (m : MachineState) (dst : Reg) (word place : ℕ) → Replaces dst d there → HoldsKind numbers (kind_at there dst) (Some word) → DescribesWith numbers callers d m → DescribesWith numbers callers there (moved_to (with_register m dst word) place)
replaced_described numbers callers d there m dst word place replaces holds is = set_described numbers callers d there m dst word place replaces.only replaces.numbers (other_loaded d m dst word there.loaded replaces.loaded is.loaded) holds is

-- more is known of a register
pub narrowed_described : (numbers : FreezeNumbers) (callers : List SavedRegisters) (d there : Description) (m : MachineState) (dst : Reg) → ChangesOnly dst d there → there.numbers ≡ d.numbers → there.loaded ≡ d.loaded → HoldsKind numbers (kind_at there dst) (register m dst) → DescribesWith numbers callers d m → DescribesWith numbers callers there m
narrowed_described numbers callers d there m dst only kept linked holds is = record {
  registers = go;
  count = is.count;
  frames = subst (λ stack. CoversFrames stack m.frames) (sym only.stack) is.frames;
  spills = subst (λ spills. AreSpilled numbers spills m.frames) (sym only.spills) is.spills;
  standing = subst (AreStanding m.frames) (sym kept) is.standing;
  loaded = subst (IsStillLoaded m.registers m.frames) (sym linked) is.loaded;
  bytes = is.bytes;
  context = is.context;
  held = subst (λ (held : List HeldFreeze). AreHeld numbers held m.held) (sym only.held) is.held;
  disposal = is.disposal ∙ sym only.disposal;
  calls = is.calls;
  depth = is.depth;
}
  where
    go : (reg : Reg) → HoldsKind numbers (kind_at there reg) (register m reg)
    go reg = elim (cases_eq (number_of reg) (number_of dst)) [
      | inl same ↦ holds_as numbers _ _ _ _ (ap (λ n. get_or there.registers n Unwritten) same) (ap (λ n. get_or m.registers n None) same) holds
      | inr other ↦ holds_as numbers _ _ _ _ (only.others reg (ne_eqb _ _ other)) refl (is.registers reg)
    ]

-- the register that was loaded holds what stands where it was loaded from
pub still_loaded : (d : Description) (m : MachineState) (dst : Reg) (word : ℕ) (place : Option NumberPlace) (linked : Option Loaded) → length m.registers ≡ 11 → IfSome linked (λ l. (l.reg ≡ dst) × (place ≡ Some l.place))
    → IfSome place (λ p. (p.frame < length m.frames) × (number_in p.bytes p.offset (slice_index_or m.frames p.frame []) ≡ Some word)) → IsStillLoaded (with_register m dst word).registers m.frames linked
still_loaded d m dst word place None count is there = tt
still_loaded d m dst word place (Some l) count is there =
    let here = subst (λ (o : Option NumberPlace). IfSome o (λ p. (p.frame < length m.frames) × (number_in p.bytes p.offset (slice_index_or m.frames p.frame []) ≡ Some word))) is.1 there in
    record {
      live = here.0;
      word = word;
      stands = here.1;
      holds = get_or-set_at m.registers (number_of dst) (number_of l.reg) (Some word) None (ap number_of is.0) (omega (arith, count, number_below dst));
    }

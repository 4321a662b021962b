-- A conditional jump: no machine is stuck, and what goes one way is described by what that way tells.
use Rattle.std.proofs.Common.{◌≡◌, ℕ, ℤ, true, Bool, List, Some, ap, sym, subst, ◌∙◌, inl, inr}
use Rattle.bpf_insn.specs.declared.insn.Condition.{Condition}
use Rattle.bpf_insn.specs.declared.insn.Insn.{Insn}
use Rattle.bpf_insn.specs.declared.insn.Insn.TheVariants.{JumpIf}
use Rattle.bpf_insn.specs.declared.insn.Operand.{Operand}
use Rattle.bpf_insn.specs.declared.insn.Width.{Width}
use Rattle.bpf_insn.specs.declared.reg.Reg.{Reg}
use Rattle.bpf_semantics.specs.MachineState.{MachineState, register}
use Rattle.bpf_semantics.specs.Step.{jump_if, operand}
use Rattle.bpf_words.specs.Words.{holds_of}
use Rattle.check_register_kinds.specs.declared.comparison.Finding.{Finding}
use Rattle.check_description.specs.declared.description.Description.{Description}
use Rattle.check_private_insns.specs.declared.way.Way.{Way}
use Rattle.check_private_insns.specs.declared.way.Way.TheVariants.{FallThrough, Taken}
use Rattle.check_register_kinds.specs.declared.kind.Kind.{Kind}
use Rattle.check_description.specs.declared.saved.SavedRegisters.{SavedRegisters}
use Rattle.check_description.specs.Description.{Describes, DescribesWith, kind_at}
use Rattle.check_register_kinds.specs.Finds.{FindsWay, Found}
use Rattle.check_private_insns.specs.Follows.{Follows, GoesBy, jumps, jumps_if}
use Rattle.check_register_kinds.specs.Freezes.{FreezeNumbers}
use Rattle.check_private_insns.specs.GoesOn.{is_taken}
use Rattle.check_register_kinds.specs.Kinds.{HoldsKind}
use Rattle.check_private_insns.proofs.Described.{moved_described}
use Rattle.check_private_insns.proofs.GoingOn.{some_same}

pub goes_as : (m : MachineState) (insn : Insn) (way : Way) → GoesBy m insn way → jumps m insn ≡ is_taken way
goes_as m insn FallThrough goes = goes
goes_as m insn Taken goes = goes

-- what a finding tells of the machines of which it is true
abbrev pub Learns : Description → Reg → Operand → Finding → Bool → Description → Type 0
Learns d dst src finding is_open there =
    (numbers : FreezeNumbers) (callers : List SavedRegisters) (a b : ℕ) (m : MachineState) → DescribesWith numbers callers d m → register m dst ≡ Some a → operand m src ≡ Some b → Found numbers a b finding →
    (is_open ≡ true) × Describes callers there m

pub jump_follows : (d there : Description) (width : Width) (condition : Condition) (dst : Reg) (src : Operand) (way : Way) (offset : ℤ) (first second : Kind) (finding : Finding) (is_open : Bool) → first ≡ kind_at d dst → ((numbers : FreezeNumbers) (callers : List SavedRegisters) (m : MachineState) → DescribesWith numbers callers d m → HoldsKind numbers second (operand m src)) → ((numbers : FreezeNumbers) → FindsWay numbers width condition (is_taken way) first second finding) → Learns d dst src finding is_open there → (callers : List SavedRegisters) → Follows callers (JumpIf width condition dst src offset) way d is_open there
jump_follows d there width condition dst src way offset first second finding is_open first_is holds finds learns = λ callers m m' (numbers, is) goes steps.
    let words = finds numbers (register m dst) (operand m src) (rw first_is (is.registers dst)) (holds numbers callers m is) in
    let goes_if : jumps_if width condition (register m dst) (operand m src) ≡ holds_of width condition words.0 words.1 = ap (λ o. jumps_if width condition o (operand m src)) words.2 ∙ ap (jumps_if width condition (Some words.0)) words.3 in
    let known = learns numbers callers words.0 words.1 m is words.2 words.3 (words.4 (sym goes_if ∙ goes_as m (JumpIf width condition dst src offset) way goes)) in
    let steps_to = ap (λ o. jump_if m width condition offset o (operand m src)) words.2 ∙ ap (jump_if m width condition offset (Some words.0)) words.3 in
    elim steps [
      | inl e ↦ (known.0, (known.1.0, subst (DescribesWith known.1.0 callers there) (some_same _ _ (sym steps_to ∙ e)) (moved_described known.1.0 callers there m _ known.1.1)))
      | inr call ↦ let bad = call.2 in absurd cc
    ]

use Rattle.std.proofs.Common.{◌≡◌, Some, subst}
use Rattle.bpf_insn.specs.declared.insn.Operand.{Operand}
use Rattle.bpf_semantics.specs.MachineState.{register}
use Rattle.bpf_semantics.specs.Step.{operand}
use Rattle.check_description.specs.Description.{kind_at}
use Rattle.check_private_insns.specs.Enough.{IsNumberOperand}
use Rattle.check_register_kinds.specs.Kinds.{IsNumber}
use Rattle.check_private_insns.proofs.StaysKnown.{known_twice, number_known, still_number}
use Rattle.check_private_insns.proofs.jumping.narrow.Goals as goal

pub returns-in-Register-clause-means : goal.returns-in-Register-clause-means
returns-in-Register-clause-means c = λ numbers callers a b m is first second left right.
    let reg = c.in-Register.reg in
    let here : register m reg ≡ Some b = subst (λ (s : Operand). operand m s ≡ Some b) c.in-Register.is second in
    c.narrow_one-in-Register.ensures.means numbers callers m b (c.narrow_one.ensures.means numbers callers m a is first left) here right

pub returns-in-Register-clause-known : goal.returns-in-Register-clause-known
returns-in-Register-clause-known c = λ compares.
    let reg = c.in-Register.reg in
    let second : IsNumber (kind_at c.args.description.now reg) = subst (IsNumberOperand c.args.description.now) c.in-Register.is compares.second in
    let first = number_known c.args.description.now c.narrow_one.new.description c.args.dst compares.first (rw c.narrow_one.ensures.set tt) c.narrow_one.ensures.only in
    known_twice c.args.description.now c.narrow_one.new.description c.narrow_one-in-Register.new.description first (number_known c.narrow_one.new.description c.narrow_one-in-Register.new.description reg (still_number (kind_at c.args.description.now reg) (kind_at c.narrow_one.new.description reg) second (first.registers reg)) (rw c.narrow_one-in-Register.ensures.set tt) c.narrow_one-in-Register.ensures.only)

use Rattle.std.proofs.Common.{◌≡◌, pos, ◌∙◌, inl, inr, subst}
use Rattle.bpf_insn.specs.declared.insn.Operand.{Operand}
use Rattle.check_private_insns.specs.Enough.{IsMoved}
use Rattle.check_register_kinds.specs.Finds.{found_of}
use Rattle.check_private_insns.specs.GoesOn.{is_taken}
use Rattle.check_register_kinds.specs.Kinds.{IsKnown}
use Rattle.check_private_insns.proofs.Jumps.{jump_follows}
use Rattle.check_private_insns.proofs.jumping.jump_if.Goals as goal

pub returns-clause-follows : goal.returns-clause-follows
returns-clause-follows c = λ callers offset.
    jump_follows c.args.description.now c.learn.new.description c.args.width c.args.condition c.args.dst c.args.src c.args.way offset c.kind-first.result c.operand-second.result c.in_ok-finding.finding c.learn.result c.kind-first.ensures c.operand-second.ensures.holds (rw c.is_taken-taken.ensures at c.in_ok-finding.ensures.means) c.learn.ensures.means callers

pub returns-clause-leaves : goal.returns-clause-leaves
returns-clause-leaves c = λ enough goes. record {
  numbers = λ compares. c.learn.ensures.numbers compares (c.in_ok-finding.ensures.numbers (rw c.kind-first.ensures compares.first) (c.operand-second.ensures.number compares.second));
  tested = λ tests.
      let zero_is : IsKnown 0 c.operand-second.result = subst (λ (s : Operand). IsMoved c.args.description.now s c.operand-second.result) tests.zero_constant c.operand-second.ensures.moved in
      let is = rw c.is_taken-taken.ensures at (c.in_ok-finding.ensures.equal tests.name (c.kind-first.ensures ∙ tests.freeze) tests.all (c.is_constant.ensures.constant (pos 0) tests.zero_constant) zero_is tests.equal) in
      let found : c.in_ok-finding.finding ≡ found_of tests.name (is_taken c.args.way) = cc in
      c.learn.ensures.tested c.args.way tests.name found goes;
}

pub returns-in_err-finding-clause-leaves : goal.returns-in_err-finding-clause-leaves
returns-in_err-finding-clause-leaves c = λ enough. elim enough [
  | inl compares ↦ absurd (c.in_err-finding.ensures.numbers (rw c.kind-first.ensures compares.first) (c.operand-second.ensures.number compares.second))
  | inr tests ↦
      let zero_is : IsKnown 0 c.operand-second.result = subst (λ (s : Operand). IsMoved c.args.description.now s c.operand-second.result) tests.zero_constant c.operand-second.ensures.moved in
      let bad = c.in_err-finding.ensures.equal tests.name (c.kind-first.ensures ∙ tests.freeze) tests.all (c.is_constant.ensures.constant (pos 0) tests.zero_constant) zero_is tests.equal in
      absurd cc
]

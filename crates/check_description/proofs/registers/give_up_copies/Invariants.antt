use Rattle.std.proofs.Common.{ℕ, ◌≡◌, ◌<◌, ◌≤◌, length}
use Rattle.check_register_kinds.specs.Kinds.{GivesUpKind}
use Rattle.check_description.specs.Changes.{at}
use Rattle.check_description.proofs.registers.give_up_copies.Given as goal

-- those before this one are changed, and the others not yet
abbrev pub invariant-loop-reg : goal.invariant-loop-reg
invariant-loop-reg l = record {
  count : length l.registers ≡ 11;
  done : (i : ℕ) → i < l.reg → GivesUpKind l.name l.copies (at l.fn.registers i) (at l.registers i);
  rest : (i : ℕ) → l.reg ≤ i → at l.registers i ≡ at l.fn.registers i;
}

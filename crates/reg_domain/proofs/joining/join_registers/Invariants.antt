use Rattle.std.proofs.Common.{ℕ, ◌≡◌, ◌<◌, ◌≤◌, length}
use Rattle.reg_domain.specs.AllRegisters.{Joins}
use Rattle.check_description.specs.Changes.{at}
use Rattle.reg_domain.proofs.joining.join_registers.Given as goal

-- those before this one are joined, and the others not yet
abbrev pub invariant-loop-reg : goal.invariant-loop-reg
invariant-loop-reg l = record {
  count : length l.registers ≡ 11;
  done : (i : ℕ) → i < l.reg → Joins (at l.fn.registers i) (at l.other i) (at l.registers i);
  rest : (i : ℕ) → l.reg ≤ i → at l.registers i ≡ at l.fn.registers i;
}

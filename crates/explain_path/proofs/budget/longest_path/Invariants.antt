use Rattle.explain_path.specs.Passes.{standing}
use Rattle.explain_path.proofs.Remaining.{IsWalked}
use Rattle.explain_path.proofs.budget.longest_path.Given as goal

abbrev pub invariant-loop-slot : goal.invariant-loop-slot
invariant-loop-slot l = IsWalked l.program l.lengths.items l.slots.items (standing l.at l.returns.items) l._slot

use Rattle.interpreter.proofs.Budgets.{segment_within}
use Rattle.interpreter.proofs.laws.each_within_budget.Goals as goal

pub returns : goal.returns
returns c = segment_within

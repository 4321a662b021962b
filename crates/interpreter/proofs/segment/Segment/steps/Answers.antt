use Rattle.interpreter.proofs.Budgets.{segment_within}
use Rattle.interpreter.proofs.segment.Segment.steps.Goals as goal

pub returns-clause-budget : goal.returns-clause-budget
returns-clause-budget c = rw (← c.self.view_is) (segment_within _ c.self.invariant)

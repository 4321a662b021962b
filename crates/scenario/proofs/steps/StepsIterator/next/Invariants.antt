use Rattle.std.proofs.Common.{◌≡◌, length}
use Rattle.scenario.specs.Left.{steps_left}
use Rattle.scenario.specs.Steps.{lines_left}
use Rattle.scenario.proofs.steps.StepsIterator.next.Given as goal

abbrev pub invariant-loop-number : goal.invariant-loop-number
invariant-loop-number l = steps_left l.self ≡ steps_left l.fn.self

abbrev pub decreases-loop-number : goal.decreases-loop-number
decreases-loop-number l = length (lines_left l.self.rest)

-- those of the controllers so far are added
use Rattle.std.proofs.Common.{◌≡◌, ◌++◌}
use Rattle.host_decision.specs.Decided.{controller, left_below}
use Rattle.host_decision.proofs.decision.add_of_controllers.Given as goal

abbrev pub invariant-loop-controller : goal.invariant-loop-controller
invariant-loop-controller l = l.others.items ≡ l.fn.others.items ++ left_below controller l.ran.engine l.ran.freeze l.controller

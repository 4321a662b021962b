-- those of the queues so far are added
use Rattle.std.proofs.Common.{◌≡◌, ◌++◌}
use Rattle.ccb.specs.Places.{device}
use Rattle.host_decision.specs.Decided.{left_below}
use Rattle.host_decision.proofs.decision.add_of_queues.Given as goal

abbrev pub invariant-loop-queue : goal.invariant-loop-queue
invariant-loop-queue l = l.others.items ≡ l.fn.others.items ++ left_below device l.ran.engine l.ran.freeze l.queue

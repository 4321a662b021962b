-- none of the holders so far is that freeze's
use Rattle.std.proofs.Common.{◌≡◌}
use Rattle.host_decision.specs.Decided.{time_at, time_in}
use Rattle.host_decision.proofs.decision.left_for.Given as goal

abbrev pub invariant-loop-number : goal.invariant-loop-number
invariant-loop-number l =
    (goal.iterator-loop-number).can_next l.number-iterator × (goal.iterator-loop-number).is_finite l.number-iterator
    × (time_at l.ran.engine l.fn.place l.freeze ≡ time_in l.freeze l.ran.engine.transport.clock l.number-iterator)

-- those so far are added
use Rattle.std.proofs.Common.{◌≡◌, ◌++◌}
use Rattle.host_decision.specs.Decided.{left_in}
use Rattle.host_decision.proofs.decision.add_held.Given as goal

abbrev pub invariant-loop-number : goal.invariant-loop-number
invariant-loop-number l =
    (goal.iterator-loop-number).can_next l.number-iterator × (goal.iterator-loop-number).is_finite l.number-iterator
    × (l.others.items ++ left_in l.place l.own l.clock l.number-iterator ≡ l.fn.others.items ++ left_in l.place l.own l.clock l.fn.holders)

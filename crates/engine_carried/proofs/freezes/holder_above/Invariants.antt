use Rattle.std.proofs.Common.{◌≡◌}
use Rattle.engine_carried.specs.FreezeAbove.{holder_above}
use Rattle.engine_carried.proofs.freezes.holder_above.Given as goal

-- it is among the freezes that are left
abbrev pub invariant-loop-number : goal.invariant-loop-number
invariant-loop-number l =
    (goal.iterator-loop-number).can_next l.number-iterator × (goal.iterator-loop-number).is_finite l.number-iterator
    × (holder_above l.place l.after l.fn.holders ≡ holder_above l.place l.after l.number-iterator)

use Rattle.std.proofs.Common.{◌≡◌, ◌+◌, ◌++◌, map, vec_len}
use Rattle.std.specs.Prelude.{vec_capacity}
use Rattle.workers.specs.Serving.{at_rest}
use Rattle.workers.proofs.serving.take_seats.Given as goal

abbrev pub invariant-loop-seats : goal.invariant-loop-seats
invariant-loop-seats g l = (l.workers.items ++ map at_rest l.seats.items ≡ map at_rest l.fn.seats.items)
    × (vec_capacity l.seats ≡ vec_capacity l.fn.seats)
    × (vec_capacity l.workers ≡ vec_capacity l.fn.workers)
    × (vec_len l.workers + vec_len l.seats ≡ vec_len l.fn.seats)

abbrev pub decreases-loop-seats : goal.decreases-loop-seats
decreases-loop-seats g l = vec_len l.seats

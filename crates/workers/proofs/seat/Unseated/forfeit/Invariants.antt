use Rattle.std.proofs.Common.{vec_len}
use Rattle.workers.proofs.seat.Unseated.forfeit.Given as goal

abbrev pub decreases-loop-seat : goal.decreases-loop-seat
decreases-loop-seat g l = vec_len l.seats

abbrev pub decreases-loop-pass : goal.decreases-loop-pass
decreases-loop-pass g l = vec_len l.passes

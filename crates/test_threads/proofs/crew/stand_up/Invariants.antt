use Rattle.std.proofs.Common.{vec_len}
use Rattle.test_threads.proofs.crew.stand_up.Given as goal

abbrev pub decreases-loop-seat : goal.decreases-loop-seat
decreases-loop-seat g l = vec_len l.seats

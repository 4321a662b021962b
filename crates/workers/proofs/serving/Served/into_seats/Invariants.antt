use Rattle.std.proofs.Common.{vec_len}
use Rattle.workers.proofs.serving.Served.into_seats.Given as goal

abbrev pub decreases-loop-run : goal.decreases-loop-run
decreases-loop-run g l = vec_len l.runs

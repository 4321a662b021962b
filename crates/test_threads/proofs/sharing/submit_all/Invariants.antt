use Rattle.std.proofs.Common.{vec_len}
use Rattle.test_threads.proofs.sharing.submit_all.Given as goal

abbrev pub decreases-loop-caller : goal.decreases-loop-caller
decreases-loop-caller g l = vec_len l.callers

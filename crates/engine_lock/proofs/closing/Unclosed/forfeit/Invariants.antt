use Rattle.std.proofs.Common.{vec_len}
use Rattle.engine_lock.proofs.closing.Unclosed.forfeit.Given as goal

abbrev pub decreases-loop-caller : goal.decreases-loop-caller
decreases-loop-caller g l = vec_len l.callers

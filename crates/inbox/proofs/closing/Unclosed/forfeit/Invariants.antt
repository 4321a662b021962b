use Rattle.std.proofs.Common.{vec_len}
use Rattle.inbox.proofs.closing.Unclosed.forfeit.Given as goal

abbrev pub decreases-loop-pass : goal.decreases-loop-pass
decreases-loop-pass l = vec_len l.puts

abbrev pub decreases-loop-pass-2 : goal.decreases-loop-pass-2
decreases-loop-pass-2 l = vec_len l.takes

use Rattle.std.proofs.Common.{length}
use Rattle.test_cases.proofs.escapes.push.Given as goal

abbrev pub decreases-loop-rest : goal.decreases-loop-rest
decreases-loop-rest l = length l.rest

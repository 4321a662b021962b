-- As many ones as leading zeros leave.
use Rattle.std.proofs.Common.{arith}
use Rattle.scalar_domain.proofs.Subsets.{ones_left}
use Rattle.scalar_domain.proofs.bits.ones_over.Goals as goal

pub returns-else-word-eq0 : goal.returns-else-word-eq0
returns-else-word-eq0 c = ones_left c.args.word (omega arith) c.if-word-eq0.false

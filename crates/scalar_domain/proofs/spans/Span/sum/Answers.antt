-- Where some sums pass 2^64 and others do not, any word.
use Rattle.std.proofs.Common.{arith}
use Rattle.scalar_domain.proofs.spans.Span.sum.Goals as goal

pub returns-else-least-most : goal.returns-else-least-most
returns-else-least-most c = λ a b h k. c.any.ensures _ (omega arith)

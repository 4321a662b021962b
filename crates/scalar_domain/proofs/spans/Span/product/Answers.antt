-- A product that does not fit may be any word.
use Rattle.std.proofs.Common.{arith}
use Rattle.scalar_domain.proofs.spans.Span.product.Goals as goal

pub returns-in-None : goal.returns-in-None
returns-in-None c = λ a b h k. c.any.ensures _ (omega arith)

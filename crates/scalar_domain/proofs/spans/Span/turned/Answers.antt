-- Where the sign differs, any place.
use Rattle.std.proofs.Common.{arith}
use Rattle.scalar_domain.proofs.spans.Span.turned.Goals as goal

pub returns-else-self : goal.returns-else-self
returns-else-self c = λ w fits p. c.any.ensures _ (omega arith)

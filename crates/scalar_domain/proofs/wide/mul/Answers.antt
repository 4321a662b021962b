-- By the unsigned ranges.
use Rattle.std.proofs.Common.{arith}
use Rattle.scalar_domain.proofs.wide.mul.Goals as goal

pub returns : goal.returns
returns c = λ a b h k. c.by_unsigned.ensures _ (omega arith) (c.product.ensures a b h.in_unsigned k.in_unsigned)

-- By the unsigned ranges.
use Rattle.std.proofs.Common.{arith}
use Rattle.scalar_domain.proofs.Moved.{moved_within}
use Rattle.scalar_domain.proofs.Remainders.{low_quotient}
use Rattle.scalar_domain.proofs.wide.div.Goals as goal

pub returns : goal.returns
returns c = λ a b h k. c.by_unsigned.ensures _ (omega arith) (moved_within _ _ _ (low_quotient a b h.fits) (c.quotient.ensures a b h.in_unsigned k.in_unsigned))

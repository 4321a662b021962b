-- By the unsigned ranges; a greater word leaves the word.
use Rattle.std.proofs.Common.{◌∙◌, arith}
use Rattle.scalar_domain.proofs.Moved.{moved_within, moved_has}
use Rattle.scalar_domain.proofs.Remainders.{left_by_greater, low_remainder}
use Rattle.scalar_domain.proofs.wide.modulo.Goals as goal

pub returns-then-left-right : goal.returns-then-left-right
returns-then-left-right c = λ a b h k. moved_has _ _ _ (low_remainder a b h.fits ∙ left_by_greater a b (omega (arith, h.in_unsigned.to_most, k.in_unsigned.from_least))) h

pub returns-else-left-right : goal.returns-else-left-right
returns-else-left-right c = λ a b h k. c.by_unsigned.ensures _ (omega arith) (moved_within _ _ _ (low_remainder a b h.fits) (c.remainder.ensures a b h.in_unsigned k.in_unsigned))

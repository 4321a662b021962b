-- A difference is the sum with the complement and 1.
use Rattle.std.proofs.Common.{arith}
use Rattle.scalar_domain.proofs.Moved.{moved_within}
use Rattle.scalar_domain.proofs.wide.sub.Goals as goal

pub returns : goal.returns
returns c = λ a b h k. c.tightened.ensures.has _ (record {
  fits = omega arith;
  in_unsigned = moved_within _ _ _ (omega arith) (c.sum.ensures a _ h.in_unsigned (c.complement.ensures b k.fits k.in_unsigned));
  in_signed = moved_within _ _ _ (omega arith) (c.sum-2.ensures _ _ h.in_signed (c.complement-2.ensures _ (omega arith) k.in_signed));
  in_bits = c.any.ensures _ (omega arith);
})

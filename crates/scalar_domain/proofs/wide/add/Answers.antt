-- The place of a sum is the sum of the places and of the sign.
use Rattle.std.proofs.Common.{arith}
use Rattle.scalar_domain.proofs.Moved.{moved_within}
use Rattle.scalar_domain.proofs.wide.add.Goals as goal

pub returns : goal.returns
returns c = λ a b h k. c.tightened.ensures.has _ (record {
  fits = omega arith;
  in_unsigned = moved_within _ _ _ (omega arith) (c.sum.ensures a b h.in_unsigned k.in_unsigned);
  in_signed = moved_within _ _ _ (omega arith) (c.sum-2.ensures _ _ h.in_signed k.in_signed);
  in_bits = c.any.ensures _ (omega arith);
})

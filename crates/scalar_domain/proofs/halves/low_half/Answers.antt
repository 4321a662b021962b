-- Part by part.
use Rattle.std.proofs.Common.{arith}
use Rattle.scalar_domain.proofs.halves.low_half.Goals as goal

pub returns : goal.returns
returns c = λ w h. c.tightened.ensures.has _ (record {
  fits = omega arith;
  in_unsigned = c.low_span.ensures w h.in_unsigned;
  in_signed = c.any.ensures _ (omega arith);
  in_bits = c.low_bits.ensures w h.in_bits;
})

-- Part by part.
use Rattle.scalar_domain.proofs.halves.with_low_half.Goals as goal

pub returns-clause-has : goal.returns-clause-has
returns-clause-has c = λ w h k. c.tightened.ensures.has w (record {
  fits = h.fits;
  in_unsigned = c.meet.ensures.kept w h.in_unsigned (c.span_by_low.ensures w h.fits h.in_unsigned k.in_unsigned);
  in_signed = h.in_signed;
  in_bits = c.meet-2.ensures.kept w h.in_bits (c.bits_by_low.ensures w h.fits k.in_bits);
})

pub returns-clause-only : goal.returns-clause-only
returns-clause-only c = λ w h. let k = c.tightened.ensures.only w h in record {
  fits = k.fits;
  in_unsigned = c.meet.ensures.in_self w k.in_unsigned;
  in_signed = k.in_signed;
  in_bits = c.meet-2.ensures.in_self w k.in_bits;
}

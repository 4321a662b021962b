-- Part by part.
use Rattle.scalar_domain.proofs.scalars.Scalar.meet.Goals as goal

pub returns-clause-has : goal.returns-clause-has
returns-clause-has c = λ w h k. record {
  fits = h.fits;
  in_unsigned = c.meet.ensures.kept w h.in_unsigned k.in_unsigned;
  in_signed = c.meet-2.ensures.kept _ h.in_signed k.in_signed;
  in_bits = c.meet-3.ensures.kept w h.in_bits k.in_bits;
}

pub returns-clause-only : goal.returns-clause-only
returns-clause-only c = λ w h. record {
  fits = h.fits;
  in_unsigned = c.meet.ensures.in_self w h.in_unsigned;
  in_signed = c.meet-2.ensures.in_self _ h.in_signed;
  in_bits = c.meet-3.ensures.in_self w h.in_bits;
}

pub returns-clause-only_other : goal.returns-clause-only_other
returns-clause-only_other c = λ w h. record {
  fits = h.fits;
  in_unsigned = c.meet.ensures.in_other w h.in_unsigned;
  in_signed = c.meet-2.ensures.in_other _ h.in_signed;
  in_bits = c.meet-3.ensures.in_other w h.in_bits;
}

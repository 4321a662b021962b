-- Part by part.
use Rattle.scalar_domain.proofs.scalars.Scalar.join.Goals as goal

pub returns-clause-of_self : goal.returns-clause-of_self
returns-clause-of_self c = λ w h. record {
  fits = h.fits;
  in_unsigned = c.hull.ensures.of_self w h.in_unsigned;
  in_signed = c.hull-2.ensures.of_self _ h.in_signed;
  in_bits = c.hull-3.ensures.of_self w h.in_bits;
}

pub returns-clause-of_other : goal.returns-clause-of_other
returns-clause-of_other c = λ w h. record {
  fits = h.fits;
  in_unsigned = c.hull.ensures.of_other w h.in_unsigned;
  in_signed = c.hull-2.ensures.of_other _ h.in_signed;
  in_bits = c.hull-3.ensures.of_other w h.in_bits;
}

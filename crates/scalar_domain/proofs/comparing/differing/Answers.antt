-- Words that differ stand at different places.
use Rattle.std.proofs.Common.{◌∙◌, ap, sym}
use Rattle.scalar_domain.specs.Scalar.{place}
use Rattle.scalar_domain.proofs.Places.{place_twice}
use Rattle.scalar_domain.proofs.comparing.differing.Goals as goal

pub returns-clause-has : goal.returns-clause-has
returns-clause-has c = λ a b h k apart. record {
  fits = h.fits;
  in_unsigned = c.differing.ensures.has a b h.in_unsigned k.in_unsigned apart;
  in_signed = c.differing-2.ensures.has _ _ h.in_signed k.in_signed (λ e. apart (sym (place_twice a h.fits) ∙ ap place e ∙ place_twice b k.fits));
  in_bits = h.in_bits;
}

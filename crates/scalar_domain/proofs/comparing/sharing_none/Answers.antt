-- Bits that the other must have are in no common bit.
use Rattle.scalar_domain.proofs.Subsets.{no_common}
use Rattle.scalar_domain.proofs.comparing.sharing_none.Goals as goal

pub returns-clause-has : goal.returns-clause-has
returns-clause-has c = λ a b h k none. record {
  fits = h.fits;
  in_unsigned = h.in_unsigned;
  in_signed = h.in_signed;
  in_bits = c.without.ensures.has a h.fits h.in_bits (no_common a b _ k.in_bits.has none);
}

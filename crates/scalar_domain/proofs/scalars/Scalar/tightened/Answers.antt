-- A word of all three parts is one of what each says of the others.
use Rattle.scalar_domain.proofs.Places.{place_fits, turned_back}
use Rattle.scalar_domain.proofs.scalars.Scalar.tightened.Goals as goal

pub returns-clause-has : goal.returns-clause-has
returns-clause-has c = λ w h.
    let by_bits = c.meet.ensures.kept w h.in_unsigned (c.span.ensures w h.in_bits) in
    let unsigned = c.meet-unsigned.ensures.kept w by_bits (turned_back _ w h.fits (c.turned.ensures _ (place_fits w) h.in_signed)) in
    record {
      fits = h.fits;
      in_unsigned = unsigned;
      in_signed = c.meet-2.ensures.kept _ h.in_signed (c.turned-2.ensures w h.fits unsigned);
      in_bits = c.meet-3.ensures.kept w h.in_bits (c.of.ensures w h.fits unsigned);
    }

pub returns-clause-only : goal.returns-clause-only
returns-clause-only c = λ w h. record {
  fits = h.fits;
  in_unsigned = c.meet.ensures.in_self w (c.meet-unsigned.ensures.in_self w h.in_unsigned);
  in_signed = c.meet-2.ensures.in_self _ h.in_signed;
  in_bits = c.meet-3.ensures.in_self w h.in_bits;
}

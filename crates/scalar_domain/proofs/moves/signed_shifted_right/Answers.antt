-- Words that are not negative are shifted as plain ones.
use Rattle.std.proofs.Common.{◌≡◌, ◌<◌, ◌^◌, ap, arith}
use Rattle.std.specs.Int.{w64, cast_signed, cast_unsigned, int_shr}
use Rattle.scalar_domain.proofs.Moved.{moved_has}
use Rattle.scalar_domain.proofs.Extending.{shifted_plain, shifted_fits}
use Rattle.scalar_domain.proofs.moves.signed_shifted_right.Goals as goal

pub returns-then-words-ge-SIGN : goal.returns-then-words-ge-SIGN
returns-then-words-ge-SIGN c = λ w k h counts.
    let small : w < 2 ^ 63 = omega (arith, c.if-words-ge-SIGN.true, h.fits, h.in_signed.from_least) in
    moved_has _ _ _ (shifted_plain w k small) (c.shifted_right.ensures w k h counts)

pub returns-then-counts : goal.returns-then-counts
returns-then-counts c = λ w k h counts.
    let count = c.args.counts.least in
    let same : k ≡ count = omega (arith, c.if-counts.true, counts.from_least, counts.to_most) in
    let fits = shifted_fits w count h.fits in
    moved_has _ _ _ (ap (λ j. cast_unsigned w64 (int_shr (cast_signed w64 w) j)) same) (c.tightened.ensures.has _ (record {
      fits = fits;
      in_unsigned = c.any.ensures _ fits;
      in_signed = c.signed_shifted_right.ensures w h.fits h.in_signed;
      in_bits = c.any-then-counts.ensures _ fits;
    }))

pub returns-else-counts : goal.returns-else-counts
returns-else-counts c = λ w k h counts. c.any-else-counts.ensures _ (shifted_fits w k h.fits)

-- A count of a range with one number is that number.
use Rattle.std.proofs.Common.{◌≡◌, ◌*◌, ◌%◌, ◌^◌, ap, arith}
use Rattle.scalar_domain.specs.Scalar.{Within}
use Rattle.scalar_domain.proofs.Moved.{moved_has}
use Rattle.scalar_domain.proofs.moves.shifted_left.Goals as goal

pub returns-then-counts : goal.returns-then-counts
returns-then-counts c = λ w k h counts.
    let count = c.args.counts.least in
    let same : k ≡ count = omega (arith, c.if-counts.true, counts.from_least, counts.to_most) in
    let alone : Within c.args.counts count = record { from_least = omega arith; to_most = omega (arith, c.if-counts.true) } in
    moved_has _ _ _ (ap (λ j. w * 2 ^ j % 2 ^ 64) same) (c.tightened.ensures.has _ (record {
      fits = omega arith;
      in_unsigned = c.shifted_left-unsigned.ensures w count h.in_unsigned alone;
      in_signed = c.signed_shifted_left.ensures w h.fits h.in_signed;
      in_bits = c.shifted_left.ensures w h.in_bits;
    }))

pub returns-else-counts : goal.returns-else-counts
returns-else-counts c = λ w k h counts.
    let p = c.shifted_left-unsigned.ensures w k h.in_unsigned counts in
    c.within.ensures.has _ p.from_least p.to_most

-- The bits of either make no lesser word than each.
use Rattle.std.proofs.Common.{◌≡◌, ◌%◌, ◌^◌, bit_or, mod-eq_of_lt, arith}
use Rattle.std.proofs.lemmas.Nat.{le_or_l, le_or_r, or_lt}
use Rattle.scalar_domain.proofs.Moved.{moved_agrees}
use Rattle.scalar_domain.proofs.wide.or.Goals as goal

pub returns : goal.returns
returns c = λ a b h k.
    let whole : bit_or a b % 2 ^ 64 ≡ bit_or a b = mod-eq_of_lt (or_lt 64 a b h.fits k.fits) in
    c.tightened.ensures.has _ (record {
      fits = omega arith;
      in_unsigned = record { from_least = omega (arith, whole, le_or_l a b, le_or_r a b, h.in_unsigned.from_least, k.in_unsigned.from_least); to_most = omega arith };
      in_signed = c.any.ensures _ (omega arith);
      in_bits = moved_agrees _ _ _ whole (c.or.ensures a b h.in_bits k.in_bits);
    })

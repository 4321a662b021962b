-- The bits of both make no greater word than either.
use Rattle.std.proofs.Common.{◌≡◌, ◌%◌, ◌^◌, bit_and, mod-eq_of_lt, arith}
use Rattle.std.proofs.lemmas.Nat.{and_le_l, and_le_r}
use Rattle.scalar_domain.proofs.Moved.{moved_agrees}
use Rattle.scalar_domain.proofs.wide.and.Goals as goal

pub returns : goal.returns
returns c = λ a b h k.
    let whole : bit_and a b % 2 ^ 64 ≡ bit_and a b = mod-eq_of_lt (omega (arith, and_le_l a b, h.fits)) in
    c.tightened.ensures.has _ (record {
      fits = omega arith;
      in_unsigned = record { from_least = omega arith; to_most = omega (arith, whole, and_le_l a b, and_le_r a b, h.in_unsigned.to_most, k.in_unsigned.to_most) };
      in_signed = c.any.ensures _ (omega arith);
      in_bits = moved_agrees _ _ _ whole (c.and.ensures a b h.in_bits k.in_bits);
    })

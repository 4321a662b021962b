-- By the bits.
use Rattle.std.proofs.Common.{◌≡◌, ◌%◌, ◌^◌, bit_xor, mod-eq_of_lt, arith}
use Rattle.std.proofs.lemmas.Nat.{xor_lt}
use Rattle.scalar_domain.proofs.Moved.{moved_agrees}
use Rattle.scalar_domain.proofs.wide.xor.Goals as goal

pub returns : goal.returns
returns c = λ a b h k.
    let whole : bit_xor a b % 2 ^ 64 ≡ bit_xor a b = mod-eq_of_lt (xor_lt 64 a b h.fits k.fits) in
    c.tightened.ensures.has _ (record {
      fits = omega arith;
      in_unsigned = c.any.ensures _ (omega arith);
      in_signed = c.any-2.ensures _ (omega arith);
      in_bits = moved_agrees _ _ _ whole (c.xor.ensures a b h.fits k.fits h.in_bits k.in_bits);
    })

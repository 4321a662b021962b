-- Where one bit alone may be common, it is.
use Rattle.std.proofs.Common.{◌<◌, ◌^◌, bit_and, sym, subst, arith}
use Rattle.std.proofs.lemmas.Nat.{and_le_l}
use Rattle.scalar_domain.specs.Scalar.{Subset}
use Rattle.scalar_domain.proofs.Subsets.{none_common, common_bit, single_bit, and_subset}
use Rattle.scalar_domain.proofs.comparing.sharing_some.Goals as goal

pub returns-then-common-eq0-clause-has : goal.returns-then-common-eq0-clause-has
returns-then-common-eq0-clause-has c = λ a b h k some. absurd (some (none_common a b _ _ h.in_bits.has_only k.in_bits.has_only c.if-common-eq0.true))

pub returns-then-common-clause-has : goal.returns-then-common-clause-has
returns-then-common-clause-has c = λ a b h k some.
    let common = bit_and c.args.words.bits.may c.args.other.bits.may in
    let fits : common < 2 ^ 64 = omega (arith, and_le_l c.args.words.bits.may c.args.other.bits.may) in
    let is = single_bit common fits c.if-common-eq0.false c.if-common.true in
    let shared = subst (Subset (bit_and a b)) is (and_subset _ _ _ _ h.in_bits.has_only k.in_bits.has_only) in
    record {
      fits = h.fits;
      in_unsigned = h.in_unsigned;
      in_signed = h.in_signed;
      in_bits = c.with.ensures.has a h.in_bits (subst (λ n. Subset n a) (sym is) (common_bit a b _ shared some));
    }

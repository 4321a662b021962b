-- Words between two that are alike from the top have those bits.
use Rattle.std.proofs.Common.{ℕ, ◌^◌, ◌-◌, bit_and, bit_or, sym, subst, arith}
use Rattle.scalar_domain.specs.Scalar.{Subset}
use Rattle.scalar_domain.proofs.Subsets.{common_must, common_may}
use Rattle.scalar_domain.proofs.bits.KnownBits.of.Goals as goal

pub returns : goal.returns
returns c = λ w fits p.
    let l = c.args.span.least in
    let t = c.args.span.most in
    let open_bits = c.ones_over-open.ensures in
    let is = sym open_bits.3 in
    record {
      has = subst (λ (n : ℕ). Subset (bit_and l (2 ^ 64 - 1 - n)) w) is (common_must l t w open_bits.0 open_bits.1 (omega arith) open_bits.2 p.from_least p.to_most);
      has_only = subst (λ (n : ℕ). Subset w (bit_or t n)) is (common_may l t w open_bits.0 open_bits.2 p.from_least p.to_most);
    }

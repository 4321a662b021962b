-- Bit by bit, below bit 64.
use Rattle.std.proofs.Common.{arith}
use Rattle.scalar_domain.proofs.Subsets.{xor_must, xor_may}
use Rattle.scalar_domain.proofs.bits.KnownBits.xor.Goals as goal

pub returns : goal.returns
returns c = λ a b fits_a fits_b h k.
    let x = c.args.self.must in
    let y = c.args.self.may in
    let u = c.args.other.must in
    let v = c.args.other.may in
    record {
      has = xor_must x y u v a b (omega arith) (omega arith) (omega arith) (omega arith) h.has h.has_only k.has k.has_only;
      has_only = xor_may x y u v a b (omega arith) fits_a fits_b h.has h.has_only k.has k.has_only;
    }

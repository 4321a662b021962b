-- Bit by bit.
use Rattle.scalar_domain.proofs.Subsets.{or_subset}
use Rattle.scalar_domain.proofs.bits.KnownBits.or.Goals as goal

pub returns : goal.returns
returns c = λ a b h k. record { has = or_subset _ _ _ _ h.has k.has; has_only = or_subset _ _ _ _ h.has_only k.has_only }

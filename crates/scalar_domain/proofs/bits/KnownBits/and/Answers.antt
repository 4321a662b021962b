-- Bit by bit.
use Rattle.scalar_domain.proofs.Subsets.{and_subset}
use Rattle.scalar_domain.proofs.bits.KnownBits.and.Goals as goal

pub returns : goal.returns
returns c = λ a b h k. record { has = and_subset _ _ _ _ h.has k.has; has_only = and_subset _ _ _ _ h.has_only k.has_only }

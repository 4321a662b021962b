-- A shift keeps which bits are among which.
use Rattle.scalar_domain.proofs.Subsets.{left_subset}
use Rattle.scalar_domain.proofs.bits.KnownBits.shifted_left.Goals as goal

pub returns : goal.returns
returns c = λ w h. record { has = left_subset _ _ c.args.count h.has; has_only = left_subset _ _ c.args.count h.has_only }

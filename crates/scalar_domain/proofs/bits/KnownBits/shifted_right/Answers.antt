-- A shift keeps which bits are among which.
use Rattle.scalar_domain.proofs.Subsets.{right_subset}
use Rattle.scalar_domain.proofs.bits.KnownBits.shifted_right.Goals as goal

pub returns : goal.returns
returns c = λ w h. record { has = right_subset _ _ c.args.count h.has; has_only = right_subset _ _ c.args.count h.has_only }

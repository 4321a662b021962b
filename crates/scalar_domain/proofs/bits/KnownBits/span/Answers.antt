-- A word with more bits is no less.
use Rattle.scalar_domain.proofs.Subsets.{subset_le}
use Rattle.scalar_domain.proofs.bits.KnownBits.span.Goals as goal

pub returns : goal.returns
returns c = λ w h. record { from_least = subset_le _ _ h.has; to_most = subset_le _ _ h.has_only }

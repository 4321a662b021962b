-- Below bit 32 by the low half, and above it nothing is said.
use Rattle.scalar_domain.proofs.Subsets.{must_by_low, may_by_low}
use Rattle.scalar_domain.proofs.halves.bits_by_low.Goals as goal

pub returns : goal.returns
returns c = λ w fits h. record { has = must_by_low _ w h.has; has_only = may_by_low _ w fits h.has_only }

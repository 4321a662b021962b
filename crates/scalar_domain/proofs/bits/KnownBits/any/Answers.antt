-- No bit must be there, and each of the 64 may.
use Rattle.scalar_domain.proofs.Subsets.{none_in, in_all}
use Rattle.scalar_domain.proofs.bits.KnownBits.any.Goals as goal

pub returns : goal.returns
returns c = λ w fits. record { has = none_in w; has_only = in_all w fits }

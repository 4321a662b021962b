-- More bits that must be there.
use Rattle.scalar_domain.proofs.Subsets.{through, both_in, left_in_or}
use Rattle.scalar_domain.proofs.bits.KnownBits.with.Goals as goal

pub returns-clause-has : goal.returns-clause-has
returns-clause-has c = λ w h p. record { has = both_in _ _ _ h.has p; has_only = h.has_only }

pub returns-clause-only : goal.returns-clause-only
returns-clause-only c = λ w h. record { has = through _ _ _ (left_in_or c.args.self.must c.args.bits) h.has; has_only = h.has_only }

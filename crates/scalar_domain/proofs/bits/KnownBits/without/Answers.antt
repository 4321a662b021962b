-- Fewer bits that may be there.
use Rattle.std.proofs.Common.{◌^◌, ◌-◌, arith}
use Rattle.scalar_domain.proofs.Subsets.{through, left_without, and_in_left}
use Rattle.scalar_domain.proofs.bits.KnownBits.without.Goals as goal

pub returns-clause-has : goal.returns-clause-has
returns-clause-has c = λ w fits h none. record { has = h.has; has_only = left_without _ c.args.bits w fits (omega arith) h.has_only none }

pub returns-clause-only : goal.returns-clause-only
returns-clause-only c = λ w h. record { has = h.has; has_only = through _ _ _ h.has_only (and_in_left c.args.self.may (2 ^ 64 - 1 - c.args.bits)) }

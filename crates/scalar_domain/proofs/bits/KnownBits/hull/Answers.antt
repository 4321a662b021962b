-- Bits of both must be there, and bits of either may.
use Rattle.scalar_domain.proofs.Subsets.{through, and_in_left, and_in_right, left_in_or, right_in_or}
use Rattle.scalar_domain.proofs.bits.KnownBits.hull.Goals as goal

pub returns-clause-of_self : goal.returns-clause-of_self
returns-clause-of_self c = λ w p. record {
  has = through _ _ _ (and_in_left c.args.self.must c.args.other.must) p.has;
  has_only = through _ _ _ p.has_only (left_in_or c.args.self.may c.args.other.may);
}

pub returns-clause-of_other : goal.returns-clause-of_other
returns-clause-of_other c = λ w p. record {
  has = through _ _ _ (and_in_right c.args.self.must c.args.other.must) p.has;
  has_only = through _ _ _ p.has_only (right_in_or c.args.self.may c.args.other.may);
}

-- Bits of either must be there, and bits of both may.
use Rattle.scalar_domain.proofs.Subsets.{through, both_in, in_both, and_in_left, and_in_right, left_in_or, right_in_or}
use Rattle.scalar_domain.proofs.bits.KnownBits.meet.Goals as goal

pub returns-clause-kept : goal.returns-clause-kept
returns-clause-kept c = λ w p q. record { has = both_in _ _ _ p.has q.has; has_only = in_both _ _ _ p.has_only q.has_only }

pub returns-clause-in_self : goal.returns-clause-in_self
returns-clause-in_self c = λ w p. record {
  has = through _ _ _ (left_in_or c.args.self.must c.args.other.must) p.has;
  has_only = through _ _ _ p.has_only (and_in_left c.args.self.may c.args.other.may);
}

pub returns-clause-in_other : goal.returns-clause-in_other
returns-clause-in_other c = λ w p. record {
  has = through _ _ _ (right_in_or c.args.self.must c.args.other.must) p.has;
  has_only = through _ _ _ p.has_only (and_in_right c.args.self.may c.args.other.may);
}

-- A pass that comes in keeps the rule.
use Rattle.std.proofs.Common.{ap}
use Rattle.inbox.proofs.Ending.{returns}
use Rattle.inbox.proofs.closing.gather.Goals as goal

pub absorb-requires-clause-rule : goal.absorb-requires-clause-rule
absorb-requires-clause-rule c = returns _ _ _ _ (ap (λ v. v.role) c.loop-take_pass.invariant.holds) c.take_pass.invariant.1

pub absorb-requires-in-Some-pop-clause-rule : goal.absorb-requires-in-Some-pop-clause-rule
absorb-requires-in-Some-pop-clause-rule c = returns _ _ _ _ (ap (λ v. v.role) c.loop-put_pass.invariant.holds) c.put_pass.invariant.1

-- A receipt that is learned keeps the rule.
use Rattle.inbox.proofs.Telling.{hears}
use Rattle.inbox.proofs.take_pass.TakePass.learn.Goals as goal

pub absorb-requires-clause-rule : goal.absorb-requires-clause-rule
absorb-requires-clause-rule c = hears _ _ c.self.invariant.1 _ _ c.receipt.invariant.1

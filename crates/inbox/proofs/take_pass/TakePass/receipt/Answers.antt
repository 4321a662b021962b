-- A receipt keeps the rule.
use Rattle.inbox.proofs.Telling.{tells}
use Rattle.inbox.proofs.take_pass.TakePass.receipt.Goals as goal

pub another-seat-requires-clause-rule : goal.another-seat-requires-clause-rule
another-seat-requires-clause-rule c = tells _ _ c.self.invariant.1

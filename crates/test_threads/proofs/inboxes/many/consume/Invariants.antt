use Rattle.inbox.specs.Views.{IsOf}
use Rattle.test_threads.proofs.inboxes.many.consume.Given as goal

abbrev pub invariant-loop : goal.invariant-loop
invariant-loop g l = IsOf l.inbox l.pass

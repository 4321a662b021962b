use Rattle.std.proofs.Common.{◌+◌, ◌≤◌}
use Rattle.inbox.specs.Views.{IsOf}
use Rattle.test_threads.proofs.inboxes.many.produce.Given as goal

abbrev pub invariant-loop : goal.invariant-loop
invariant-loop g l = record { ours : IsOf l.inbox l.pass; within : l.number ≤ l.first + 2500 }

use Rattle.std.specs.List.{All}
use Rattle.inbox.specs.Views.{IsOf}
use Rattle.test_threads.proofs.inboxes.many.staff.Given as goal

abbrev pub invariant-loop : goal.invariant-loop
invariant-loop l = record {
  puts : All (IsOf l.inbox) l.puts.items;
  takes : All (IsOf l.inbox) l.takes.items;
  workers : All (λ w. IsOf l.inbox w.put × IsOf l.inbox w.take) l.workers.items;
}

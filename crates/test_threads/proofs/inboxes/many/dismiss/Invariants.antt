use Rattle.std.proofs.Common.{vec_len}
use Rattle.std.specs.List.{All}
use Rattle.inbox.specs.Views.{IsOf}
use Rattle.test_threads.proofs.inboxes.many.dismiss.Given as goal

abbrev pub invariant-loop-worker : goal.invariant-loop-worker
invariant-loop-worker l = record {
  puts : All (IsOf l.inbox) l.puts.items;
  takes : All (IsOf l.inbox) l.takes.items;
  workers : All (λ w. IsOf l.inbox w.put × IsOf l.inbox w.take) l.workers.items;
}

abbrev pub decreases-loop-worker : goal.decreases-loop-worker
decreases-loop-worker l = vec_len l.workers

use Rattle.workers.specs.Serving.{HasServed, IsReady}
use Rattle.workers.proofs.driving.work.Given as goal

abbrev pub invariant-loop : goal.invariant-loop
invariant-loop g l = HasServed g.B.Origin.setup l.fn.worker l.worker × IsReady l.inbox l.worker

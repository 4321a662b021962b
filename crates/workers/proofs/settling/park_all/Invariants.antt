use Rattle.workers.proofs.Parking.{Turn}
use Rattle.workers.proofs.settling.park_all.Given as goal

abbrev pub invariant-loop : goal.invariant-loop
invariant-loop g l = Turn g.B.Origin.setup l.fn.caller l.caller l.fn.runs.items l.runs.items l.counter

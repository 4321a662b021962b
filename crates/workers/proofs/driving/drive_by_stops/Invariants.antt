use Rattle.workers.proofs.Advances.{Drove}
use Rattle.workers.proofs.driving.drive_by_stops.Given as goal

abbrev pub invariant-loop-turn : goal.invariant-loop-turn
invariant-loop-turn g l = Drove g.B.Origin.setup l.fn.run l.fn.caller l.caller l.stopped l.turn

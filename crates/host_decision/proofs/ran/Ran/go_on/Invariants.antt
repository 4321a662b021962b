-- so many advances were made
use Rattle.host_decision.proofs.GoneOn.{SoFar}
use Rattle.host_decision.proofs.ran.Ran.go_on.Given as goal

abbrev pub invariant-loop-stop : goal.invariant-loop-stop
invariant-loop-stop l = SoFar l._stop l.fn.self l.self

use Rattle.engine_core.specs.Driving.{IsDriven}
use Rattle.engine_core.proofs.engine.Engine.drive.Given as goal

-- it went on from stop to stop up to here
abbrev pub invariant-loop-progress : goal.invariant-loop-progress
invariant-loop-progress l = IsDriven l.fn.self l.fn.run l.self l.place l.left l.r0

abbrev pub decreases-loop-progress : goal.decreases-loop-progress
decreases-loop-progress l = l.left

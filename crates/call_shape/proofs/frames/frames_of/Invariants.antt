use Rattle.call_shape.proofs.Depths.{AreDepths}
use Rattle.call_shape.proofs.frames.frames_of.Given as goal

abbrev pub invariant-loop-place : goal.invariant-loop-place
invariant-loop-place l = AreDepths l.program l.places l.depths l.place-index

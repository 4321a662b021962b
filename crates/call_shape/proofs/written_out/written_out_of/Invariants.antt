use Rattle.call_shape.proofs.Counting.{AreCounts}
use Rattle.call_shape.proofs.written_out.written_out_of.Given as goal

abbrev pub invariant-loop-place : goal.invariant-loop-place
invariant-loop-place l = AreCounts l.program l.places l.counts l.place-index

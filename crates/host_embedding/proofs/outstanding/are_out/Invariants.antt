use Rattle.host_embedding.proofs.Standing.{AreListed}
use Rattle.host_embedding.proofs.outstanding.are_out.Given as goal

abbrev pub invariant-loop-place : goal.invariant-loop-place
invariant-loop-place l = AreListed l.runs.runs.list l.handles l.place l.count

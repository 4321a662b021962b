-- no run before this place is out
use Rattle.std.proofs.Common.{◌≡◌, drop}
use Rattle.engine_core.specs.Looking.{first_out}
use Rattle.engine_core.proofs.numbered_engine.first_out.Given as goal

abbrev pub invariant-loop-place : goal.invariant-loop-place
invariant-loop-place l = first_out l.runs.runs.list ≡ first_out (drop l.place l.runs.runs.list)

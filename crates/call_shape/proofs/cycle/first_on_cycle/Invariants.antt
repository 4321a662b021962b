use Rattle.std.proofs.Common.{ℕ, ◌<◌}
use Rattle.call_shape.specs.Calls.{IsOnCycle}
use Rattle.call_shape.proofs.cycle.first_on_cycle.Given as goal

abbrev pub invariant-loop-place : goal.invariant-loop-place
invariant-loop-place l = (k : ℕ) → k < l.place → IsOnCycle l.program k → ⊥

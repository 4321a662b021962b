use Rattle.std.proofs.Common.{◌≡◌, ℕ, ◌<◌, ◌≤◌}
use Rattle.call_shape.specs.Calls.{function_of}
use Rattle.call_shape.proofs.functions.function_end.Given as goal

abbrev pub invariant-loop-slot : goal.invariant-loop-slot
invariant-loop-slot l = (k : ℕ) → l.function ≤ k → k < l.slot → function_of l.program k ≡ l.function

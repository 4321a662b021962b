use Rattle.std.proofs.Common.{◌≡◌, length}
use Rattle.test_system.proofs.running.read_inspected.Given as goal

-- one input for each path so far
abbrev pub invariant-loop-place : goal.invariant-loop-place
invariant-loop-place l = length l.inputs.items ≡ l.place

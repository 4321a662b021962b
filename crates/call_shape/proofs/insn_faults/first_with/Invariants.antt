use Rattle.std.proofs.Common.{◌≡◌, ℕ, ◌<◌, false}
use Rattle.call_shape.specs.InsnFaults.{has_fault}
use Rattle.call_shape.proofs.insn_faults.first_with.Given as goal

abbrev pub invariant-loop-place : goal.invariant-loop-place
invariant-loop-place l = (k : ℕ) → k < l.place → has_fault l.fault l.program k ≡ false

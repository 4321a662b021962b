use Rattle.std.proofs.Common.{ℕ, ◌-◌, ◌<◌, ◌≤◌}
use Rattle.bpf_stack_frame.specs.ByteSet.{Has}
use Rattle.bpf_stack_frame.proofs.byte_set.ByteSet.contains_all.Given as goal

-- the bytes up to the next piece are in the set
abbrev pub invariant-loop-from : goal.invariant-loop-from
invariant-loop-from l =
    (l.offset ≤ l.from) × (l.from ≤ l.end) × ((k : ℕ) → l.offset ≤ k → k < l.from → Has l.self k)

abbrev pub decreases-loop-from : goal.decreases-loop-from
decreases-loop-from l = l.end - l.from

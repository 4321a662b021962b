use Rattle.bpf_stack_frame.proofs.Differences.{Gathered}
use Rattle.bpf_stack_frame.proofs.alike.same_bytes.Given as goal

-- the bytes before k
abbrev pub invariant-loop-k : goal.invariant-loop-k
invariant-loop-k l = Gathered l.one l.other l.k l.differences

use Rattle.std.proofs.Common.{◌≡◌, take}
use Rattle.bpf_stack_frame.proofs.frames.Frames.is_same.Given as goal

-- the frames before k are the same
abbrev pub invariant-loop-k : goal.invariant-loop-k
invariant-loop-k l = take l.k l.self-inside.frames ≡ take l.k l.other-inside.frames

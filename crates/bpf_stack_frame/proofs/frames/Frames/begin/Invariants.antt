use Rattle.std.proofs.Common.{length}
use Rattle.bpf_stack_frame.proofs.frames.Frames.begin.Given as goal

abbrev pub decreases-loop-self : goal.decreases-loop-self
decreases-loop-self l = length l.self

use Rattle.bpf_stack_frame.proofs.LiveFrames.{kept_one}
use Rattle.bpf_stack_frame.proofs.frames.Frames.outermost.Goals as goal

pub invariant_of-result : goal.invariant_of-result
invariant_of-result c = kept_one c.unwritten.result c.unwritten.ensures

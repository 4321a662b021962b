use Rattle.bpf_stack_frame.proofs.Words.{empty_kept, set_of-empty}
use Rattle.bpf_stack_frame.proofs.byte_set.ByteSet.empty.Goals as goal

pub invariant_of-result : goal.invariant_of-result
invariant_of-result c = empty_kept

pub returns : goal.returns
returns c = set_of-empty

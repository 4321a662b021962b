use Rattle.std.proofs.Common.{arith}
use Rattle.bpf_stack_frame.proofs.Bits.{ones_is}
use Rattle.bpf_stack_frame.proofs.byte_set.ones.Goals as goal

pub returns-else-count-eq0 : goal.returns-else-count-eq0
returns-else-count-eq0 c = ones_is c.args.first c.args.count c.requires (omega arith)

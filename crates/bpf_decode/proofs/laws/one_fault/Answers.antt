use Rattle.bpf_decode.proofs.Programs.{one_fault}
use Rattle.bpf_decode.proofs.laws.one_fault.Goals as goal

pub returns : goal.returns
returns c = one_fault

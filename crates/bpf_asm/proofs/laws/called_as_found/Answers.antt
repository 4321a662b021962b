use Rattle.bpf_asm.proofs.Called.{called_as_found}
use Rattle.bpf_asm.proofs.laws.called_as_found.Goals as goal

pub returns : goal.returns
returns c = called_as_found

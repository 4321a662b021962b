use Rattle.bpf_asm.proofs.Fronts.{no_fault_said}
use Rattle.bpf_asm.proofs.laws.no_fault_of_text.Goals as goal

pub returns : goal.returns
returns c = no_fault_said

use Rattle.bpf_decode.proofs.Programs.{no_fault_of_text}
use Rattle.bpf_decode.proofs.laws.no_fault_of_text.Goals as goal

pub returns : goal.returns
returns c = no_fault_of_text

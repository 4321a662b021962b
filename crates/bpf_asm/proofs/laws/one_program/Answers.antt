use Rattle.bpf_asm.proofs.Fronts.{one_program_said}
use Rattle.bpf_asm.proofs.laws.one_program.Goals as goal

pub returns : goal.returns
returns c = one_program_said

use Rattle.bpf_asm.proofs.Again.{said_again}
use Rattle.bpf_asm.proofs.laws.canon_says_the_program.Goals as goal

pub returns : goal.returns
returns c = said_again

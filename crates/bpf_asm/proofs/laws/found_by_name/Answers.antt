use Rattle.bpf_asm.proofs.Names.{named}
use Rattle.bpf_asm.proofs.laws.found_by_name.Goals as goal

pub returns : goal.returns
returns c = λ mnemonic. (named mnemonic).found

use Rattle.bpf_asm.proofs.Covering.{tokens_cover}
use Rattle.bpf_asm.proofs.laws.tokens_cover_the_text.Goals as goal

pub returns : goal.returns
returns c = tokens_cover

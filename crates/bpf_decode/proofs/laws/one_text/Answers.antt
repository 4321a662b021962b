use Rattle.bpf_decode.proofs.Programs.{one_text}
use Rattle.bpf_decode.proofs.laws.one_text.Goals as goal

pub returns : goal.returns
returns c = one_text

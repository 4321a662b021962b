use Rattle.bpf_semantics.proofs.Progress.{progress_lem}
use Rattle.bpf_semantics.proofs.laws.progress.Goals as goal

pub returns : goal.returns
returns c = progress_lem

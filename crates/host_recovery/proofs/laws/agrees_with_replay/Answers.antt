use Rattle.host_recovery.proofs.Agrees.{agrees_with_replay}
use Rattle.host_recovery.proofs.laws.agrees_with_replay.Goals as goal

pub returns : goal.returns
returns c = agrees_with_replay

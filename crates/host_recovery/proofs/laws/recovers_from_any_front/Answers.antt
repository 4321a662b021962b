use Rattle.host_recovery.proofs.Fronts.{recovers_from_any_front}
use Rattle.host_recovery.proofs.laws.recovers_from_any_front.Goals as goal

pub returns : goal.returns
returns c = recovers_from_any_front

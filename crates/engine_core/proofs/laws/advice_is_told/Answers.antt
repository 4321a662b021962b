use Rattle.world_laws.proofs.Advice.{advice_is_told}
use Rattle.engine_core.proofs.laws.advice_is_told.Goals as goal

pub returns : goal.returns
returns c = advice_is_told

use Rattle.world_laws.proofs.Moved.{moved}
use Rattle.engine_core.proofs.laws.moved.Goals as goal

pub returns : goal.returns
returns c = record { moves = moved }

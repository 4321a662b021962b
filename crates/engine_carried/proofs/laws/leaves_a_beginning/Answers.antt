use Rattle.engine_carried.proofs.Leaving.{leaves_a_beginning}
use Rattle.engine_carried.proofs.laws.leaves_a_beginning.Goals as goal

pub returns : goal.returns
returns c = leaves_a_beginning

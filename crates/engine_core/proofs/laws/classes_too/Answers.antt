use Rattle.world_laws.proofs.Classes.{classes_too}
use Rattle.engine_core.proofs.laws.classes_too.Goals as goal

pub returns : goal.returns
returns c = classes_too

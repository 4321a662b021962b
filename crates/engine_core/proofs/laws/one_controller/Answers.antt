use Rattle.world_laws.proofs.OneController.{one_controller}
use Rattle.engine_core.proofs.laws.one_controller.Goals as goal

pub returns : goal.returns
returns c = one_controller

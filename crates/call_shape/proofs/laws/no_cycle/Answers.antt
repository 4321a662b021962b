use Rattle.call_shape.proofs.WaysOut.{no_cycle_lem}
use Rattle.call_shape.proofs.laws.no_cycle.Goals as goal

pub returns : goal.returns
returns c = no_cycle_lem

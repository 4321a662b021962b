use Rattle.call_shape.proofs.WaysOut.{ways_out_lem}
use Rattle.call_shape.proofs.laws.ways_out.Goals as goal

pub returns : goal.returns
returns c = ways_out_lem

use Rattle.interpreter.proofs.One.{one_segment_lem}
use Rattle.interpreter.proofs.laws.one_segment.Goals as goal

pub returns : goal.returns
returns c = one_segment_lem

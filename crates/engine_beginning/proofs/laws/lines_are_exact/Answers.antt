use Rattle.engine_beginning.proofs.Whole.{lines_are_exact}
use Rattle.engine_beginning.proofs.laws.lines_are_exact.Goals as goal

pub returns : goal.returns
returns c = lines_are_exact

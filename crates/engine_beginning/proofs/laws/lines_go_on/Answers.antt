use Rattle.engine_beginning.proofs.Completing.{lines_go_on}
use Rattle.engine_beginning.proofs.laws.lines_go_on.Goals as goal

pub returns : goal.returns
returns c = lines_go_on

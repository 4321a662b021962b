use Rattle.trace.proofs.Shown.{lines_are_short}
use Rattle.trace.proofs.laws.lines_are_short.Goals as goal

pub returns : goal.returns
returns c = lines_are_short

use Rattle.engine_beginning.proofs.Saying.{says_its_lines}
use Rattle.engine_beginning.proofs.laws.says_its_lines.Goals as goal

pub returns : goal.returns
returns c = says_its_lines

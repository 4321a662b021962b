use Rattle.carried_lines.proofs.Whole.{one_line}
use Rattle.carried_lines.proofs.laws.lines_have_own_texts.Goals as goal

pub returns : goal.returns
returns c = one_line

use Rattle.trace_lines.proofs.Back.{calls_are_lines}
use Rattle.trace_lines.proofs.laws.calls_are_lines.Goals as goal

pub returns : goal.returns
returns c = calls_are_lines

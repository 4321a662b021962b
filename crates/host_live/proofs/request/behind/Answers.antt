use Rattle.trace_lines.proofs.Stops.{behind_text}
use Rattle.host_live.proofs.request.behind.Goals as goal

pub returns : goal.returns
returns c = behind_text c.args.word.now c.args.line.now c.strip_prefix.result c.strip_prefix.ensures.cases

use Rattle.std.proofs.Common.{codes}
use Rattle.trace_lines.proofs.Stops.{behind_text}
use Rattle.trace_lines.proofs.reading.behind_helper.Goals as goal

pub returns : goal.returns
returns c = behind_text (codes "helper ") c.args.text.now c.strip_prefix.result c.strip_prefix.ensures.cases

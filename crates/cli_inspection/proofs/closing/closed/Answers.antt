use Rattle.std.proofs.Common.{rules}
use Rattle.cli_inspection.proofs.OpenTraces.{closes}
use Rattle.cli_inspection.proofs.closing.closed.Goals as goal

pub returns : goal.returns
returns c = closes c.args.trace.1.now _ c.in-Some.lines.now c.in-Some.rest.now _ _ c.in-Ok-text.ensures.0 c.in-Some.ensures c.in_ok-text.ensures (search rules)

use Rattle.cli_commands.proofs.Served.{flushed}
use Rattle.cli_commands.proofs.carrying.print_flushed.Goals as goal

pub returns-in-Ok : goal.returns-in-Ok
returns-in-Ok g c = flushed c.args.trace.now _ _ _ c.flush.result c.in-Ok.ensures c.flush.ensures.bytes

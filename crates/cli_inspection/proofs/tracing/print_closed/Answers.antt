use Rattle.cli_inspection.proofs.OpenTraces.{accepted_so}
use Rattle.cli_inspection.proofs.tracing.print_closed.Goals as goal

pub returns-in-Ok-clause-done : goal.returns-in-Ok-clause-done
returns-in-Ok-clause-done g c = λ is.
    accepted_so _ c.as_bytes.result.now c.args.closing c.in-Some.closing c.in-Some.is c.as_bytes.ensures.value c.in-Ok.ensures.done

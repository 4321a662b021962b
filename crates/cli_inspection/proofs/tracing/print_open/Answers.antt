use Rattle.std.proofs.Common.{ap}
use Rattle.cli_commands.specs.Faults.{status_of}
use Rattle.cli_inspection.proofs.OpenTraces.{is_open, is_refused}
use Rattle.cli_inspection.proofs.tracing.print_open.Goals as goal

pub returns-in-Ok-clause-reported : goal.returns-in-Ok-clause-reported
returns-in-Ok-clause-reported g c = λ two. absurd (is_refused _ _ c.in-Trace.is two)

pub returns-in-Ok-clause-done : goal.returns-in-Ok-clause-done
returns-in-Ok-clause-done g c = λ is. is_open _ _ c.in-Ok.closing c.in-Ok.ensures (c.print_closed.ensures.done is)

pub returns-in-Ok-clause-refused : goal.returns-in-Ok-clause-refused
returns-in-Ok-clause-refused g c = λ is. ap status_of c.in-Trace.is

pub returns-in-Err-clause-reported : goal.returns-in-Err-clause-reported
returns-in-Err-clause-reported g c = λ two. absurd (is_refused _ _ c.in-Trace.is two)

pub returns-in-Err-clause-refused : goal.returns-in-Err-clause-refused
returns-in-Err-clause-refused g c = λ is. ap status_of c.in-Trace.is

use Rattle.std.proofs.Common.{inl}
use Rattle.cli_inspection.proofs.judging.judged_as_trace.Goals as goal

pub returns-in-Ok-clause-done : goal.returns-in-Ok-clause-done
returns-in-Ok-clause-done g c = inl c.in-Ok.ensures.done

pub returns-clause-fault : goal.returns-clause-fault
returns-clause-fault g c = λ refused. inl (c.requires, c.in-Err.ensures.fault refused)

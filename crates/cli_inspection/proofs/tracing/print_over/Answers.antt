use Rattle.std.proofs.Common.{inl, inr}
use Rattle.cli_inspection.proofs.tracing.print_over.Goals as goal

pub returns-in-Ok-clause-done : goal.returns-in-Ok-clause-done
returns-in-Ok-clause-done g c = λ is. inl c.in-Ok.ensures.done

pub returns-in-Err-clause-done : goal.returns-in-Err-clause-done
returns-in-Err-clause-done g c = λ is. inr (c.print_open.ensures.done is)

pub returns-in-Err-clause-rejected : goal.returns-in-Err-clause-rejected
returns-in-Err-clause-rejected g c = λ is. (c.in-Err.fault, c.in-Err.ensures.fault (c.print_open.ensures.refused is))

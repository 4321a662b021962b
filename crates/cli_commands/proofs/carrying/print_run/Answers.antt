use Rattle.cli_commands.proofs.carrying.print_run.Goals as goal

pub returns-in-Err-clause-rejected : goal.returns-in-Err-clause-rejected
returns-in-Err-clause-rejected g c = λ is. (c.in-Err.fault, c.in-Err.ensures.fault (c.report.ensures.refused is))

pub returns-in-Ok-clause-out : goal.returns-in-Ok-clause-out
returns-in-Ok-clause-out g c = λ is. (c.in-Ok.trace, c.in-Ok.ensures.trace, c.in-Ok.ensures.asked, c.write_trace.ensures.written is)

pub returns-in-Ok-clause-output : goal.returns-in-Ok-clause-output
returns-in-Ok-clause-output g c = λ is.
    let printed = c.write_trace.ensures.written is in
    (printed.0, printed.2, (c.in-Ok.trace, c.in-Ok.ensures.trace, printed.1))

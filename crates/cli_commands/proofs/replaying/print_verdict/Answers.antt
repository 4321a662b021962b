use Rattle.cli_commands.proofs.replaying.print_verdict.Goals as goal

pub returns-clause-rejected : goal.returns-clause-rejected
returns-clause-rejected g c = λ is. (c.in-Err.fault, c.in-Err.ensures.fault (c.report.ensures.refused is))

use Rattle.cli_commands.specs.Faults.{status_of}
use Rattle.cli_inspection.proofs.Judged.{only_two}
use Rattle.cli_inspection.proofs.judging.print_over.Goals as goal

pub returns-in-Err-clause-manifest : goal.returns-in-Err-clause-manifest
returns-in-Err-clause-manifest g c = λ no_text. only_two c.print_fault.result (status_of c.in-Err.fault) c.print_fault.ensures.status c.print_fault.ensures.fault (c.in-Err.ensures.manifest no_text)

pub returns-in-Err-clause-file : goal.returns-in-Err-clause-file
returns-in-Err-clause-file g c = λ no_text. only_two c.print_fault.result (status_of c.in-Err.fault) c.print_fault.ensures.status c.print_fault.ensures.fault (c.in-Err.ensures.file no_text)

use Rattle.clap.specs.Words.{found_of, rows_of}
use Rattle.cli_inspect_line.proofs.FailureSo.{no_failure}
use Rattle.cli_inspect_line.proofs.deciding.failure_given.Goals as goal

pub returns-in_err-queue : goal.returns-in_err-queue
returns-in_err-queue c = no_failure (rows_of (found_of c.args.decide.now)) c.from_residual.result c.from_residual.ensures (λ failure has. c.in_err-queue.ensures failure.queue.0 has.queue)

pub returns-in_err-status : goal.returns-in_err-status
returns-in_err-status c = no_failure (rows_of (found_of c.args.decide.now)) c.from_residual-in_err-status.result c.from_residual-in_err-status.ensures (λ failure has. c.in_err-status.ensures failure.status has.status)

pub returns-in_err-scsi : goal.returns-in_err-scsi
returns-in_err-scsi c = no_failure (rows_of (found_of c.args.decide.now)) c.from_residual-in_err-scsi.result c.from_residual-in_err-scsi.ensures (λ failure has. c.in_err-scsi.ensures failure.scsi has.scsi)

pub returns-in_err-sense : goal.returns-in_err-sense
returns-in_err-sense c = no_failure (rows_of (found_of c.args.decide.now)) c.from_residual-in_err-sense.result c.from_residual-in_err-sense.ensures (λ failure has. c.in_err-sense.ensures failure.sense has.sense)

pub returns-in_err-retries : goal.returns-in_err-retries
returns-in_err-retries c = no_failure (rows_of (found_of c.args.decide.now)) c.from_residual-in_err-retries.result c.from_residual-in_err-retries.ensures (λ failure has. c.in_err-retries.ensures failure.retries has.retries)

pub returns-in_err-class : goal.returns-in_err-class
returns-in_err-class c = no_failure (rows_of (found_of c.args.decide.now)) c.from_residual-in_err-class.result c.from_residual-in_err-class.ensures (λ failure has. c.in_err-class.ensures failure.class has.class)

pub returns-in_err-attempts : goal.returns-in_err-attempts
returns-in_err-attempts c = no_failure (rows_of (found_of c.args.decide.now)) c.from_residual-in_err-attempts.result c.from_residual-in_err-attempts.ensures (λ failure has. c.in_err-attempts.ensures failure.attempts has.attempts)

pub returns-in_err-clock : goal.returns-in_err-clock
returns-in_err-clock c = no_failure (rows_of (found_of c.args.decide.now)) c.from_residual-in_err-clock.result c.from_residual-in_err-clock.ensures (λ failure has. c.in_err-clock.ensures failure.clock has.clock)

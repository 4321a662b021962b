use Rattle.std.proofs.Common.{refl}
use Rattle.cli_commands.proofs.journaling.serve_begun.Goals as goal

pub returns-in-Some-clause-starts : goal.returns-in-Some-clause-starts
returns-in-Some-clause-starts g c = λ held old same finds entered. c.serve_owned.ensures.starts held old same (rw c.in-Some.is refl) finds entered

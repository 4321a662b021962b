use Rattle.cli_inspection.proofs.Explained.{verdict_told}
use Rattle.cli_inspection.proofs.explaining.explained.Goals as goal

pub returns-in-Ok-clause-verdict : goal.returns-in-Ok-clause-verdict
returns-in-Ok-clause-verdict c = verdict_told c.args.file.1.now c.in_ok-read.read.now c.in-Ok.told.verdict c.in_ok-read.ensures.0 c.in-Ok.ensures

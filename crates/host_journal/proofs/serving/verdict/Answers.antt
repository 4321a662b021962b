use Rattle.std.proofs.Common.{ap}
use Rattle.host_journal.specs.Journals.{is_of_write}
use Rattle.host_journal.proofs.serving.verdict.Goals as goal

pub returns-in-None-clause-fault : goal.returns-in-None-clause-fault
returns-in-None-clause-fault c = λ old new lost done. c.unlost.ensures.fault c.args.number old new (done (ap is_of_write c.in-None.is))

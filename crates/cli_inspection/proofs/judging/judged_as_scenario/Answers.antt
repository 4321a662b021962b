use Rattle.std.proofs.Common.{inr}
use Rattle.cli_inspection.proofs.Judged.{told_fault, told_status}
use Rattle.cli_inspection.proofs.judging.judged_as_scenario.Goals as goal

pub returns-in-Ok-clause-done : goal.returns-in-Ok-clause-done
returns-in-Ok-clause-done g c = inr (c.in-Ok.ensures.done, (c.in-Ok.field-0, c.in-Ok.ensures.trace, c.in-Ok.ensures.asked))

pub returns-clause-manifest : goal.returns-clause-manifest
returns-clause-manifest g c = λ no_text. told_status c.in-Err.fault c.told.result c.told.ensures (c.in-Err.ensures.manifest no_text)

pub returns-clause-file : goal.returns-clause-file
returns-clause-file g c = λ no_text. told_status c.in-Err.fault c.told.result c.told.ensures (c.in-Err.ensures.scenario no_text)

pub returns-clause-fault : goal.returns-clause-fault
returns-clause-fault g c = told_fault c.args.manifest.1.now c.args.file.1.now c.in-Err.fault c.told.result c.requires c.told.ensures c.in-Err.ensures.fault

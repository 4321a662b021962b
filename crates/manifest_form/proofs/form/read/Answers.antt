use Rattle.std.proofs.Common.{◌∙◌}
use Rattle.toml.specs.View.{view}
use Rattle.manifest_form.proofs.Lowest.{noted_whole}
use Rattle.manifest_form.proofs.form.read.Goals as goal

pub returns-in-None-clause-lawful : goal.returns-in-None-clause-lawful
returns-in-None-clause-lawful c =
    noted_whole (view c.args.manifest.now) _ _ _ _ _ _ _ _ _ c.document_fault-lowest.ensures c.version-version.ensures c.controllers-controllers.ensures c.elements.ensures c.elements-2.ensures c.elements-3.ensures c.in_ok-queues.ensures.fault c.in_ok-tables.ensures.fault c.in_ok-programs.ensures.fault ∙ c.in-None.is

pub returns-clause-fault : goal.returns-clause-fault
returns-clause-fault c =
    noted_whole (view c.args.manifest.now) _ _ _ _ _ _ _ _ _ c.document_fault-lowest.ensures c.version-version.ensures c.controllers-controllers.ensures c.elements.ensures c.elements-2.ensures c.elements-3.ensures c.in_ok-queues.ensures.fault c.in_ok-tables.ensures.fault c.in_ok-programs.ensures.fault ∙ c.in-Some.is

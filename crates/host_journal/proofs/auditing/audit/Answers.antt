use Rattle.std.proofs.Common.{List, Option, subst}
use Rattle.std.specs.Prelude.{IfErr}
use Rattle.host_journal.specs.Audits.{FailsAt, FailsToAudit}
use Rattle.host_journal.specs.Disks.{Held, Step}
use Rattle.host_journal.specs.Starts.{ListsHeld}
use Rattle.host_journal.proofs.Sound.{fails_to_audit_all}
use Rattle.host_journal.proofs.auditing.audit.Goals as goal

pub returns-in-Ok-Segments-clause-refused : goal.returns-in-Ok-Segments-clause-refused
returns-in-Ok-Segments-clause-refused g c =
    subst (λ (held : Held). IfErr c.audit_all.result (FailsToAudit held (g.D.Disk.steps c.args.disk.now) (g.D.Disk.steps c.audit_all.new.disk))) c.list_folder.ensures.held
    (fails_to_audit_all (g.D.Disk.held c.list_folder.new.disk) c.in-Ok-Segments.first c.in-Ok-Segments.last (g.D.Disk.steps c.args.disk.now) (g.D.Disk.steps c.audit_all.new.disk) c.audit_all.result (subst (ListsHeld (g.D.Disk.held c.list_folder.new.disk)) c.in-Ok-Segments.field-0-is c.in-Ok-Segments.ensures.listed)
    (subst (λ (steps : Option (List Step)). IfErr c.audit_all.result (FailsAt (g.D.Disk.held c.list_folder.new.disk) c.in-Ok-Segments.first c.in-Ok-Segments.last steps (g.D.Disk.steps c.audit_all.new.disk))) c.in-Ok-Segments.ensures.steps c.audit_all.ensures.refused))

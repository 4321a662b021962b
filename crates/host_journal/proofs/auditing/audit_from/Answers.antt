use Rattle.std.proofs.Common.{subst, sym}
use Rattle.std.specs.Prelude.{IfOk}
use Rattle.host_journal.specs.Audits.{AreSound, IsReached}
use Rattle.host_journal.specs.Disks.{Held}
use Rattle.host_journal.proofs.Sound.{fails_at_after}
use Rattle.host_journal.proofs.Quiet.{quiet_trans, went_quiet}
use Rattle.host_journal.proofs.auditing.audit_from.Goals as goal

pub audit_newest-requires-clause-reached : goal.audit_newest-requires-clause-reached
audit_newest-requires-clause-reached g c = subst (λ (held : Held). IsReached held c.args.first c.args.last c.in-Ok.reached) (sym c.audit_before.ensures.held) c.in-Ok.ensures.reached

pub returns-in-Ok-clause-refused : goal.returns-in-Ok-clause-refused
returns-in-Ok-clause-refused g c =
    fails_at_after (g.D.Disk.held c.audit_before.new.disk) (g.D.Disk.held c.args.disk.now) c.args.first c.args.last (g.D.Disk.steps c.args.disk.now) (g.D.Disk.steps c.audit_before.new.disk) (g.D.Disk.steps c.audit_newest.new.disk) c.audit_newest.result
    c.audit_before.ensures.held (went_quiet (g.D.Disk.steps c.args.disk.now) (g.D.Disk.steps c.audit_before.new.disk) c.audit_before.ensures.quiet) c.audit_newest.ensures.refused

pub returns-in-Ok-clause-sound : goal.returns-in-Ok-clause-sound
returns-in-Ok-clause-sound g c = subst (λ (held : Held). IfOk c.audit_newest.result (AreSound held c.args.first c.args.last)) c.audit_before.ensures.held c.audit_newest.ensures.sound

pub returns-in-Ok-clause-quiet : goal.returns-in-Ok-clause-quiet
returns-in-Ok-clause-quiet g c = quiet_trans (g.D.Disk.steps c.args.disk.now) (g.D.Disk.steps c.audit_before.new.disk) (g.D.Disk.steps c.audit_newest.new.disk) c.audit_before.ensures.quiet c.audit_newest.ensures.quiet

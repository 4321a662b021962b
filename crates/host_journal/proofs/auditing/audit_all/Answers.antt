use Rattle.std.proofs.Common.{None, subst, sym}
use Rattle.std.specs.Prelude.{IfOk}
use Rattle.host_journal.specs.Audits.{AreSound, IsConfiguredBy, none_passed}
use Rattle.host_journal.specs.Disks.{Held}
use Rattle.host_journal.proofs.Sound.{fails_at_after, reached_first}
use Rattle.host_journal.proofs.Quiet.{went_quiet}
use Rattle.host_journal.proofs.auditing.audit_all.Goals as goal

pub audit_from-requires-clause-reached : goal.audit_from-requires-clause-reached
audit_from-requires-clause-reached g c =
    reached_first (g.D.Disk.held c.configured.new.disk) c.args.first c.in-Ok.config (subst (λ (held : Held). IsConfiguredBy held c.args.first c.in-Ok.config) (sym c.configured.ensures.held) c.in-Ok.ensures.configured)

pub returns-in-Ok-clause-sound : goal.returns-in-Ok-clause-sound
returns-in-Ok-clause-sound g c = subst (λ (held : Held). IfOk c.audit_from.result (AreSound held c.args.first c.args.last)) c.configured.ensures.held c.audit_from.ensures.sound

pub returns-in-Ok-clause-refused : goal.returns-in-Ok-clause-refused
returns-in-Ok-clause-refused g c =
    fails_at_after (g.D.Disk.held c.configured.new.disk) (g.D.Disk.held c.args.disk.now) c.args.first c.args.last (g.D.Disk.steps c.args.disk.now) (g.D.Disk.steps c.configured.new.disk) (g.D.Disk.steps c.audit_from.new.disk) c.audit_from.result
    c.configured.ensures.held (went_quiet (g.D.Disk.steps c.args.disk.now) (g.D.Disk.steps c.configured.new.disk) c.configured.ensures.quiet) c.audit_from.ensures.refused

pub returns-in-Err-clause-refused : goal.returns-in-Err-clause-refused
returns-in-Err-clause-refused g c = record { number = c.args.first; before = None; records = 0; passed = none_passed; fails = c.in-Err.ensures.refused c.args.last None }

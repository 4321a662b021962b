use Rattle.std.proofs.Common.{◌∙◌, Option, List, ap, refl, subst, sym}
use Rattle.std.specs.Prelude.{IfErr, IfOk}
use Rattle.host_journal.specs.Audits.{FailsInSegment, IsJoined, IsReplayed}
use Rattle.host_journal.specs.Disks.{Held, Opened}
use Rattle.host_journal.proofs.Quiet.{quiet_step, quiet_trans, went_step}
use Rattle.host_journal.proofs.Sound.{fails_on_if}
use Rattle.host_journal.proofs.auditing.audit_segment.Goals as goal

pub returns-in-Ok-clause-refused : goal.returns-in-Ok-clause-refused
returns-in-Ok-clause-refused g c = λ before configured left.
    fails_on_if (g.D.Disk.held c.args.disk.now) c.args.number c.args.last before (g.D.Disk.steps c.args.disk.now) (g.D.Disk.steps c.replayed.new.disk) (g.D.Disk.steps c.whole.new.disk) c.whole.result
    (went_step (g.D.Disk.steps c.args.disk.now) (g.D.Disk.steps c.replayed.new.disk) (Opened c.args.number) c.in-Ok.ensures.steps)
    (subst (λ (held : Held). IfErr c.whole.result (FailsInSegment held c.args.number c.args.last before (g.D.Disk.steps c.replayed.new.disk) (g.D.Disk.steps c.whole.new.disk))) c.replayed.ensures.held
    (c.whole.ensures.refused before c.args.reached.now.config left (subst (λ (held : Held). IsReplayed held c.args.number c.args.reached.now.config c.in-Ok.its) (sym c.replayed.ensures.held) (record { configured = configured; replayed = c.in-Ok.ensures.replays }))))

pub returns-in-Ok-clause-quiet : goal.returns-in-Ok-clause-quiet
returns-in-Ok-clause-quiet g c =
    quiet_trans (g.D.Disk.steps c.args.disk.now) (g.D.Disk.steps c.replayed.new.disk) (g.D.Disk.steps c.whole.new.disk) (quiet_step (g.D.Disk.steps c.args.disk.now) (g.D.Disk.steps c.replayed.new.disk) (Opened c.args.number) refl c.in-Ok.ensures.steps) c.whole.ensures.quiet

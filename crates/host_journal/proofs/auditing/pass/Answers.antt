use Rattle.std.proofs.Common.{Some, ◌+◌, subst}
use Rattle.std.specs.Prelude.{IfErr, IfOk}
use Rattle.host_journal.specs.Audits.{FailsInSegment, IsConfiguredBy}
use Rattle.host_journal.specs.Disks.{Held}
use Rattle.host_journal.proofs.Sound.{fails_next, reached_next_if}
use Rattle.host_journal.proofs.Quiet.{quiet_trans, went_quiet}
use Rattle.host_journal.proofs.auditing.pass.Goals as goal

pub returns-in-Ok-clause-reached : goal.returns-in-Ok-clause-reached
returns-in-Ok-clause-reached g c = λ first at.
    reached_next_if (g.D.Disk.held c.args.disk.now) first c.args.number c.args.reached.now c.in-Ok.its c.come_to_next.result at (c.in-Ok.ensures.segment at.configured) (c.in-Ok.ensures.ended c.requires.below) (c.in-Ok.ensures.joined at.before at.left)
    (subst (λ (held : Held). IfOk c.come_to_next.result (λ next. IsConfiguredBy held (c.args.number + 1) next.config)) c.audit_segment.ensures.held c.come_to_next.ensures.configured)
    c.come_to_next.ensures.left c.come_to_next.ensures.records

pub returns-in-Ok-clause-refused : goal.returns-in-Ok-clause-refused
returns-in-Ok-clause-refused g c = λ first at.
    fails_next (g.D.Disk.held c.args.disk.now) first c.args.number c.args.last c.args.reached.now c.in-Ok.its (g.D.Disk.steps c.args.disk.now) (g.D.Disk.steps c.audit_segment.new.disk) (g.D.Disk.steps c.come_to_next.new.disk) c.come_to_next.result
    at (c.in-Ok.ensures.segment at.configured) (c.in-Ok.ensures.ended c.requires.below) (c.in-Ok.ensures.joined at.before at.left)
    (went_quiet (g.D.Disk.steps c.args.disk.now) (g.D.Disk.steps c.audit_segment.new.disk) c.audit_segment.ensures.quiet)
    (subst (λ (held : Held). IfErr c.come_to_next.result (FailsInSegment held (c.args.number + 1) c.args.last (Some c.in-Ok.its.engine) (g.D.Disk.steps c.audit_segment.new.disk) (g.D.Disk.steps c.come_to_next.new.disk))) c.audit_segment.ensures.held (c.come_to_next.ensures.refused c.args.last))

pub returns-in-Err-clause-refused : goal.returns-in-Err-clause-refused
returns-in-Err-clause-refused g c = λ first at. record { number = c.args.number; before = at.before; records = at.records; passed = at.passed; fails = c.in-Err.ensures.refused at.before at.configured at.left }

pub returns-in-Ok-clause-quiet : goal.returns-in-Ok-clause-quiet
returns-in-Ok-clause-quiet g c = quiet_trans (g.D.Disk.steps c.args.disk.now) (g.D.Disk.steps c.audit_segment.new.disk) (g.D.Disk.steps c.come_to_next.new.disk) c.audit_segment.ensures.quiet c.come_to_next.ensures.quiet

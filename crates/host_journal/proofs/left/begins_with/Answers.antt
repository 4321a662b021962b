use Rattle.std.proofs.Common.{subst}
use Rattle.std.specs.Prelude.{IfErr}
use Rattle.host_journal.specs.Disks.{Held}
use Rattle.host_journal.specs.Starts.{IsUnreadSegment}
use Rattle.host_journal.proofs.Quiet.{went_quiet}
use Rattle.host_journal.proofs.Sound.{unread_again}
use Rattle.host_journal.proofs.left.begins_with.Goals as goal

pub returns-in-Ok-false-clause-refused : goal.returns-in-Ok-false-clause-refused
returns-in-Ok-false-clause-refused g c =
    unread_again c.args.number ((g.D.Disk.held c.args.disk.now).segments c.args.number) (g.D.Disk.steps c.args.disk.now) (g.D.Disk.steps c.has_front.new.disk) (g.D.Disk.steps c.has_front-in-Ok-false.new.disk) c.has_front-in-Ok-false.result
    (went_quiet (g.D.Disk.steps c.args.disk.now) (g.D.Disk.steps c.has_front.new.disk) c.has_front.ensures.quiet)
    (subst (λ (held : Held). IfErr c.has_front-in-Ok-false.result (IsUnreadSegment c.args.number (held.segments c.args.number) (g.D.Disk.steps c.has_front.new.disk) (g.D.Disk.steps c.has_front-in-Ok-false.new.disk))) c.has_front.ensures.held c.has_front-in-Ok-false.ensures.refused)

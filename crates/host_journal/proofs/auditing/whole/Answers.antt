use Rattle.host_journal.proofs.Sound.{unended_fails}
use Rattle.host_journal.proofs.auditing.whole.Goals as goal

pub returns-then-is_unended-clause-refused : goal.returns-then-is_unended-clause-refused
returns-then-is_unended-clause-refused g c = λ before config left segment.
    unended_fails (g.D.Disk.held c.args.disk.now) c.args.number c.args.last before config c.args.its (g.D.Disk.steps c.args.disk.now) (g.D.Disk.steps c.args.disk.now) c.saturating_add.result c.unended.result c.unended.ensures c.saturating_add.ensures
    (c.is_unended.ensures.unended c.if-is_unended.true) segment

pub returns-clause-refused : goal.returns-clause-refused
returns-clause-refused g c = λ before config left segment. c.joined.ensures.refused before config c.args.last left segment (c.is_unended.ensures.other c.if-is_unended.false)

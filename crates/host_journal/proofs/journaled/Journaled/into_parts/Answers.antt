use Rattle.host_journal.proofs.Served.{leaves_so}
use Rattle.host_journal.proofs.Standing.{stands_done}
use Rattle.host_journal.proofs.journaled.Journaled.into_parts.Goals as goal

pub returns-clause-order : goal.returns-clause-order
returns-clause-order g c = rw (← c.self.view_is) (leaves_so g.O.Order.is_synced g.O.Order.first g.O.Order.before _ c.self.inside.is_at_line c.self.invariant.0)

pub returns-clause-done : goal.returns-clause-done
returns-clause-done g c =
    stands_done g.O.Order.is_synced g.O.Order.first g.O.Order.before (g.D.Disk.steps c.self.inside.disk) c.self.inside.pending.items c.self.inside.answered.given c.self.inside.answered.place c.self.inside.lost c.self.inside.is_behind c.self.inside.is_at_line c.self.invariant.0

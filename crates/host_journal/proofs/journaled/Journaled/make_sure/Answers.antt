use Rattle.std.proofs.Common.{◌∙◌, ap}
use Rattle.host_journal.specs.Disks.{Failed, kept_so_far}
use Rattle.host_journal.specs.Journals.{JournaledState}
use Rattle.host_journal.specs.declared.disk.DiskFault.TheVariants.{Failed as NotDone}
use Rattle.host_journal.specs.declared.fault.JournalFile.TheVariants.{Segment}
use Rattle.host_journal.proofs.Standing.{has_none, segment_lost, stands_loses, stands_synced}
use Rattle.host_journal.proofs.Steps.{failed_keeps, synced_keeps}
use Rattle.host_journal.proofs.journaled.Journaled.make_sure.Goals as goal

pub invariant_of-self : goal.invariant_of-self
invariant_of-self g c = (
  stands_synced g.O.Order.is_synced g.O.Order.first g.O.Order.before (g.D.Disk.steps c.self.inside.disk) (g.D.Disk.steps c.sync.new.self) c.self.inside.pending.items c.self.inside.answered.given c.self.inside.answered.place c.self.inside.lost c.self.inside.is_behind c.self.inside.is_at_line
      c.self.invariant.0 (ap (λ (s : JournaledState). s.lost) c.self.view_is ∙ c.requires) c.in-Ok.ensures.steps,
  c.self.invariant.1,
  c.sync.ensures.which ∙ c.self.invariant.2,
  has_none g.O.Order.segment g.O.Order.before (g.D.Disk.steps c.sync.new.self) c.self.inside.lost (ap (λ (s : JournaledState). s.lost) c.self.view_is ∙ c.requires),
)

pub returns-in-Ok-clause-kept : goal.returns-in-Ok-clause-kept
returns-in-Ok-clause-kept g c =
    synced_keeps (g.D.Disk.steps c.self.inside.disk) (g.D.Disk.steps c.sync.new.self) c.in-Ok.ensures.steps ∙ ap (λ (s : JournaledState). kept_so_far s.steps) c.self.view_is

pub invariant_of-self-in-Err : goal.invariant_of-self-in-Err
invariant_of-self-in-Err g c = (
  stands_loses g.O.Order.is_synced g.O.Order.first g.O.Order.before (g.D.Disk.steps c.self.inside.disk) (g.D.Disk.steps c.sync.new.self) c.self.inside.pending.items c.self.inside.answered.given c.self.inside.answered.place c.self.inside.lost c.self.inside.is_behind c.self.inside.is_at_line
      (Failed (Segment (g.D.Disk.segment c.self.inside.disk)) NotDone) c.self.invariant.0 (ap (λ (s : JournaledState). s.lost) c.self.view_is ∙ c.requires) tt c.in-Err.ensures.steps,
  c.self.invariant.1,
  c.sync.ensures.which ∙ c.self.invariant.2,
  segment_lost g.O.Order.is_synced g.O.Order.first g.O.Order.before (g.D.Disk.steps c.self.inside.disk) (g.D.Disk.steps c.sync.new.self) c.self.inside.pending.items c.self.inside.answered.given c.self.inside.answered.place c.self.inside.lost c.self.inside.is_behind c.self.inside.is_at_line
      (g.D.Disk.segment c.self.inside.disk) g.O.Order.segment c.self.invariant.0 c.self.invariant.2 c.in-Err.ensures.steps,
)

pub returns-in-Err-clause-kept : goal.returns-in-Err-clause-kept
returns-in-Err-clause-kept g c =
    ap kept_so_far c.fail.ensures.steps
    ∙ (failed_keeps (g.D.Disk.steps c.self.inside.disk) (g.D.Disk.steps c.sync.new.self) (Segment (g.D.Disk.segment c.self.inside.disk)) NotDone c.in-Err.ensures.steps ∙ ap (λ (s : JournaledState). kept_so_far s.steps) c.self.view_is)

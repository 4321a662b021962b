-- what was read is scanned
use Rattle.std.proofs.Common.{◌≡◌, ◌-◌}
use Rattle.host_recovery.specs.declared.recovering.TheConstants.{MOST_WHOLE}
use Rattle.host_journal.proofs.LastLine.{IsFollowed}
use Rattle.host_journal.proofs.last_line.ends_so.Given as goal

abbrev pub invariant-loop-came : goal.invariant-loop-came
invariant-loop-came g l = record {
  held : g.D.Disk.held l.disk ≡ g.D.Disk.held l.fn.disk;
  which : g.D.Disk.segment l.disk ≡ g.D.Disk.segment l.fn.disk;
  steps : g.D.Disk.steps l.disk ≡ g.D.Disk.steps l.fn.disk;
  so_far : IsFollowed (g.D.Disk.remaining l.fn.disk) (g.D.Disk.remaining l.disk) l.last.line l.last.is_long l.last.is_end l.came;
}

abbrev pub decreases-loop-came : goal.decreases-loop-came
decreases-loop-came g l = MOST_WHOLE - l.came

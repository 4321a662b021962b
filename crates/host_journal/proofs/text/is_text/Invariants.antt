-- what was read is text but for what waits, which is not
use Rattle.std.proofs.Common.{◌≡◌, ◌-◌, ◌<◌, length}
use Rattle.host_recovery.specs.declared.recovering.TheConstants.{MOST_WHOLE}
use Rattle.host_journal.proofs.Utf8.{IsReadSo}
use Rattle.host_journal.proofs.text.is_text.Given as goal

abbrev pub invariant-loop-came : goal.invariant-loop-came
invariant-loop-came g l = record {
  held : g.D.Disk.held l.disk ≡ g.D.Disk.held l.fn.disk;
  which : g.D.Disk.segment l.disk ≡ g.D.Disk.segment l.fn.disk;
  steps : g.D.Disk.steps l.disk ≡ g.D.Disk.steps l.fn.disk;
  few : length l.waiting < 4;
  so_far : IsReadSo (g.D.Disk.remaining l.fn.disk) (g.D.Disk.remaining l.disk) l.waiting l.came;
}

abbrev pub decreases-loop-came : goal.decreases-loop-came
decreases-loop-came g l = MOST_WHOLE - l.came

-- nothing but what is read changed, and the audit came to the next segment
use Rattle.std.proofs.Common.{◌≡◌}
use Rattle.host_journal.specs.Audits.{IsReached}
use Rattle.host_journal.specs.Disks.{IsQuiet}
use Rattle.host_journal.proofs.auditing.audit_before.Given as goal

abbrev pub invariant-loop-number : goal.invariant-loop-number
invariant-loop-number g l = record {
  held : g.D.Disk.held l.disk ≡ g.D.Disk.held l.fn.disk;
  quiet : IsQuiet (g.D.Disk.steps l.fn.disk) (g.D.Disk.steps l.disk);
  reached : IsReached (g.D.Disk.held l.disk) l.first l.number l.reached;
}

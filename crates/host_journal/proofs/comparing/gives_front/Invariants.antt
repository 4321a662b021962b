-- so much of the text came, and that is left of it
use Rattle.std.proofs.Common.{◌≡◌, length}
use Rattle.host_journal.specs.Linked.{IsMatched}
use Rattle.host_journal.proofs.comparing.gives_front.Given as goal

abbrev pub invariant-loop-left : goal.invariant-loop-left
invariant-loop-left g l = record {
  held : g.D.Disk.held l.disk ≡ g.D.Disk.held l.fn.disk;
  which : g.D.Disk.segment l.disk ≡ g.D.Disk.segment l.fn.disk;
  steps : g.D.Disk.steps l.disk ≡ g.D.Disk.steps l.fn.disk;
  matched : IsMatched (g.D.Disk.remaining l.fn.disk) (g.D.Disk.remaining l.disk) l.front l.left;
}

abbrev pub decreases-loop-left : goal.decreases-loop-left
decreases-loop-left g l = length l.left

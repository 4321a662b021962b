-- so much of the text is out
use Rattle.std.proofs.Common.{◌≡◌, ◌-◌, ◌≤◌, ℕ, Bool, false, List, Option, ◌++◌, length, take}
use Rattle.host_journal.specs.Disks.{Step, kept_so_far}
use Rattle.host_journal.specs.Order.{At, IsCovered, sure}
use Rattle.host_journal.proofs.Quiet.{WentOn}
use Rattle.host_journal.proofs.putting.put_all.Given as goal

abbrev pub invariant-loop-taken : goal.invariant-loop-taken
invariant-loop-taken g l = record {
  within : l.taken ≤ length l.text;
  which : g.D.Disk.segment l.disk ≡ g.D.Disk.segment l.fn.disk;
  went : WentOn (g.D.Disk.steps l.fn.disk) (g.D.Disk.steps l.disk);
  kept : kept_so_far (g.D.Disk.steps l.disk) ≡ kept_so_far (g.D.Disk.steps l.fn.disk);
  order : (is_synced : Bool) (first kept synced out : List ℕ) (before : Option (List Step)) → At is_synced first before (g.D.Disk.steps l.fn.disk) kept synced out false
      → IsCovered first (first ++ sure is_synced kept synced) (out ++ l.text) → At is_synced first before (g.D.Disk.steps l.disk) kept synced (out ++ take l.taken l.text) false;
}

abbrev pub decreases-loop-taken : goal.decreases-loop-taken
decreases-loop-taken g l = length l.text - l.taken

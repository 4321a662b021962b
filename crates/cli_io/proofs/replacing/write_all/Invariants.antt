-- so much was written
use Rattle.std.proofs.Common.{◌≤◌, ℕ, List, Option, length, take}
use Rattle.cli_io.specs.Folders.{Step}
use Rattle.cli_io.specs.Replacing.{At, Stage, TakesBytes, with_more}
use Rattle.cli_io.proofs.replacing.write_all.Given as goal

abbrev pub invariant-loop : goal.invariant-loop
invariant-loop g l = record {
  within : l.written ≤ length l.bytes;
  at : (path whole : List ℕ) (base : Option (List Step)) (stage : Stage) → TakesBytes whole stage l.bytes → At path whole base (g.F.Folder.steps l.fn.folder) stage
      → At path whole base (g.F.Folder.steps l.folder) (with_more stage (take l.written l.bytes));
}

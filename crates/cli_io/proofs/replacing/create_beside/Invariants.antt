-- what was seen, and no file of ours; a number may have been drawn
use Rattle.std.proofs.Common.{ℕ, List, None, Option}
use Rattle.cli_io.specs.Folders.{Step}
use Rattle.cli_io.specs.Replacing.{At, Seen}
use Rattle.cli_io.proofs.replacing.create_beside.Given as goal

abbrev pub invariant-loop : goal.invariant-loop
invariant-loop g l =
    (path bytes : List ℕ) (base : Option (List Step)) → At path bytes base (g.F.Folder.steps l.fn.folder) (Seen l.fn.out l.fn.look None)
    → (drawn : Option ℕ) × At path bytes base (g.F.Folder.steps l.folder) (Seen l.fn.out l.fn.look drawn)

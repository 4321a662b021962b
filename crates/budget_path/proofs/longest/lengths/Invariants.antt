use Rattle.budget_path.proofs.PathLengths.{AreLengths}
use Rattle.budget_path.proofs.longest.lengths.Given as goal

abbrev pub invariant-loop-place : goal.invariant-loop-place
invariant-loop-place l = AreLengths l.program l.place-items l.lengths.items l.place-index

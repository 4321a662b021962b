-- none of the words so far is at fault
use Rattle.std.proofs.Common.{◌<◌, ℕ}
use Rattle.host_decision.specs.Faults.{IsFaultAt}
use Rattle.host_decision.proofs.undecided.faulty_word.Given as goal

abbrev pub invariant-loop-place : goal.invariant-loop-place
invariant-loop-place l = (place : ℕ) → place < l.place → IsFaultAt l.config l.words place → ⊥

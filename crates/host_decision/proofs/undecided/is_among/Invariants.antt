-- none of the words so far is the same
use Rattle.std.proofs.Common.{◌<◌, ℕ, get_or}
use Rattle.host_decision.specs.Faults.{IsSame}
use Rattle.host_decision.proofs.undecided.is_among.Given as goal

abbrev pub invariant-loop-other : goal.invariant-loop-other
invariant-loop-other l = (place : ℕ) → place < l.other-index → IsSame (get_or l.words place l.word) l.word → ⊥

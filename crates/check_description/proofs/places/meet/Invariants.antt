use Rattle.std.proofs.Common.{◌≡◌, ℕ}
use Rattle.check_description.specs.Spills.{at_place}
use Rattle.check_description.proofs.Losing.{HaveLost}
use Rattle.check_description.proofs.places.meet.Given as goal

-- of those before this place what is not on both paths is lost
abbrev pub invariant-loop-place : goal.invariant-loop-place
invariant-loop-place l = HaveLost (λ (p : ℕ). at_place l.fn.places p ≡ at_place l.others p → ⊥) (λ (p : ℕ). at_place l.fn.places p ≡ at_place l.others p) l.place l.fn.places l.places l.fn.stack l.stack

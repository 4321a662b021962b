use Rattle.std.proofs.Common.{ℕ}
use Rattle.check_description.specs.Spills.{IsGone, at_place}
use Rattle.check_description.proofs.Losing.{HaveLost}
use Rattle.check_description.proofs.places.outlive.Given as goal

-- of those before this place the addresses are lost whose frame is gone
abbrev pub invariant-loop-place : goal.invariant-loop-place
invariant-loop-place l = HaveLost (λ (p : ℕ). IsGone l.live (at_place l.fn.places p)) (λ (p : ℕ). IsGone l.live (at_place l.fn.places p) → ⊥) l.place l.fn.places l.places l.fn.stack l.stack

use Rattle.std.proofs.Common.{◌≡◌, ℕ, ◌<◌, ◌≤◌, length}
use Rattle.check_description.specs.Spills.{at_place, spill_without}
use Rattle.check_description.proofs.places.give_up.Given as goal

-- those before this place are changed, and the others not yet
abbrev pub invariant-loop-place : goal.invariant-loop-place
invariant-loop-place l = record {
  len : length l.places ≡ length l.fn.places;
  done : (p : ℕ) → p < l.place → at_place l.places p ≡ spill_without l.name (at_place l.fn.places p);
  rest : (p : ℕ) → l.place ≤ p → at_place l.places p ≡ at_place l.fn.places p;
}

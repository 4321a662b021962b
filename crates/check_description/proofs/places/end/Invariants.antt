use Rattle.std.proofs.Common.{◌≡◌, ℕ, ◌<◌, ◌≤◌, ◌⊎◌, length}
use Rattle.check_description.specs.declared.spill.Spill.TheVariants.{Nothing}
use Rattle.check_description.specs.Spills.{at_place}
use Rattle.check_description.proofs.places.end.Given as goal

-- nothing stands before this place any more, and all else as it was
abbrev pub invariant-loop-place : goal.invariant-loop-place
invariant-loop-place l = record {
  len : length l.places ≡ length l.fn.places;
  done : (p : ℕ) → l.from ≤ p → p < l.place → at_place l.places p ≡ Nothing;
  rest : (p : ℕ) → ((p < l.from) ⊎ (l.place ≤ p)) → at_place l.places p ≡ at_place l.fn.places p;
}

-- The first of a scenario's steps, so many of them: which one stands at a place, and where they end.
use Rattle.std.proofs.Common.{◌≡◌, ℕ, zero, suc, ◌<◌, ◌≤◌, List, [], ◌∷◌, drop, get_or, length, take, refl, ap, sym, ◌∙◌, arith}
use Rattle.std.proofs.lemmas.List.{drop_all}
use Rattle.scenario.specs.Commands.{Step}

pub take_within : (count index : ℕ) (steps : List Step) → index < count → index < length steps → index < length (take count steps)
take_within zero index steps before within = absurd (omega (arith, before))
take_within (suc count) index [] before within = absurd (omega (arith, within))
take_within (suc count) zero (step ∷ steps) before within = omega arith
take_within (suc count) (suc index) (step ∷ steps) before within = omega (arith, take_within count index steps (omega (arith, before)) (omega (arith, within)))

pub take_here : (count index : ℕ) (steps : List Step) (d : Step) → index < count → get_or (take count steps) index d ≡ get_or steps index d
take_here zero index steps d before = absurd (omega (arith, before))
take_here (suc count) index [] d before = refl
take_here (suc count) zero (step ∷ steps) d before = refl
take_here (suc count) (suc index) (step ∷ steps) d before = take_here count index steps d (omega (arith, before))

take_few : (count : ℕ) (steps : List Step) → length (take count steps) ≤ count
take_few zero steps = omega arith
take_few (suc count) [] = omega arith
take_few (suc count) (step ∷ steps) = omega (arith, take_few count steps)

take_fewer : (count : ℕ) (steps : List Step) → length (take count steps) ≤ length steps
take_fewer zero steps = omega arith
take_fewer (suc count) [] = omega arith
take_fewer (suc count) (step ∷ steps) = omega (arith, take_fewer count steps)

pub at_count : (count passed : ℕ) (steps : List Step) → passed ≡ count → drop passed (take count steps) ≡ []
at_count count passed steps is = drop_all passed (take count steps) (omega (arith, is, take_few count steps))

pub at_last : (count passed : ℕ) (steps : List Step) → passed ≡ length steps → drop passed (take count steps) ≡ []
at_last count passed steps is = drop_all passed (take count steps) (omega (arith, is, take_fewer count steps))

-- the step at which the walk is
pub record Stands (count passed : ℕ) (all : List Step) (step : Step) : Type 0 where
  pub within : passed < length (take count all)
  pub is : step ≡ get_or (take count all) passed step

pub stands : (count passed walked : ℕ) (all : List Step) (step : Step) → passed ≡ walked → passed ≤ count → (passed ≡ count → ⊥) → walked < length all → step ≡ get_or all walked step → Stands count passed all step
stands count passed walked all step same before more within is =
    let some : passed < count = omega (arith, before, more) in
    record {
      within = take_within count passed all some (omega (arith, same, within));
      is = is ∙ (ap (λ (n : ℕ). get_or all n step) (sym same) ∙ sym (take_here count passed all step some));
    }

-- A walk over the steps of a scenario: those that were passed, and those that are left.
use Rattle.std.proofs.Common.{◌≡◌, ℕ, ◌+◌, ◌<◌, List, [], ◌∷◌, ◌++◌, map, length, get_or, refl, ap, sym, ◌∙◌, append_assoc, length-append, arith}
use Rattle.std.proofs.lemmas.List.{length-map, map-append}
use Rattle.scenario.specs.Commands.{Step}
use Rattle.scenario.specs.Steps.{step_seen}
use Rattle.scenario.specs.declared.steps.Step.{Step as Seen}

here_at : (passed rest : List Step) (step : Step) → get_or (passed ++ step ∷ rest) (length passed) step ≡ step
here_at [] rest step = refl
here_at (first ∷ passed) rest step = here_at passed rest step

-- so many steps were passed, and these are left
pub record Walks (all : List Step) (passed : List Seen) (left : List Step) : Type 0 where
  pub whole : map step_seen passed ++ left ≡ all

pub begins : (all : List Step) → Walks all [] all
begins all = record { whole = refl }

module _ (all : List Step) (passed : List Seen) (seen : Seen) (left rest : List Step) (walks : Walks all passed left) (next : left ≡ step_seen seen ∷ rest) where
  cut_here : all ≡ map step_seen passed ++ step_seen seen ∷ rest
  cut_here = sym walks.whole ∙ ap (λ (l : List Step). map step_seen passed ++ l) next

  pub is_within : length passed < length all
  is_within = omega (arith, ap length cut_here, length-append (map step_seen passed) (step_seen seen ∷ rest), length-map passed step_seen)

  pub is_here : step_seen seen ≡ get_or all (length passed) (step_seen seen)
  is_here =
      sym (ap (λ (l : List Step). get_or l (length passed) (step_seen seen)) cut_here
      ∙ (ap (λ (n : ℕ). get_or (map step_seen passed ++ step_seen seen ∷ rest) n (step_seen seen)) (sym (length-map passed step_seen))
      ∙ here_at (map step_seen passed) rest (step_seen seen)))

  pub walks_on : Walks all (passed ++ seen ∷ []) rest
  walks_on = record {
    whole = ap (λ (l : List Step). l ++ rest) (map-append step_seen passed (seen ∷ [])) ∙ (append_assoc (map step_seen passed) (step_seen seen ∷ []) rest ∙ sym cut_here);
  }

pub all_passed : (all : List Step) (passed : List Seen) (left : List Step) → Walks all passed left → left ≡ [] → length passed ≡ length all
all_passed all passed left walks none =
    omega (arith, ap length walks.whole, length-append (map step_seen passed) left, length-map passed step_seen, ap length none)

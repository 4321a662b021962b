use Rattle.std.proofs.Common.{◌≡◌, ℕ, ◌+◌, ◌*◌, ◌/◌, List, take, ap, subst, ◌∙◌, arith, inl, inr}
use Rattle.std.proofs.lemmas.Bool.{cases_lt}
use Rattle.std.proofs.lemmas.List.{get_or-take, get_or_past, length-take}
use Rattle.check_description.specs.declared.spill.Spill.{Spill}
use Rattle.check_description.specs.declared.spill.Spill.TheVariants.{Nothing}
use Rattle.check_description.specs.Spills.{IsGone, at_place}
use Rattle.check_description.proofs.spills.Spills.close.Goals as goal

-- what is left where the list was cut is what was there
not_more : (live n place : ℕ) (spills left : List Spill) → left ≡ take n spills → (IsGone live (at_place spills place) → ⊥) → IsGone live (at_place left place) → ⊥
not_more live n place spills left is stays gone =
    let here = subst (λ (l : List Spill). IsGone live (at_place l place)) is gone in
    elim (cases_lt place n) [
      | inl below ↦ stays (subst (IsGone live) (get_or-take n spills place Nothing below) here)
      | inr past ↦ subst (IsGone live) (get_or_past (take n spills) place Nothing (omega (arith, past, length-take n spills))) here
    ]

pub returns-clause-knows : goal.returns-clause-knows
returns-clause-knows c = λ frame offset stays.
    c.outlive.ensures.knows frame offset
    (not_more c.args.live (64 * c.args.live) (64 * frame + offset / 8) c.args.self.now c.as_mut_slice.result.now (c.as_mut_slice.ensures.value ∙ (c.truncate.ensures.items ∙ ap (take (64 * c.args.live)) c.self.view_is)) stays)

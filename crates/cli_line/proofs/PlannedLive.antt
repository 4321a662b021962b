-- The plans after `live`, with a journal and without.
use Rattle.std.proofs.Common.{◌≡◌, List, [], ◌∷◌, Option, Some, None, Result, Ok, Err, codes, refl, sym, subst, ap, ◌∙◌}
use Rattle.std.specs.Prelude.{IfOk, MatchBool, String, false, true, option_map, string_bytes}
use Rattle.clap.specs.Words.{Row, Text, first_of}
use Rattle.cli_line.specs.FoundPlan.{AreFound, HasManner, IsGiven, MakesLive, MakesNone, PlansAlone, PlansBehind}
use Rattle.cli_line.specs.declared.plans.Manner.{Manner}
use Rattle.cli_line.specs.declared.plans.Plan.{Plan}

module _ (rows : List Row) where
  -- none without a journal
  pub none_alone : first_of (codes "journal") rows ≡ None → (((IsGiven (codes "sync") rows → ⊥) × AreFound (codes "MANIFEST" ∷ []) rows) → ⊥) → MakesNone (codes "live") rows
  none_alone none lacks = λ suffices. lacks (subst (λ (o : Option Text). MakesLive o rows) none suffices)

  -- what is planned without a journal is what is planned
  pub alone_behind : {E : Type 0} (manner : Manner) (planned : Result (Option Plan) E) → first_of (codes "journal") rows ≡ None → HasManner rows manner
      → IfOk planned (PlansAlone rows manner) → IfOk planned (PlansBehind (codes "live") rows)
  alone_behind manner (Ok (Some plan)) none its is = is none its
  alone_behind manner (Ok None) none its is = is none
  alone_behind manner (Err e) none its is = tt

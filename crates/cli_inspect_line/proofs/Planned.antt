-- From the rows that `clap` found after a word to the plan.
use Rattle.std.proofs.Common.{◌≡◌, ◌∙◌, List, [], Option, Some, None, ap, subst, sym}
use Rattle.std.specs.Prelude.{unwrap_or}
use Rattle.clap.specs.Words.{Row, Text}
use Rattle.cli_line.proofs.Planned.{names_in, rows_in}
use Rattle.cli_inspect_line.specs.FoundPlan.{HasFound, PlansBehind, PlansFound, Suffices}
use Rattle.cli_inspect_line.specs.declared.plans.Plan.{Plan}

-- what a plan is by the rows that were found, it is by the matches
pub plan_in : (found : Option (Text × List Row)) (name : Text) (rows : List Row) (planned : Option Plan) → found ≡ Some (name, rows)
    → PlansBehind name rows planned → PlansFound found planned
plan_in found name rows (Some plan) is h = subst (λ f. HasFound f plan) (sym is) h
plan_in found name rows None is h = λ also other is_other suffices.
    let named : name ≡ also = ap (λ f. unwrap_or (names_in f) []) (sym is ∙ is_other) in
    let same : rows ≡ other = ap (λ f. unwrap_or (rows_in f) rows) (sym is ∙ is_other) in
    h (subst (λ (n : Text). Suffices n rows) (sym named) (subst (λ (r : List Row). Suffices also r) (sym same) suffices))

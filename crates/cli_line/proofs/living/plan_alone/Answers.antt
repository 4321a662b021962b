use Rattle.std.proofs.Common.{Bool, Some, ap, codes, refl, sym, subst, ◌∙◌}
use Rattle.std.specs.Prelude.{MatchBool}
use Rattle.clap.specs.Words.{Text, found_of, rows_of}
use Rattle.cli_line.specs.FoundPlan.{IsGiven}
use Rattle.cli_line.proofs.Given.{no_text, text_given}
use Rattle.cli_line.proofs.PlannedLive.{none_alone}
use Rattle.cli_line.proofs.living.plan_alone.Goals as goal

pub returns : goal.returns
returns c none its = (
  (
    refl,
    text_given (found_of c.args.live.now) (codes "MANIFEST") c.get_str.result _ c.get_str.ensures c.in-Some.is
        ∙ ap (λ (t : Text). Some t) (sym c.in_ok-from_str.ensures.ok),
    its,
    none,
    subst (λ (b : Bool). MatchBool b (IsGiven (codes "sync") (rows_of (found_of c.args.live.now))) (IsGiven (codes "sync") (rows_of (found_of c.args.live.now)) → ⊥)) c.if-is_given.false c.is_given.ensures,
  ),
  tt,
)

pub returns-in_default : goal.returns-in_default
returns-in_default c none = none_alone (rows_of (found_of c.args.live.now)) none
    (λ enough. no_text (found_of c.args.live.now) (codes "MANIFEST") c.get_str.result enough.1.0.0 c.get_str.ensures c.in_default.is enough.1.0.1)

use Rattle.std.proofs.Common.{Some, ap, codes, refl, sym, ◌∙◌}
use Rattle.clap.specs.Words.{Text, found_of, rows_of}
use Rattle.cli_line.proofs.Given.{nothing_given, text_given}
use Rattle.cli_line.proofs.PlannedLive.{alone_behind}
use Rattle.cli_line.proofs.living.live_plan.Goals as goal

pub returns : goal.returns
returns c = (
  (
    refl,
    text_given (found_of c.args.live.now) (codes "journal") c.get_str.result _ c.get_str.ensures c.in-Some.is
        ∙ ap (λ (t : Text). Some t) (sym c.in_ok-folder.ensures.ok),
    c.in_ok-manifest.ensures,
    c.in_ok-manner.ensures,
    c.is_given.ensures,
  ),
  tt,
)

pub returns-in_default : goal.returns-in_default
returns-in_default c = alone_behind (rows_of (found_of c.args.live.now)) c.in_ok-manner.manner c.plan_alone.result
    (nothing_given (found_of c.args.live.now) (codes "journal") c.get_str.result c.get_str.ensures c.in_default.is) c.in_ok-manner.ensures c.plan_alone.ensures

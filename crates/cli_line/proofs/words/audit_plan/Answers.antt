use Rattle.std.proofs.Common.{Some, ap, codes, refl, sym, ◌∙◌}
use Rattle.clap.specs.Words.{Text, found_of}
use Rattle.cli_line.proofs.Given.{no_text, text_given}
use Rattle.cli_line.proofs.words.audit_plan.Goals as goal

pub returns : goal.returns
returns c = (
  (
    refl,
    text_given (found_of c.args.audit.now) (codes "DIR") c.get_str.result _ c.get_str.ensures c.in-Some.is
        ∙ ap (λ (t : Text). Some t) (sym c.in_ok-from_str.ensures.ok),
  ),
  tt,
)

pub returns-in_default : goal.returns-in_default
returns-in_default c = λ found. no_text (found_of c.args.audit.now) (codes "DIR") c.get_str.result found.0.0 c.get_str.ensures c.in_default.is found.0.1

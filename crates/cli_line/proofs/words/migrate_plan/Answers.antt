use Rattle.std.proofs.Common.{Some, ap, codes, refl, sym, ◌∙◌}
use Rattle.clap.specs.Words.{Text, found_of}
use Rattle.cli_line.proofs.Given.{no_text, text_given}
use Rattle.cli_line.proofs.words.migrate_plan.Goals as goal

pub returns : goal.returns
returns c = (
  (
    refl,
    c.in-Some.ensures,
    text_given (found_of c.args.migrate.now) (codes "IN") c.get_str.result _ c.get_str.ensures c.in-Some-get_str.is
        ∙ ap (λ (t : Text). Some t) (sym c.in_ok-manifest.ensures.ok),
    text_given (found_of c.args.migrate.now) (codes "OUT") c.get_str-2.result _ c.get_str-2.ensures c.in-Some-get_str-2.is
        ∙ ap (λ (t : Text). Some t) (sym c.in_ok-migrated.ensures.ok),
  ),
  tt,
)

pub returns-in_default : goal.returns-in_default
returns-in_default c = λ found. c.in_default.ensures found.1.0 found.1.1

pub returns-in_default-get_str : goal.returns-in_default-get_str
returns-in_default-get_str c = λ found. no_text (found_of c.args.migrate.now) (codes "IN") c.get_str.result found.0.0.0 c.get_str.ensures c.in_default-get_str.is found.0.0.1

pub returns-in_default-get_str-2 : goal.returns-in_default-get_str-2
returns-in_default-get_str-2 c = λ found. no_text (found_of c.args.migrate.now) (codes "OUT") c.get_str-2.result found.0.1.0.0 c.get_str-2.ensures c.in_default-get_str-2.is found.0.1.0.1

use Rattle.std.proofs.Common.{Some, ap, codes, refl, sym, ◌∙◌}
use Rattle.clap.specs.Words.{Text, found_of}
use Rattle.cli_line.proofs.Given.{nothing_given, text_given}
use Rattle.cli_line.proofs.living.metrics_of.Goals as goal

pub returns-in_ok-from_str-in-Some : goal.returns-in_ok-from_str-in-Some
returns-in_ok-from_str-in-Some c = text_given (found_of c.args.live.now) (codes "metrics") c.get_str.result _ c.get_str.ensures c.in-Some.is
    ∙ ap (λ (t : Text). Some t) (sym c.in_ok-from_str-in-Some.ensures.ok)

pub returns-in-None : goal.returns-in-None
returns-in-None c = nothing_given (found_of c.args.live.now) (codes "metrics") c.get_str.result c.get_str.ensures c.in-None.is

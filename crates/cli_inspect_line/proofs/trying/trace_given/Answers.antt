use Rattle.std.proofs.Common.{◌∙◌, Some, ap, codes, sym}
use Rattle.clap.specs.Words.{Text, found_of}
use Rattle.cli_line.proofs.Given.{nothing_given, text_given}
use Rattle.cli_inspect_line.proofs.trying.trace_given.Goals as goal

pub returns-in_ok-path-in-Some : goal.returns-in_ok-path-in-Some
returns-in_ok-path-in-Some c =
    text_given (found_of c.args.tried.now) (codes "trace") c.get_str.result _ c.get_str.ensures c.in-Some.is ∙ ap (λ (t : Text). Some t) (sym c.in_ok-path-in-Some.ensures.ok)

pub returns-in-None : goal.returns-in-None
returns-in-None c = nothing_given (found_of c.args.tried.now) (codes "trace") c.get_str.result c.get_str.ensures c.in-None.is

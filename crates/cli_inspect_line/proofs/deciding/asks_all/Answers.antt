use Rattle.std.proofs.Common.{codes}
use Rattle.clap.specs.Words.{found_of, rows_of}
use Rattle.cli_line.proofs.Given.{flag_told, no_text, text_given}
use Rattle.cli_inspect_line.proofs.deciding.asks_all.Goals as goal

pub returns-in-Some : goal.returns-in-Some
returns-in-Some c = flag_told (rows_of (found_of c.args.decide.now)) (codes "all-sense") c.in-Some.word.now c.is_true.result
    (text_given (found_of c.args.decide.now) (codes "all-sense") c.get_str.result _ c.get_str.ensures c.in-Some.is) c.is_true.ensures

pub returns-in-None : goal.returns-in-None
returns-in-None c = λ asked. no_text (found_of c.args.decide.now) (codes "all-sense") c.get_str.result (codes "true") c.get_str.ensures c.in-None.is asked

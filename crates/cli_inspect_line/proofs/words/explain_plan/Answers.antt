use Rattle.std.proofs.Common.{codes}
use Rattle.clap.specs.Words.{found_of, rows_of}
use Rattle.cli_line.proofs.Given.{no_text, nothing_given, text_given}
use Rattle.cli_inspect_line.proofs.Explained.{files_behind, word_behind}
use Rattle.cli_inspect_line.proofs.words.explain_plan.Goals as goal

pub returns-in_ok-plan-in-Some-get_str : goal.returns-in_ok-plan-in-Some-get_str
returns-in_ok-plan-in-Some-get_str c =
    let f = found_of c.args.explain.now in
    files_behind (rows_of f) c.in-Some.word.now c.in-Some-get_str.file.now c.in_ok-plan-in-Some-get_str.plan
    (text_given f (codes "WORD") c.get_str.result _ c.get_str.ensures c.in-Some.is)
    (text_given f (codes "FILE") c.get_str-2.result _ c.get_str-2.ensures c.in-Some-get_str.is) c.in_ok-plan-in-Some-get_str.ensures

pub returns-in_ok-plan-in-None : goal.returns-in_ok-plan-in-None
returns-in_ok-plan-in-None c =
    let f = found_of c.args.explain.now in
    word_behind (rows_of f) c.in-Some.word.now c.in_ok-plan-in-None.plan
    (text_given f (codes "WORD") c.get_str.result _ c.get_str.ensures c.in-Some.is)
    (nothing_given f (codes "FILE") c.get_str-2.result c.get_str-2.ensures c.in-None.is) c.in_ok-plan-in-None.ensures

pub returns-in_default : goal.returns-in_default
returns-in_default c = λ found. no_text (found_of c.args.explain.now) (codes "WORD") c.get_str.result found.0.0 c.get_str.ensures c.in_default.is found.0.1

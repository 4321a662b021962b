use Rattle.std.proofs.Common.{codes, sym}
use Rattle.clap.specs.Words.{found_of, rows_of}
use Rattle.cli_line.proofs.Given.{nothing_given, text_given}
use Rattle.cli_inspect_line.specs.ReportedWords.{refused_in}
use Rattle.cli_inspect_line.proofs.Unread.{unread}
use Rattle.cli_inspect_line.proofs.showing.refused_given.Goals as goal

pub returns-in-None : goal.returns-in-None
returns-in-None c = nothing_given (found_of c.args.show.now) (codes "refused") c.get_str.result c.get_str.ensures c.in-None.is

pub returns-in-Some-refused_in : goal.returns-in-Some-refused_in
returns-in-Some-refused_in c = (
  c.in-Some.word.now,
  text_given (found_of c.args.show.now) (codes "refused") c.get_str.result _ c.get_str.ensures c.in-Some.is,
  sym c.in-Some-refused_in.ensures,
)

pub returns-in-None-refused_in : goal.returns-in-None-refused_in
returns-in-None-refused_in c = λ refused found.
    unread refused_in (codes "refused") c.in-Some.word.now (rows_of (found_of c.args.show.now)) refused
    (text_given (found_of c.args.show.now) (codes "refused") c.get_str.result _ c.get_str.ensures c.in-Some.is) (sym c.in-None-refused_in.ensures) found

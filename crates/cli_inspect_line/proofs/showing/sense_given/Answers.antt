use Rattle.std.proofs.Common.{codes, sym}
use Rattle.clap.specs.Words.{found_of, rows_of}
use Rattle.cli_line.proofs.Given.{nothing_given, text_given}
use Rattle.cli_inspect_line.specs.ReportedWords.{sense_in}
use Rattle.cli_inspect_line.proofs.Unread.{unread}
use Rattle.cli_inspect_line.proofs.showing.sense_given.Goals as goal

pub returns-in-None : goal.returns-in-None
returns-in-None c = nothing_given (found_of c.args.show.now) (codes "sense") c.get_str.result c.get_str.ensures c.in-None.is

pub returns-in-Some-sense_in : goal.returns-in-Some-sense_in
returns-in-Some-sense_in c = (
  c.in-Some.word.now,
  text_given (found_of c.args.show.now) (codes "sense") c.get_str.result _ c.get_str.ensures c.in-Some.is,
  sym c.in-Some-sense_in.ensures,
)

pub returns-in-None-sense_in : goal.returns-in-None-sense_in
returns-in-None-sense_in c = λ sense found.
    unread sense_in (codes "sense") c.in-Some.word.now (rows_of (found_of c.args.show.now)) sense
    (text_given (found_of c.args.show.now) (codes "sense") c.get_str.result _ c.get_str.ensures c.in-Some.is) (sym c.in-None-sense_in.ensures) found

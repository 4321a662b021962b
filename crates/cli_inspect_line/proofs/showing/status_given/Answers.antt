use Rattle.std.proofs.Common.{codes, sym}
use Rattle.clap.specs.Words.{found_of, rows_of}
use Rattle.cli_line.proofs.Given.{nothing_given, text_given}
use Rattle.base.specs.Hexadecimal.{byte_in}
use Rattle.cli_inspect_line.proofs.Unread.{unread}
use Rattle.cli_inspect_line.proofs.showing.status_given.Goals as goal

pub returns-in-None : goal.returns-in-None
returns-in-None c = nothing_given (found_of c.args.show.now) (codes "status") c.get_str.result c.get_str.ensures c.in-None.is

pub returns-in-Some-byte_of : goal.returns-in-Some-byte_of
returns-in-Some-byte_of c = (
  c.in-Some.word.now,
  text_given (found_of c.args.show.now) (codes "status") c.get_str.result _ c.get_str.ensures c.in-Some.is,
  sym c.in-Some-byte_of.ensures,
)

pub returns-in-None-byte_of : goal.returns-in-None-byte_of
returns-in-None-byte_of c = λ status found.
    unread byte_in (codes "status") c.in-Some.word.now (rows_of (found_of c.args.show.now)) status
    (text_given (found_of c.args.show.now) (codes "status") c.get_str.result _ c.get_str.ensures c.in-Some.is) (sym c.in-None-byte_of.ensures) found

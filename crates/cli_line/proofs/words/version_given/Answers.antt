use Rattle.std.proofs.Common.{codes}
use Rattle.clap.specs.Words.{found_of, rows_of}
use Rattle.cli_line.specs.RunLine.{version_word}
use Rattle.cli_line.proofs.Given.{no_text, text_given, version_read}
use Rattle.cli_line.proofs.words.version_given.Goals as goal

pub returns : goal.returns
returns c = version_read (rows_of (found_of c.args.migrate.now)) c.in-Some.word.now c.version_in.result
    (text_given (found_of c.args.migrate.now) (codes "to") c.get_str.result _ c.get_str.ensures c.in-Some.is) c.version_in.ensures

pub returns-in_default : goal.returns-in_default
returns-in_default c to found =
    no_text (found_of c.args.migrate.now) (codes "to") c.get_str.result (version_word to) c.get_str.ensures c.in_default.is found

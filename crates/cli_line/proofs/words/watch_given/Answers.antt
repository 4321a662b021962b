use Rattle.std.proofs.Common.{codes}
use Rattle.clap.specs.Words.{found_of, rows_of}
use Rattle.cli_line.specs.RunLine.{watch_word}
use Rattle.cli_line.proofs.Given.{no_text, text_given, watch_read}
use Rattle.cli_line.proofs.words.watch_given.Goals as goal

pub returns : goal.returns
returns c = watch_read (rows_of (found_of c.args.run.now)) c.in-Some.word.now c.watch_in.result
    (text_given (found_of c.args.run.now) (codes "watch") c.get_str.result _ c.get_str.ensures c.in-Some.is) c.watch_in.ensures

pub returns-in_default : goal.returns-in_default
returns-in_default c watch found =
    no_text (found_of c.args.run.now) (codes "watch") c.get_str.result (watch_word watch) c.get_str.ensures c.in_default.is found

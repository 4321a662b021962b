use Rattle.std.proofs.Common.{codes}
use Rattle.clap.specs.Words.{found_of, rows_of}
use Rattle.cli_line.proofs.Given.{no_text, text_given, workers_read}
use Rattle.cli_line.proofs.words.workers_given.Goals as goal

pub returns : goal.returns
returns c = workers_read (rows_of (found_of c.args.run.now)) c.in-Some.word.now c.workers_in.result
    (text_given (found_of c.args.run.now) (codes "workers") c.get_str.result _ c.get_str.ensures c.in-Some.is) c.workers_in.ensures

pub returns-in_default : goal.returns-in_default
returns-in_default c word found n spells lawful =
    no_text (found_of c.args.run.now) (codes "workers") c.get_str.result word c.get_str.ensures c.in_default.is found

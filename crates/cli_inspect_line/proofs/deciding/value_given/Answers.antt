use Rattle.clap.specs.Words.{found_of, rows_of}
use Rattle.cli_line.proofs.Given.{no_text, text_given}
use Rattle.trace_lines.specs.Texts.{field_text}
use Rattle.cli_inspect_line.proofs.Spelled.{spelled_so}
use Rattle.cli_inspect_line.proofs.deciding.value_given.Goals as goal

pub returns-in-Some : goal.returns-in-Some
returns-in-Some c = spelled_so (field_text c.args.kind) c.args.name.now c.in-Some.word.now (rows_of (found_of c.args.decide.now)) c.read.result
    (text_given (found_of c.args.decide.now) c.args.name.now c.get_str.result _ c.get_str.ensures c.in-Some.is) c.read.ensures

pub returns-in-None : goal.returns-in-None
returns-in-None c = λ value found. no_text (found_of c.args.decide.now) c.args.name.now c.get_str.result found.0 c.get_str.ensures c.in-None.is found.1

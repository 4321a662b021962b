use Rattle.std.proofs.Common.{codes, subst, sym}
use Rattle.clap.specs.Words.{found_of, rows_of}
use Rattle.trace_lines.specs.Texts.{sense_text}
use Rattle.cli_inspect_line.proofs.Spelled.{Gives, sense_so}
use Rattle.cli_inspect_line.proofs.deciding.sense_given.Goals as goal

pub returns : goal.returns
returns c =
    let rows = rows_of (found_of c.args.decide.now) in
    subst (Gives sense_text (codes "SENSE") rows) (sym c.bytes_in.ensures) (sense_so (codes "SENSE") rows c.value_given.result c.value_given.ensures)

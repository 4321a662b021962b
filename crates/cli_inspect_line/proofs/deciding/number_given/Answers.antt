use Rattle.std.proofs.Common.{subst, sym}
use Rattle.clap.specs.Words.{found_of, rows_of}
use Rattle.trace_lines.specs.Texts.{number_text}
use Rattle.cli_inspect_line.proofs.Spelled.{Gives, number_so}
use Rattle.cli_inspect_line.proofs.deciding.number_given.Goals as goal

pub returns : goal.returns
returns c =
    let rows = rows_of (found_of c.args.decide.now) in
    subst (Gives number_text c.args.name.now rows) (sym c.number_in.ensures) (number_so c.args.name.now rows c.value_given.result c.value_given.ensures)

use Rattle.std.proofs.Common.{codes, subst, sym}
use Rattle.clap.specs.Words.{found_of, rows_of}
use Rattle.trace_lines.specs.Texts.{long_number_text}
use Rattle.cli_inspect_line.proofs.Spelled.{Gives, clock_so}
use Rattle.cli_inspect_line.proofs.deciding.clock_given.Goals as goal

pub returns : goal.returns
returns c =
    let rows = rows_of (found_of c.args.decide.now) in
    subst (Gives long_number_text (codes "clock") rows) (sym c.long_number_in.ensures) (clock_so (codes "clock") rows c.value_given.result c.value_given.ensures)

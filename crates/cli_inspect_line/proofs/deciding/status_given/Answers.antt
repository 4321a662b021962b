use Rattle.std.proofs.Common.{codes, subst, sym}
use Rattle.clap.specs.Words.{found_of, rows_of}
use Rattle.trace_lines.specs.Texts.{status_text}
use Rattle.cli_inspect_line.proofs.Spelled.{Gives, status_so}
use Rattle.cli_inspect_line.proofs.deciding.status_given.Goals as goal

pub returns : goal.returns
returns c =
    let rows = rows_of (found_of c.args.decide.now) in
    subst (Gives status_text (codes "STATUS") rows) (sym c.status_in.ensures) (status_so (codes "STATUS") rows c.value_given.result c.value_given.ensures)

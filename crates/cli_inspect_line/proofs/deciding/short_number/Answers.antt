use Rattle.std.proofs.Common.{subst, sym}
use Rattle.trace_lines.specs.Texts.{number_text}
use Rattle.trace_lines.specs.Written.{Reads}
use Rattle.cli_inspect_line.proofs.Spelled.{number_read}
use Rattle.cli_inspect_line.proofs.deciding.short_number.Goals as goal

pub returns : goal.returns
returns c = subst (Reads number_text c.args.word.now) (sym c.number_in.ensures) (number_read c.args.word.now c.read.result c.read.ensures)

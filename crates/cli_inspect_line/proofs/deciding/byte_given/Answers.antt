use Rattle.std.proofs.Common.{codes, subst, sym}
use Rattle.clap.specs.Words.{found_of, rows_of}
use Rattle.trace_lines.specs.Texts.{byte_text}
use Rattle.cli_inspect_line.proofs.Spelled.{Gives, byte_so}
use Rattle.cli_inspect_line.proofs.deciding.byte_given.Goals as goal

pub returns : goal.returns
returns c =
    let rows = rows_of (found_of c.args.decide.now) in
    subst (Gives byte_text (codes "SCSI") rows) (sym c.byte_in.ensures) (byte_so (codes "SCSI") rows c.value_given.result c.value_given.ensures)

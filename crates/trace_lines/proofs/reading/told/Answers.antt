use Rattle.std.proofs.Common.{sym, ◌∙◌, ap}
use Rattle.helpers.specs.declared.table.Row.{Row}
use Rattle.trace_lines.specs.Texts.{tells_name}
use Rattle.trace_lines.proofs.Stops.{no_blank}
use Rattle.trace_lines.proofs.reading.told.Goals as goal

pub returns-in_err-behind_blank-in-Bytes : goal.returns-in_err-behind_blank-in-Bytes
returns-in_err-behind_blank-in-Bytes c =
    rw c.from_residual.ensures (no_blank c.args.helper c.args.text.now (ap tells_name (ap (λ (r : Row). r.tells) (sym c.row.ensures) ∙ c.in-Bytes.is)) c.in_err-behind_blank-in-Bytes.ensures)

pub returns-in_err-behind_blank-in-Code : goal.returns-in_err-behind_blank-in-Code
returns-in_err-behind_blank-in-Code c =
    rw c.from_residual-in_err-behind_blank-in-Code.ensures (no_blank c.args.helper c.args.text.now (ap tells_name (ap (λ (r : Row). r.tells) (sym c.row.ensures) ∙ c.in-Code.is)) c.in_err-behind_blank-in-Code.ensures)

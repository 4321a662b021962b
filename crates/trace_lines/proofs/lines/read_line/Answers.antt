use Rattle.std.proofs.Common.{sym, ◌∙◌}
use Rattle.trace_lines.proofs.InARow.{no_word, no_fields, line_read}
use Rattle.trace_lines.proofs.lines.read_line.Goals as goal

pub returns-in_err-word : goal.returns-in_err-word
returns-in_err-word c =
    rw c.from_residual.ensures
    (no_word c.args.text.now c.first_word.result.0.now c.first_word.result.1.now c.first_word.ensures (sym c.named.ensures ∙ c.in_err-word.was))

pub returns-in_err-read_fields : goal.returns-in_err-read_fields
returns-in_err-read_fields c =
    rw c.from_residual-in_err-read_fields.ensures
    (no_fields c.args.text.now c.first_word.result.0.now c.first_word.result.1.now c.first_word.ensures c.in_ok-word.word (sym c.named.ensures ∙ c.in_ok-word.was)
    (rw c.row.ensures at c.in_err-read_fields.ensures))

pub returns : goal.returns
returns c =
    line_read c.args.text.now c.first_word.result.0.now c.first_word.result.1.now c.first_word.ensures c.in_ok-word.word (sym c.named.ensures ∙ c.in_ok-word.was)
    c.in_ok-read_fields.field-0 (rw c.row.ensures at c.in_ok-read_fields.ensures)

use Rattle.std.proofs.Common.{sym, ◌∙◌}
use Rattle.trace_lines.proofs.InARow.{fails_first, fails_second, fails_third, fails_fourth, something_left, all_read}
use Rattle.trace_lines.proofs.lines.read_fields.Goals as goal

pub returns-in_err-text : goal.returns-in_err-text
returns-in_err-text c = rw c.from_residual.ensures (fails_first c.args.fields.now c.args.text.now _ c.in_err-text.ensures)

pub returns-in_err-text-2 : goal.returns-in_err-text-2
returns-in_err-text-2 c =
    rw c.from_residual-in_err-text-2.ensures (fails_second c.args.fields.now c.args.text.now _ c.in_ok-text.text c.in_ok-text.ensures _ c.in_err-text-2.ensures)

pub returns-in_err-text-3 : goal.returns-in_err-text-3
returns-in_err-text-3 c =
    rw c.from_residual-in_err-text-3.ensures
    (fails_third c.args.fields.now c.args.text.now _ c.in_ok-text.text c.in_ok-text.ensures _ c.in_ok-text-2.text c.in_ok-text-2.ensures _ c.in_err-text-3.ensures)

pub returns-in_err-text-4 : goal.returns-in_err-text-4
returns-in_err-text-4 c =
    rw c.from_residual-in_err-text-4.ensures
    (fails_fourth c.args.fields.now c.args.text.now _ c.in_ok-text.text c.in_ok-text.ensures _ c.in_ok-text-2.text c.in_ok-text-2.ensures _ c.in_ok-text-3.text c.in_ok-text-3.ensures _
    c.in_err-text-4.ensures)

pub returns-then-not-is_empty : goal.returns-then-not-is_empty
returns-then-not-is_empty c =
    something_left c.args.fields.now c.args.text.now _ c.in_ok-text.text c.in_ok-text.ensures _ c.in_ok-text-2.text c.in_ok-text-2.ensures _ c.in_ok-text-3.text c.in_ok-text-3.ensures _
    c.in_ok-text-4.text c.in_ok-text-4.ensures (sym c.is_empty.ensures ∙ c.if-not-is_empty.true)

pub returns : goal.returns
returns c =
    all_read c.args.fields.now c.args.text.now _ c.in_ok-text.text c.in_ok-text.ensures _ c.in_ok-text-2.text c.in_ok-text-2.ensures _ c.in_ok-text-3.text c.in_ok-text-3.ensures _
    c.in_ok-text-4.text c.in_ok-text-4.ensures (sym c.is_empty.ensures ∙ c.if-not-is_empty.false)

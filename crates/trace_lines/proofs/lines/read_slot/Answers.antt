use Rattle.std.proofs.Common.{refl, sym, ◌∙◌}
use Rattle.trace_lines.proofs.Fields.{left_out, no_slot, read_slot, some_there, unread_slot}
use Rattle.trace_lines.proofs.lines.read_slot.Goals as goal

pub returns-then-lacks : goal.returns-then-lacks
returns-then-lacks c = rw c.in-Some.is (left_out c.in-Some.kind c.args.text (sym c.lacks.ensures ∙ c.if-lacks.true))

pub returns-in_err-behind_blank : goal.returns-in_err-behind_blank
returns-in_err-behind_blank c =
    rw (c.in-Some.is, c.from_residual.ensures)
    (no_slot c.in-Some.kind c.args.text.now c.args.held.now (some_there c.in-Some.kind c.args.text.now (sym c.lacks.ensures ∙ c.if-lacks.false)) c.in_err-behind_blank.ensures)

pub returns-in_err-read : goal.returns-in_err-read
returns-in_err-read c =
    rw (c.in-Some.is, c.from_residual-in_err-read.ensures)
    (unread_slot c.in-Some.kind c.args.text.now c.in_ok-behind_blank.field-0.now c.cut.result.0.now c.cut.result.1.now c.in_ok-behind_blank.ensures c.cut.ensures c.args.held.now c.in_err-read.ensures)

pub returns : goal.returns
returns c =
    rw c.in-Some.is
    (read_slot c.in-Some.kind c.args.text.now c.in_ok-behind_blank.field-0.now c.cut.result.0.now c.cut.result.1.now c.in_ok-behind_blank.ensures c.cut.ensures c.in_ok-read.field-0 c.cut.result.1 refl c.in_ok-read.ensures)

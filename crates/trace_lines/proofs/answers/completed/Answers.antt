use Rattle.std.proofs.Common.{sym, ◌∙◌}
use Rattle.trace_lines.proofs.Replies.{completed_none, completed_some}
use Rattle.trace_lines.proofs.answers.completed.Goals as goal

pub returns-in_err-run : goal.returns-in_err-run
returns-in_err-run c = rw c.from_residual.ensures (completed_none c.args.text.now (sym c.eq.ensures ∙ c.if-eq.false) c.in_err-run.ensures)

pub returns : goal.returns
returns c = completed_some c.args.text.now c.in_ok-run.run' c.in_ok-run.freeze (sym c.eq.ensures ∙ c.if-eq.false) c.in_ok-run.ensures

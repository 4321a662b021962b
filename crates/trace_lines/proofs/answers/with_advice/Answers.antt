use Rattle.trace_lines.proofs.Replies.{with_advice_none, with_advice_some}
use Rattle.trace_lines.proofs.answers.with_advice.Goals as goal

pub returns-in_err-ccb : goal.returns-in_err-ccb
returns-in_err-ccb c = rw c.from_residual.ensures (with_advice_none c.args.text.now c.in_err-ccb.ensures)

pub returns : goal.returns
returns c = with_advice_some c.args.text.now c.in_ok-ccb.ccb c.in_ok-ccb.advice c.in_ok-ccb.ensures

use Rattle.trace_lines.proofs.Replies.{no_ccb, no_advice, advised_reads}
use Rattle.trace_lines.proofs.answers.advised.Goals as goal

pub returns-in_err-number : goal.returns-in_err-number
returns-in_err-number c =
    rw c.from_residual-in_err-number.ensures
    (no_ccb c.args.text.now c.in_ok-behind.field-0.now c.first_word.result.0.now c.first_word.result.1.now c.in_ok-behind.ensures c.first_word.ensures c.in_err-number.ensures)

pub returns-in_err-named_number : goal.returns-in_err-named_number
returns-in_err-named_number c =
    rw c.from_residual-in_err-named_number.ensures
    (no_advice c.args.text.now c.in_ok-behind.field-0.now c.first_word.result.0.now c.first_word.result.1.now c.in_ok-behind.ensures c.first_word.ensures c.in_err-named_number.ensures)

pub returns : goal.returns
returns c =
    advised_reads c.args.text.now c.in_ok-behind.field-0.now c.first_word.result.0.now c.first_word.result.1.now c.in_ok-behind.ensures c.first_word.ensures c.in_ok-number.field-0
    c.in_ok-named_number.field-0 c.in_ok-number.ensures c.in_ok-named_number.ensures

use Rattle.trace_lines.proofs.Stops.{no_helper, reads_stop}
use Rattle.trace_lines.proofs.reading.stop.Goals as goal

pub returns-in_err-helper : goal.returns-in_err-helper
returns-in_err-helper c =
    rw c.from_residual-in_err-helper.ensures (no_helper c.args.text.now c.in_ok-behind_helper.field-0.now c.first_word.result.0.now c.first_word.result.1.now c.in_ok-behind_helper.ensures c.first_word.ensures c.in_err-helper.ensures)

pub returns : goal.returns
returns c = reads_stop c.args.text.now c.in_ok-behind_helper.field-0.now c.first_word.result.0.now c.first_word.result.1.now c.in_ok-behind_helper.ensures c.first_word.ensures c.in_ok-helper.helper c.told.result c.in_ok-helper.ensures c.told.ensures

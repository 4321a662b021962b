use Rattle.std.proofs.Common.{sym, ◌∙◌}
use Rattle.trace_lines.proofs.Stops.{some_sense}
use Rattle.trace_lines.proofs.reading.sense.Goals as goal

pub returns : goal.returns
returns c = some_sense c.args.word.now c.bytes.result (sym c.eq.ensures ∙ c.if-eq.false) c.bytes.ensures

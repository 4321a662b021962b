use Rattle.std.proofs.Common.{sym, ◌∙◌}
use Rattle.trace_lines.proofs.Pairs.{reads_status}
use Rattle.trace_lines.proofs.reading.status.Goals as goal

pub returns-in-Some : goal.returns-in-Some
returns-in-Some c = reads_status c.args.word.now c.in-Some.code c.from_code.result (sym c.byte_of.ensures ∙ c.in-Some.is) c.if-code-gt0.true c.from_code.ensures

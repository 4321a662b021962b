use Rattle.trace_lines.proofs.Pairs.{reads_byte}
use Rattle.trace_lines.proofs.reading.byte.Goals as goal

pub returns : goal.returns
returns c = reads_byte c.args.word.now c.byte_of.result c.byte_of.ensures

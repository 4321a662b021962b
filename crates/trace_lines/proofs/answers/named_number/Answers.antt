use Rattle.trace_lines.proofs.Replies.{named_reads}
use Rattle.trace_lines.proofs.answers.named_number.Goals as goal

pub returns : goal.returns
returns c = named_reads c.args.name.now c.args.text.now c.in_ok-behind.field-0.now c.number.result c.in_ok-behind.ensures c.number.ensures

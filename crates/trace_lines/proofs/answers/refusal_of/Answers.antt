use Rattle.trace_lines.proofs.Replies.{coded_reads}
use Rattle.trace_lines.proofs.answers.refusal_of.Goals as goal

pub returns : goal.returns
returns c = rw c.coded.ensures (coded_reads c.args.text.now)

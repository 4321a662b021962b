use Rattle.trace_lines.proofs.Replies.{refused_reads, formed_reads}
use Rattle.trace_lines.proofs.table.Row.read_answer.Goals as goal

pub returns-in-Some : goal.returns-in-Some
returns-in-Some c = refused_reads c.args.self.now c.args.text.now c.in-Some.refusal c.in-Some.ensures

pub returns-in-None : goal.returns-in-None
returns-in-None c = formed_reads c.args.self.now c.args.text.now c.read.result c.in-None.ensures c.read.ensures

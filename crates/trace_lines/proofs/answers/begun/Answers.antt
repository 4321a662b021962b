use Rattle.trace_lines.proofs.Replies.{begun_alone, begun_advised}
use Rattle.trace_lines.proofs.answers.begun.Goals as goal

pub returns-in-Some : goal.returns-in-Some
returns-in-Some c = begun_alone c.args.text.now c.in-Some.ccb c.in-Some.ensures

pub returns-in-None : goal.returns-in-None
returns-in-None c = begun_advised c.args.text.now c.with_advice.result c.in-None.ensures c.with_advice.ensures

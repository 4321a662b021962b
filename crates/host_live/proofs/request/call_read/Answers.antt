use Rattle.host_live.proofs.Spelled.{calls_read, no_call}
use Rattle.host_live.proofs.request.call_read.Goals as goal

pub returns-in-Some : goal.returns-in-Some
returns-in-Some c = calls_read c.args.line.now c.in-Some.word c.in-Some.held c.call_of.result c.in-Some.ensures (c.call_of.ensures c.args.line.now c.in-Some.ensures.said)

pub returns-in-None : goal.returns-in-None
returns-in-None c = no_call c.args.line.now c.in-None.ensures

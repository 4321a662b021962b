use Rattle.host_embedding.proofs.Counts.{noted_of_none, noted_of_queue}
use Rattle.host_embedding.proofs.counting.before_completion.Goals as goal

pub returns-in-Some : goal.returns-in-Some
returns-in-Some c = noted_of_queue c.args.transport.now c.args.ccb.0 c.live.result c.in-Some.live c.ccb.result c.of_call.result c.live.ensures c.in-Some.is c.ccb.ensures c.of_call.ensures

pub returns-in-None : goal.returns-in-None
returns-in-None c = noted_of_none c.args.transport.now c.args.ccb.0 c.live.result c.of_call-in-None.result c.live.ensures c.in-None.is c.of_call-in-None.ensures

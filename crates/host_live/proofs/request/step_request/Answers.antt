use Rattle.host_live.proofs.Spelled.{no_step, step_behind}
use Rattle.host_live.proofs.request.step_request.Goals as goal

pub returns-in-Some : goal.returns-in-Some
returns-in-Some c = step_behind c.args.line.now c.in-Some.rest.now c.number.result c.in-Some.ensures c.number.ensures

pub returns-in-None : goal.returns-in-None
returns-in-None c = no_step c.args.line.now c.in-None.ensures

use Rattle.host_live.proofs.Spelled.{plain_is, told_is}
use Rattle.host_live.proofs.request.named_request.Goals as goal

pub returns-in-Some : goal.returns-in-Some
returns-in-Some c = told_is c.args.is_told c.args.line.now c.in-Some.request c.in-Some.ensures

pub returns-in-None : goal.returns-in-None
returns-in-None c = plain_is c.args.is_told c.args.line.now c.own_request.result c.in-None.ensures c.own_request.ensures

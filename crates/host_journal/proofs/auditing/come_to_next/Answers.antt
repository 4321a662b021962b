use Rattle.std.proofs.Common.{Some}
use Rattle.host_journal.proofs.auditing.come_to_next.Goals as goal

pub returns-in-Err-clause-refused : goal.returns-in-Err-clause-refused
returns-in-Err-clause-refused g c = λ last. c.in-Err.ensures.refused last (Some c.args.its.now.engine)

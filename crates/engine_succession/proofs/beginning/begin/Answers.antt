use Rattle.engine_succession.proofs.Taking.{begins_with, entered_begins}
use Rattle.engine_succession.proofs.beginning.begin.Goals as goal

pub begin-requires-clause-beginning : goal.begin-requires-clause-beginning
begin-requires-clause-beginning c = entered_begins c.args.config c.args.lines.now c.in-Ok.transport c.in-Ok.runs c.in-Ok.guests.items c.entered.ensures.lawful c.in-Ok.ensures.entered

pub returns-in-Ok-begin-clause-begun : goal.returns-in-Ok-begin-clause-begun
returns-in-Ok-begin-clause-begun c = begins_with c.args.config c.args.lines.now c.in-Ok.transport c.in-Ok.runs c.in-Ok.guests.items c.in-Ok-begin.engine c.entered.ensures.lawful c.in-Ok.ensures.entered c.in-Ok-begin.ensures.begun

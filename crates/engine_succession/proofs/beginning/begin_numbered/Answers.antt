use Rattle.engine_succession.proofs.Taking.{begins_numbered, entered_begins}
use Rattle.engine_succession.proofs.beginning.begin_numbered.Goals as goal

pub begin-requires-clause-beginning : goal.begin-requires-clause-beginning
begin-requires-clause-beginning c = entered_begins c.args.config.now c.args.lines.now c.in-Ok.transport c.in-Ok.runs c.in-Ok.guests.items c.entered.ensures.lawful c.in-Ok.ensures.entered

pub returns-in-Ok-clause-begun : goal.returns-in-Ok-clause-begun
returns-in-Ok-clause-begun c = begins_numbered c.args.config.now c.args.lines.now c.in-Ok.transport c.in-Ok.runs c.in-Ok.guests.items _ c.entered.ensures.lawful c.in-Ok.ensures.entered c.begin.ensures

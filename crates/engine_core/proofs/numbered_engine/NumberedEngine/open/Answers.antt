use Rattle.engine_core.proofs.Numbered.{keeps_opening, seen_opening}
use Rattle.engine_core.proofs.numbered_engine.NumberedEngine.open.Goals as goal

pub invariant_of-result : goal.invariant_of-result
invariant_of-result c = keeps_opening c.args.config.now c.none.result.world c.in_ok-rooms.field-0.transport c.in_ok-rooms.field-0.runs c.new.result.items c.rooms.ensures.lawful c.rooms.ensures.begins c.rooms.ensures.alone c.none.ensures c.in_ok-rooms.ensures.transport c.in_ok-rooms.ensures.runs c.new.ensures.items

pub returns-clause-opened : goal.returns-clause-opened
returns-clause-opened c = seen_opening c.args.config.now c.none.result.world c.in_ok-rooms.field-0.transport c.in_ok-rooms.field-0.runs c.rooms.ensures.alone c.none.ensures c.in_ok-rooms.ensures.transport c.in_ok-rooms.ensures.runs

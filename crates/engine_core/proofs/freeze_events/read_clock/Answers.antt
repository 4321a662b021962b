use Rattle.engine_core.proofs.Performing.{reads}
use Rattle.engine_core.proofs.freeze_events.read_clock.Goals as goal

pub returns-clause-performs : goal.returns-clause-performs
returns-clause-performs c setup runs = rw (c.removed_told-told.ensures)
    (reads c.args.reading c.args.transport.now c.read_clock-answer.new.self c.read_clock-answer.result (λ setup world count. c.read_clock-answer.ensures.step setup world) c.read_clock-answer.ensures.removed c.read_clock-answer.ensures.refused setup runs)

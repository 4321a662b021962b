use Rattle.std.proofs.Common.{sym}
use Rattle.engine_core.proofs.Performing.{freezes, refuses_freeze}
use Rattle.engine_core.proofs.freeze_events.guest_freeze.Goals as goal

pub returns-in-Ok-clause-performs : goal.returns-in-Ok-clause-performs
returns-in-Ok-clause-performs c runs =
    freezes c.args.setting.now c.args.place c.args.guest c.args.transport.now c.guest_freeze.new.self c.in-Ok.token c.number.result c.number.ensures c.in-Ok.ensures.token (λ world count. c.in-Ok.ensures.step c.args.setting.now world count (sym c.controllers.ensures.value)) runs

pub returns-in-Err-clause-performs : goal.returns-in-Err-clause-performs
returns-in-Err-clause-performs c runs = rw (c.refused.ensures)
    (refuses_freeze c.args.setting.now c.args.place c.args.guest c.args.transport.now c.guest_freeze.new.self c.in-Err.refusal c.in-Err.ensures.refused (λ world count. c.in-Err.ensures.step c.args.setting.now world count (sym c.controllers.ensures.value)) runs)

use Rattle.std.proofs.Common.{◌≡◌, ℕ, Option, ap, sym, ◌∙◌}
use Rattle.world.specs.World.{class_in, class_kept}
use Rattle.engine_core.proofs.Performing.{may_submit, submits}
use Rattle.engine_core.proofs.ccb_events.submit.Goals as goal

pub returns-clause-performs : goal.returns-clause-performs
returns-clause-performs c runs = rw (c.ccb_told-told.ensures, c.class-said.ensures)
    (submits c.args.setting.now c.args.queue c.args.priority c.args.retries c.args.class c.args.transport.now c.submit-answer.new.self c.submit-answer.result
    (λ world count. c.submit-answer.ensures.step c.args.setting.now world count (class_kept c.args.setting.now c.args.class)
    (sym (c.class_in.ensures ∙ ap (λ (o : Option ℕ). class_in o) c.class-said.ensures))
    (may_submit c.args.setting.now c.args.queue c.args.priority c.args.retries c.args.class)) c.submit-answer.ensures.freezes runs)

use Rattle.std.proofs.Common.{◌≡◌, subst, sym}
use Rattle.world_calls.specs.declared.trace.Version.{Version}
use Rattle.world_calls.specs.Answered.{start_answer}
use Rattle.world.specs.World.{version_of}
use Rattle.engine_core.specs.Replies.{start_reply}
use Rattle.engine_core.proofs.Performing.{dispatches}
use Rattle.engine_core.proofs.ccb_events.dispatch.Goals as goal

pub returns-clause-performs : goal.returns-clause-performs
returns-clause-performs c runs =
    let answer = subst (λ (v : Version). start_answer v c.reported-answer.result ≡ start_answer v c.dispatch.result) c.version-version.ensures c.reported-answer.ensures.answer in
    let reply = subst (λ (v : Version). start_reply v c.reported-answer.result ≡ start_reply v c.dispatch.result) c.version-version.ensures c.reported-answer.ensures.reply in
    rw (c.start_told-told.ensures, c.version-version.ensures, answer, reply)
    (dispatches c.args.setting.now c.args.queue c.args.transport.now c.dispatch.new.self c.dispatch.result (λ world count. c.dispatch.ensures.step c.args.setting.now world count (sym c.controller.ensures.value)) c.dispatch.ensures.freezes runs)

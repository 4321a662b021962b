use Rattle.std.proofs.Common.{◌≡◌, ap, subst, sym, ◌∙◌}
use Rattle.world_calls.specs.declared.call.Call.TheVariants as calls
use Rattle.world_calls.specs.declared.call_answer.CallAnswer.{CallAnswer}
use Rattle.world_calls.specs.declared.record.Record.TheVariants.{Called}
use Rattle.world_calls.specs.declared.trace.Version.{Version}
use Rattle.world_calls.specs.Answered.{started_answer}
use Rattle.world.specs.World.{version_of}
use Rattle.engine_core.specs.EngineState.{Records}
use Rattle.engine_core.specs.Replies.{IsStart, answer_of}
use Rattle.engine_core.specs.declared.reply.Success.{Success}
use Rattle.engine_core.proofs.Performing.{start_fits, start_told}
use Rattle.engine_core.proofs.engine.Engine.started.Goals as goal

pub returns-in-Ok-clause-recorded : goal.returns-in-Ok-clause-recorded
returns-in-Ok-clause-recorded c =
    let told : started_answer (version_of c.args.self.now.setup) c.in-Ok.start ≡ answer_of c.of_start.result =
    sym (ap answer_of c.of_start.ensures ∙ (start_told c.version-version.result c.in-Ok.start ∙ ap (λ (v : Version). started_answer v c.in-Ok.start) c.version-version.ensures)) in
    subst (λ (a : CallAnswer). Records c.args.self.now c.dispatch.new.self (Called a (calls.Dispatch c.args.queue))) told c.in-Ok.ensures.answered

pub returns-in-Ok-clause-fits : goal.returns-in-Ok-clause-fits
returns-in-Ok-clause-fits c = subst (λ (s : Success). IsStart s) (sym c.of_start.ensures) (start_fits c.version-version.result c.in-Ok.start)

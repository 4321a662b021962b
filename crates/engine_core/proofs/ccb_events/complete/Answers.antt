use Rattle.std.proofs.Common.{Some, refl, ap, ◌∙◌}
use Rattle.world.specs.declared.ccb_state.CcbState.TheVariants.{Active}
use Rattle.world.specs.World.{LiveCcb, World, opening}
use Rattle.world.specs.Event.{Reply}
use Rattle.world_laws.proofs.Steps.Effects.{known_queue}
use Rattle.world.proofs.Steps.Moves.{ccb_found}
use Rattle.engine_core.specs.EngineState.{world_of}
use Rattle.engine_core.specs.Courses.{IsActive}
use Rattle.engine_core.proofs.Recording.{kept_sound}
use Rattle.engine_core.proofs.Performing.{refuses_completion, finishes_ccb, starts_run}
use Rattle.engine_core.proofs.ccb_events.complete.Goals as goal

pub returns-in-Refuse-clause-performs : goal.returns-in-Refuse-clause-performs
returns-in-Refuse-clause-performs c = rw (c.refused.ensures, c.in_ok-kept.ensures.value)
    (refuses_completion c.args.setting.now c.args.transport.now c.args.runs.now c.args.completion c.in-Refuse.refusal (λ world. c.in-Refuse.ensures.step c.args.setting.now world))

pub finish-requires : goal.finish-requires
finish-requires c =
    let before : World = world_of c.args.setting.now c.requires.0 c.args.transport.now c.args.runs.now.runs in
    let it : LiveCcb = record { ccb = c.in-Finish.ccb; state = Active } in
    (it, ccb_found c.args.completion.now.ccb.0 c.args.transport.now.live it (c.in-Finish.ensures.ready before), refl)

pub returns-in-Finish-clause-performs : goal.returns-in-Finish-clause-performs
returns-in-Finish-clause-performs c = rw (c.in_ok-kept.ensures.value)
    (finishes_ccb c.args.setting.now c.args.transport.now c.finish.new.self c.args.runs.now c.args.completion c.in-Finish.ccb c.finish.ensures (λ world. c.in-Finish.ensures.step c.args.setting.now world))

-- a run that starts

pub recover-requires-clause-known : goal.recover-requires-clause-known
recover-requires-clause-known c =
    let before : World = world_of c.args.setting.now c.requires.0 c.args.transport.now c.args.runs.now.runs in
    let there : IsActive before c.args.completion.now c.in-Recover.ccb = (c.in-Recover.ensures.ready before).0 in
    let sound = kept_sound c.args.setting.now c.requires.0 c.args.transport.now c.args.runs.now c.requires.1 in
    let known = known_queue c.args.setting.now before sound.kept.ccbs c.args.completion.now.ccb.0 (record { ccb = c.in-Recover.ccb; state = Active }) there in
    known

pub recover-requires-clause-active : goal.recover-requires-clause-active
recover-requires-clause-active c world = (c.in-Recover.ensures.ready world).0

pub recover-requires-clause-room : goal.recover-requires-clause-room
recover-requires-clause-room c world = (c.in-Recover.ensures.ready world).2

pub recover-requires-clause-there : goal.recover-requires-clause-there
recover-requires-clause-there c = (c.in-Recover.ensures.ready (opening c.args.setting.now)).1

pub returns-in_ok-run-in-Recover-clause-performs : goal.returns-in_ok-run-in-Recover-clause-performs
returns-in_ok-run-in-Recover-clause-performs c = rw (c.in_ok-kept.ensures.value)
    (starts_run c.args.setting.now c.args.transport.now c.recover.new.transport c.args.runs.now c.recover.new.runs c.args.completion c.in_ok-run-in-Recover.run' c.number.result c.in_ok-run-in-Recover.freeze c.number.ensures c.in_ok-run-in-Recover.ensures.tokens
    (λ world. c.in-Recover.ensures.step c.args.setting.now world ∙ ap (λ (p : Reply × World). Some p) (c.in_ok-run-in-Recover.ensures.step world))
    c.in_ok-run-in-Recover.ensures.out)

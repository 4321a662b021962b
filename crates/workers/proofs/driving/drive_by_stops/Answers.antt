use Rattle.std.proofs.Common.{◌≡◌, refl, ap, ◌∙◌, arith, rules}
use Rattle.engine_core.specs.RunState.{RunState}
use Rattle.engine_core.specs.declared.event.Event.TheVariants.{Advance}
use Rattle.engine_core.specs.declared.reply.Success.{Success as WhatIsGiven}
use Rattle.engine_core.specs.declared.reply.Returned.{Returned}
use Rattle.engine_core.specs.declared.reply.Reply.TheVariants.{NotAdmitted, OutOfMemory, Success}
use Rattle.workers.specs.declared.driving.Why.TheVariants.{NotOut, OutOfMemory as WantOfMemory}
use Rattle.workers.specs.Serving.{ended_by}
use Rattle.workers.proofs.Advances.{comes_back, ends, goes_as, goes_on, is_used_up, sets_out, until}
use Rattle.workers.proofs.driving.drive_by_stops.Goals as goal

pub loop-turn-init : goal.loop-turn-init
loop-turn-init g c = sets_out g.B.Origin.setup c.args.run c.args.caller.now c.to_stop-stopped.result c.to_stop-stopped.ensures.run

pub returns-in-Success-Ended-clause-ended : goal.returns-in-Success-Ended-clause-ended
returns-in-Success-Ended-clause-ended g c =
    ends g.B.Origin.setup c.args.run c.args.caller.now c.loop-turn.caller c.call.new.caller c.loop-turn.stopped c.loop-turn.turn c.loop-turn.invariant _ c.in-Success-Ended.ensures refl
    (ap (λ (given : WhatIsGiven). ended_by (Advance c.loop-turn.stopped) (Success given)) c.in-Success-Ended.field-0-is)

pub returns-in-NotAdmitted-clause-kept : goal.returns-in-NotAdmitted-clause-kept
returns-in-NotAdmitted-clause-kept g c =
    comes_back g.B.Origin.setup c.args.run c.args.caller.now c.loop-turn.caller c.call.new.caller c.loop-turn.stopped c.loop-turn.turn c.loop-turn.invariant NotOut _ c.in-NotAdmitted.back c.run_of.result
    c.in-NotAdmitted.ensures refl
    (until g.B.Origin.setup c.args.run c.args.caller.now c.loop-turn.caller c.call.new.caller c.loop-turn.stopped c.loop-turn.turn c.loop-turn.invariant (NotAdmitted c.in-NotAdmitted.back) _ (ap (λ (it : Returned). NotAdmitted it) c.run_of.ensures))
    c.in-NotAdmitted.ensures.answers.fits.1 c.run_of.ensures

pub returns-in-OutOfMemory-clause-kept : goal.returns-in-OutOfMemory-clause-kept
returns-in-OutOfMemory-clause-kept g c =
    comes_back g.B.Origin.setup c.args.run c.args.caller.now c.loop-turn.caller c.call.new.caller c.loop-turn.stopped c.loop-turn.turn c.loop-turn.invariant WantOfMemory _ c.in-OutOfMemory.back c.run_of-in-OutOfMemory.result
    c.in-OutOfMemory.ensures refl
    (until g.B.Origin.setup c.args.run c.args.caller.now c.loop-turn.caller c.call.new.caller c.loop-turn.stopped c.loop-turn.turn c.loop-turn.invariant (OutOfMemory c.in-OutOfMemory.back) _ (ap (λ (it : Returned). OutOfMemory it) c.run_of-in-OutOfMemory.ensures))
    c.in-OutOfMemory.ensures.answers.fits.1 c.run_of-in-OutOfMemory.ensures

pub loop-turn-preserved : goal.loop-turn-preserved
loop-turn-preserved g c =
    let goes = goes_as _ _ _ c.loop-turn.stopped c.in-Success-Goes.field-0 c.in-Success-Goes.run' _ c.in-Success-Goes.field-0-is c.in-Success-Goes.ensures.answers.gives in
    goes_on g.B.Origin.setup c.args.run c.args.caller.now c.loop-turn.caller c.call.new.caller c.loop-turn.stopped c.loop-turn.turn c.loop-turn.invariant c.to_stop-stopped-in-Success-Goes.result _ c.in-Success-Goes.ensures refl
    (ap (λ (given : WhatIsGiven). ended_by (Advance c.loop-turn.stopped) (Success given)) c.in-Success-Goes.field-0-is)
    (ap (λ (run : RunState). run.number) c.to_stop-stopped-in-Success-Goes.ensures.run ∙ goes.0)
    (ap (λ (run : RunState). run.program) c.to_stop-stopped-in-Success-Goes.ensures.run ∙ goes.1)

pub returns-clause-kept : goal.returns-clause-kept
returns-clause-kept g c =
    let used : c.loop-turn.turn ≡ c.budget-budget.result = omega (arith, c.loop-turn-test.false, c.loop-turn.auto.turn-end) in
    let budget : c.budget-budget.result ≡ c.args.run.program.budget = search rules in
    is_used_up g.B.Origin.setup c.args.run c.args.caller.now c.loop-turn.caller c.loop-turn.stopped c.loop-turn.turn c.back.result c.loop-turn.invariant (used ∙ budget) c.back.ensures

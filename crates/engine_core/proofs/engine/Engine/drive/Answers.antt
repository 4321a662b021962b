use Rattle.std.proofs.Common.{sym, subst}
use Rattle.engine_core.specs.EngineState.{EngineState}
use Rattle.engine_core.specs.Driving.{RunsToExit}
use Rattle.engine_core.proofs.Driven.{begins_so, few, fewer, goes_further, is_off, is_on, runs_out}
use Rattle.engine_core.proofs.engine.Engine.drive.Goals as goal

pub loop-progress-init : goal.loop-progress-init
loop-progress-init c =
    let here = c.in-Some.ensures.place in
    begins_so c.args.self.now c.args.run c.in-Some.place c.budget_at-left.result here c.in-Some.ensures.reached (c.budget_at-left.ensures here.out.it here.out.there)

pub returns-then-not-progress-clause-ended : goal.returns-then-not-progress-clause-ended
returns-then-not-progress-clause-ended c =
    subst (λ (s : EngineState). RunsToExit c.args.self.now c.args.run c.in-Ok.progress.r0 s) (sym c.spend.ensures)
    (runs_out c.args.self.now c.loop-progress.self c.step.new.self c.args.run c.in-Some.place c.loop-progress.left c.loop-progress.r0 c.in-Ok.progress c.loop-progress.invariant c.in-Ok.ensures.steps (is_off c.in-Ok.progress.goes_on c.if-not-progress.true))

pub overflow_sub-left : goal.overflow_sub-left
overflow_sub-left c = few c.args.self.now c.loop-progress.self c.step.new.self c.args.run c.in-Some.place c.loop-progress.left c.loop-progress.r0 c.in-Ok.progress c.loop-progress.invariant c.in-Ok.ensures.steps

pub loop-progress-smaller : goal.loop-progress-smaller
loop-progress-smaller c = fewer c.args.self.now c.loop-progress.self c.step.new.self c.args.run c.in-Some.place c.loop-progress.left c.loop-progress.r0 c.in-Ok.progress c.loop-progress.invariant c.in-Ok.ensures.steps

pub loop-progress-preserved : goal.loop-progress-preserved
loop-progress-preserved c =
    goes_further c.args.self.now c.loop-progress.self c.step.new.self c.args.run c.in-Some.place c.loop-progress.left c.loop-progress.r0 c.in-Ok.progress c.loop-progress.invariant c.in-Ok.ensures.steps (is_on c.in-Ok.progress.goes_on c.if-not-progress.false)

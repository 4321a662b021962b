use Rattle.std.proofs.Common.{Bool, arith, subst}
use Rattle.host_decision.specs.Steps.{StepsOn}
use Rattle.host_decision.proofs.GoneOn.{all_made, at_end, none_yet, one_more}
use Rattle.host_decision.proofs.ran.Ran.go_on.Goals as goal

pub loop-stop-init : goal.loop-stop-init
loop-stop-init c = none_yet c.args.self.now

pub step-requires : goal.step-requires
step-requires c = omega (arith, c.loop-stop.invariant.bound, c.requires, c.loop-stop-test.true)

pub loop-stop-preserved : goal.loop-stop-preserved
loop-stop-preserved c = one_more c.loop-stop._stop c.args.self.now c.loop-stop.self c.step.new.self c.loop-stop.invariant
    (subst (λ (ended : Bool). StepsOn ended c.loop-stop.self c.step.new.self) c.if-ended.false c.in_ok-ended.ensures)

pub returns-then-ended : goal.returns-then-ended
returns-then-ended c = at_end c.loop-stop._stop c.args.self.now c.loop-stop.self c.step.new.self c.loop-stop.invariant
    (subst (λ (ended : Bool). StepsOn ended c.loop-stop.self c.step.new.self) c.if-ended.true c.in_ok-ended.ensures)

pub returns : goal.returns
returns c = all_made c.loop-stop._stop c.args.self.now c.loop-stop.self c.loop-stop-test.false c.loop-stop.auto._stop-end c.loop-stop.invariant

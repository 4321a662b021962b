use Rattle.host_decision.specs.Decided.{controller}
use Rattle.host_decision.proofs.Others.{left_all, left_more}
use Rattle.host_decision.proofs.decision.add_of_controllers.Goals as goal

pub loop-controller-preserved : goal.loop-controller-preserved
loop-controller-preserved c =
    let ran = c.args.ran.now in
    left_more controller ran.engine ran.freeze c.loop-controller.controller c.args.others.now.items c.loop-controller.others.items c.add_at.new.others.items c.loop-controller.invariant c.in_ok-add_at.ensures

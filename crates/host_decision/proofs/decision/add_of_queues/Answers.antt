use Rattle.ccb.specs.Places.{device}
use Rattle.host_decision.proofs.Others.{left_all, left_more}
use Rattle.host_decision.proofs.decision.add_of_queues.Goals as goal

pub loop-queue-preserved : goal.loop-queue-preserved
loop-queue-preserved c =
    let ran = c.args.ran.now in
    left_more device ran.engine ran.freeze c.loop-queue.queue c.args.others.now.items c.loop-queue.others.items c.add_at.new.others.items c.loop-queue.invariant c.in_ok-add_at.ensures

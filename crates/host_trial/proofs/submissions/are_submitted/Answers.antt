use Rattle.host_trial.proofs.Submitted.{one_further}
use Rattle.host_trial.proofs.submissions.are_submitted.Goals as goal

pub loop-queue-preserved : goal.loop-queue-preserved
loop-queue-preserved c = one_further c.args.disks.now c.loop-queue.queue c.args.records.now.items c.loop-queue.invariant (c.misses.ensures c.if-misses.false)

use Rattle.host_trial.proofs.Submitted.{more_bits, none}
use Rattle.host_trial.proofs.submissions.unsubmitted.Goals as goal

pub loop-queue-init : goal.loop-queue-init
loop-queue-init c = none c.args.disks.now c.args.records.now.items

pub loop-queue-preserved : goal.loop-queue-preserved
loop-queue-preserved c =
    more_bits c.args.disks.now c.loop-queue.queue c.args.records.now.items c.loop-queue.count c.lacking.result c.loop-queue.invariant c.lacking.ensures c.saturating_add-count.result
    c.saturating_add-count.ensures

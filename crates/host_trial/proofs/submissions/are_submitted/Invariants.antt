-- each queue before this one has what it is to have
use Rattle.host_trial.specs.Submitted.{AreSubmitted}
use Rattle.host_trial.proofs.submissions.are_submitted.Given as goal

abbrev pub invariant-loop-queue : goal.invariant-loop-queue
invariant-loop-queue l = AreSubmitted l.disks l.queue l.records.items

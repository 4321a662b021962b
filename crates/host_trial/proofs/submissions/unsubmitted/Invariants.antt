-- so many are lacking of the queues before
use Rattle.std.proofs.Common.{◌≡◌}
use Rattle.host_trial.specs.Submitted.{unsubmitted, up_to_64_bits}
use Rattle.host_trial.proofs.submissions.unsubmitted.Given as goal

abbrev pub invariant-loop-queue : goal.invariant-loop-queue
invariant-loop-queue l = l.count ≡ up_to_64_bits (unsubmitted l.disks l.queue l.records.items)

use Rattle.std.proofs.Common.{arith}
use Rattle.trial_disks.specs.Said.{IsFailure}
use Rattle.trial_disks.proofs.OneByOne.{one_more}
use Rattle.trial_disks.proofs.devices.add_all.Goals as goal

pub loop-place-preserved : goal.loop-place-preserved
loop-place-preserved c =
    one_more IsFailure c.args.values.now c.loop-place.place c.index-values-place.result c.loop-place.failures.items _ c.in-Ok.failure
    (omega arith) c.index-values-place.is c.in_ok-add-in-Ok.ensures c.in-Ok.ensures.said c.loop-place.invariant

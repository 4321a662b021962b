use Rattle.std.proofs.Common.{arith}
use Rattle.trial_disks.specs.Said.{IsDevice}
use Rattle.trial_disks.proofs.OneByOne.{one_more}
use Rattle.trial_disks.proofs.reading.add_all.Goals as goal

pub loop-place-preserved : goal.loop-place-preserved
loop-place-preserved c =
    one_more IsDevice c.args.values.now c.loop-place.place c.index-values-place.result c.loop-place.devices.items _ c.in_ok-device.device
    (omega arith) c.index-values-place.is c.in_ok-add.ensures c.in_ok-device.ensures.said c.loop-place.invariant

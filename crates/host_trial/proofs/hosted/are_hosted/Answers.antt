use Rattle.std.proofs.Common.{◌<◌, arith, length}
use Rattle.host_trial.proofs.OfTrial.{one_more, whole}
use Rattle.host_trial.proofs.hosted.are_hosted.Goals as goal

pub loop-place-preserved : goal.loop-place-preserved
loop-place-preserved c =
    let items = c.args.records.now.items in
    let within : c.loop-place.place < length items = omega (arith, c.loop-place-test.true, c.len-place-end.ensures) in
    one_more c.args.disks.now items c.loop-place.place c.index.result.now within c.index.ensures (c.is_foreign.ensures c.if-is_foreign.false) c.loop-place.invariant

pub returns : goal.returns
returns c =
    let items = c.args.records.now.items in
    λ yes. whole c.args.disks.now items c.loop-place.place (omega (arith, c.loop-place-test.false, c.len-place-end.ensures)) c.loop-place.invariant

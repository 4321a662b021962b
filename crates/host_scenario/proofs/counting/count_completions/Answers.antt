use Rattle.std.proofs.Common.{arith}
use Rattle.host_scenario.proofs.Counted.{completions_more}
use Rattle.host_scenario.proofs.counting.count_completions.Goals as goal

pub loop-place-preserved : goal.loop-place-preserved
loop-place-preserved c =
    let more = completions_more c.args.records.now.items c.loop-place.place c.index.result.now (omega (arith, c.loop-place-test.true, c.len-place-end.ensures)) c.index.ensures in
    (omega (arith, c.loop-place.invariant.0, c.completions_in-count.ensures.many, more), omega (arith, c.loop-place.invariant.1, c.completions_in-count.ensures.few))

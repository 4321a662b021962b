use Rattle.std.proofs.Common.{◌+◌, sym, subst, arith}
use Rattle.verifier.specs.Table.{IsFirstTable}
use Rattle.verifier.proofs.Joined.{one_place_more}
use Rattle.verifier.proofs.table.first_table.Goals as goal

pub loop-preserved : goal.loop-preserved
loop-preserved c =
    let more = one_place_more c.args.entry c.loop.counter c.loop.table.items (omega (arith, c.loop.auto.counter)) c.loop.invariant.0 in (
      subst (IsFirstTable (c.loop.counter + 1) c.args.entry) (sym c.push_reserved-in-loop.ensures.items) more,
      omega (arith, c.loop.invariant.1, c.push_reserved-in-loop.ensures.capacity),
      omega (arith, c.loop-test.true),
    )

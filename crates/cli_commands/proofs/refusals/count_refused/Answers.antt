use Rattle.std.proofs.Common.{◌<◌, ◌∙◌, arith, length, sym}
use Rattle.cli_commands.specs.Refusals.{is_refused}
use Rattle.cli_commands.proofs.Counted.{no_more, one_more}
use Rattle.cli_commands.proofs.refusals.count_refused.Goals as goal
use Rattle.cli_commands.proofs.refusals.count_refused.Goals.{then-is_refused, else-is_refused}

pub loop-place-preserved : goal.loop-place-preserved
loop-place-preserved c =
    let items = c.args.records.now.items in
    let within : c.loop-place.place < length items = omega (arith, c.loop-place-test.true, c.len-place-end.ensures) in
    elim c.if-is_refused.branch [
      | then-is_refused w ↦
          let total = one_more is_refused items c.loop-place.place c.index.result.now within c.index.ensures (sym c.is_refused.ensures ∙ w.if-is_refused.true) in
          (omega (arith, w.count-is, c.loop-place.invariant.0, total), omega (arith, w.count-is, c.loop-place.invariant.1))
      | else-is_refused w ↦
          let total = no_more is_refused items c.loop-place.place c.index.result.now within c.index.ensures (sym c.is_refused.ensures ∙ w.if-is_refused.false) in
          (omega (arith, w.count-is, c.loop-place.invariant.0, total), omega (arith, w.count-is, c.loop-place.invariant.1))
    ]

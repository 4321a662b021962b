use Rattle.std.proofs.Common.{◌<◌, ◌∙◌, arith, length, sym}
use Rattle.cli_commands.specs.Refusals.{is_refused}
use Rattle.cli_commands.proofs.Counted.{no_more}
use Rattle.cli_commands.proofs.refusals.first_refused.Goals as goal

pub loop-place-preserved : goal.loop-place-preserved
loop-place-preserved c =
    let within : c.loop-place.place < length c.args.records.now.items = omega (arith, c.loop-place-test.true, c.len-place-end.ensures) in
    no_more is_refused c.args.records.now.items c.loop-place.place c.index.result.now within c.index.ensures (sym c.is_refused.ensures ∙ c.if-is_refused.false) ∙ c.loop-place.invariant

use Rattle.std.proofs.Common.{◌<◌, ◌∙◌, arith, length, sym}
use Rattle.cli_commands.specs.Refusals.{tells}
use Rattle.cli_commands.proofs.Counted.{no_more, one_more}
use Rattle.cli_commands.proofs.refusals.count_told.Goals as goal
use Rattle.cli_commands.proofs.refusals.count_told.Goals.{then-tells, else-tells}

pub loop-before-preserved : goal.loop-before-preserved
loop-before-preserved c =
    let items = c.args.records.now.items in
    let within : c.loop-before.before < length items = omega (arith, c.loop-before-test.true, c.requires) in
    elim c.if-tells.branch [
      | then-tells w ↦
          let total = one_more (tells c.args.call.now) items c.loop-before.before c.index.result.now within c.index.ensures (sym c.tells.ensures ∙ w.if-tells.true) in
          (omega (arith, w.count-is, c.loop-before.invariant.0, total), omega (arith, w.count-is, c.loop-before.invariant.1))
      | else-tells w ↦
          let total = no_more (tells c.args.call.now) items c.loop-before.before c.index.result.now within c.index.ensures (sym c.tells.ensures ∙ w.if-tells.false) in
          (omega (arith, w.count-is, c.loop-before.invariant.0, total), omega (arith, w.count-is, c.loop-before.invariant.1))
    ]

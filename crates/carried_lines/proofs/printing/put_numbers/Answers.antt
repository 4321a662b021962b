use Rattle.std.proofs.Common.{arith, ap, ◌∙◌, length, length-append, ◌∷◌, []}
use Rattle.carried_lines.proofs.Appended.{number_put}
use Rattle.carried_lines.proofs.printing.put_numbers.Goals as goal

pub loop-number-preserved : goal.loop-number-preserved
loop-number-preserved c = record {
  put = number_put c.args.numbers.now c.loop-number.number-index _ _ _ _ c.loop-number-test.true c.loop-number.invariant.put c.push.ensures c.print_number.ensures.text;
  few = omega (arith, c.print_number.ensures.few, ap length c.push.ensures ∙ length-append _ (32 ∷ []), c.loop-number.invariant.few);
}

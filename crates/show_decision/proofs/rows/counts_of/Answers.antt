use Rattle.std.proofs.Common.{arith, get_or}
use Rattle.show_decision.proofs.Usual.{counts_more, few_more}
use Rattle.show_decision.proofs.rows.counts_of.Goals as goal

pub add_one-requires-clause-few : goal.add_one-requires-clause-few
add_one-requires-clause-few c =
    let decision = get_or c.args.decisions.now c.loop-code.code 0 in
    omega (
      arith,
      few_more c.args.decisions.now c.loop-code.counts.items c.loop-code.code c.args.count decision c.loop-code.invariant c.loop-code-test.true (c.requires.each c.loop-code.code c.loop-code-test.true),
      c.loop-code-test.true,
      c.requires.few,
    )

pub loop-code-preserved : goal.loop-code-preserved
loop-code-preserved c =
    counts_more c.args.decisions.now c.loop-code.counts.items c.add_one.new.counts.items c.loop-code.code c.args.count c.loop-code.invariant c.loop-code-test.true
    (c.requires.each c.loop-code.code c.loop-code-test.true) c.add_one.ensures

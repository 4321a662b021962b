use Rattle.std.proofs.Common.{arith, below_more}
use Rattle.std.proofs.lemmas.Bool.{iff_false}
use Rattle.call_shape.specs.Calls.{IsOnCycle}
use Rattle.call_shape.proofs.Places.{begins_inside}
use Rattle.call_shape.proofs.SlotFunctions.{caller_begins}
use Rattle.call_shape.proofs.cycle.first_on_cycle.Goals as goal

pub loop-place-preserved : goal.loop-place-preserved
loop-place-preserved c =
    below_more (λ k. IsOnCycle c.args.program.now k → ⊥) c.loop-place.place c.loop-place.invariant (iff_false c.is_on_cycle.ensures c.if-is_on_cycle.false)

pub returns-clause-nowhere : goal.returns-clause-nowhere
returns-clause-nowhere c = λ k on.
    c.loop-place.invariant k (omega (arith, begins_inside c.args.program.now k (caller_begins c.args.program.now k on.callee on.leads), c.len-place-end.ensures.slots)) on

use Rattle.std.proofs.Common.{arith, ◌∙◌}
use Rattle.call_shape.proofs.SlotFunctions.{ends_before}
use Rattle.call_shape.proofs.functions.function_end.Goals as goal

pub returns-then-from-function-clause-others : goal.returns-then-from-function-clause-others
returns-then-from-function-clause-others c = λ slot lt of.
    ends_before c.args.program.now c.args.function c.loop-slot.slot slot (omega arith) c.loop-slot.invariant
    (λ same. c.if-from-function.true (c.from.ensures ∙ c.requires.functions.each c.loop-slot.slot (omega arith) ∙ same)) of

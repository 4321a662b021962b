use Rattle.std.proofs.Common.{arith}
use Rattle.call_shape.proofs.SlotFunctions.{end_test}
use Rattle.call_shape.proofs.functions.is_function_end.Goals as goal

pub returns-else-len-slot : goal.returns-else-len-slot
returns-else-len-slot c = end_test c.args.program.now c.args.slot c.function_at.result (omega (arith, c.len.ensures.slots, c.if-len-slot.false)) c.function_at.ensures

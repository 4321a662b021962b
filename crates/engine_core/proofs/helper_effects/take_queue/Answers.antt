use Rattle.std.proofs.Common.{arith}
use Rattle.engine_core.proofs.Freezing.{queue_named}
use Rattle.engine_core.proofs.helper_effects.take_queue.Goals as goal

pub overflow_cast-queue : goal.overflow_cast-queue
overflow_cast-queue c = omega (arith, (queue_named c.args.transport.now c.args.runs.now c.args.place c.requires.1.0 c.args.request.now c.requires.1.1 c.requires.0).1)

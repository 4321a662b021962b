use Rattle.std.proofs.Common.{below_more, refl, arith}
use Rattle.engine_carried.proofs.fitting.are_queues_free.Goals as goal

pub loop-queue-preserved : goal.loop-queue-preserved
loop-queue-preserved c = below_more _ _ c.loop-queue.invariant (λ from. c.is_free.ensures.0 c.if-not-is_free.false)

pub returns : goal.returns
returns c = (λ so queue below from. c.loop-queue.invariant queue (omega (arith, below, c.loop-queue-test.false)) from, λ free. refl)

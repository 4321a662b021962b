use Rattle.engine_carried.specs.Left.{QueuesAreFree}
use Rattle.engine_carried.proofs.fitting.are_queues_free.Given as goal

-- the queues so far are free
abbrev pub invariant-loop-queue : goal.invariant-loop-queue
invariant-loop-queue l = QueuesAreFree l.transport l.from l.queue

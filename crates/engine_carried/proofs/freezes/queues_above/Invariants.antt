use Rattle.std.proofs.Common.{◌≡◌}
use Rattle.engine_carried.specs.FreezeAbove.{queues_above}
use Rattle.engine_carried.proofs.freezes.queues_above.Given as goal

-- of the queues so far
abbrev pub invariant-loop-queue : goal.invariant-loop-queue
invariant-loop-queue l = l.least ≡ queues_above l.queue l.after l.transport.freezes

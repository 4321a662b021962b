use Rattle.std.proofs.Common.{◌≡◌, map, take}
use Rattle.engine_config.specs.Configured.{under_of, queue_of}
use Rattle.host_embedding.proofs.config_again.queues_under.Given as goal

-- those of the queues so far
abbrev pub invariant-loop-queue : goal.invariant-loop-queue
invariant-loop-queue l = map queue_of (map under_of l.queues.items) ≡ take l.queue l.config.queues

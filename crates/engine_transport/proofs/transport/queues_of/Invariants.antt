use Rattle.std.proofs.Common.{◌≡◌, map, take}
use Rattle.dev_queue.specs.State.{empty_queue}
use Rattle.engine_transport.proofs.transport.queues_of.Given as goal

-- the queues so far are there
abbrev pub invariant-loop-it : goal.invariant-loop-it
invariant-loop-it l = l.queues ≡ map empty_queue (take l.it-index l.openings)

use Rattle.std.proofs.Common.{◌≡◌, ◌≤◌, ℕ, map, take}
use Rattle.std.specs.List.{All}
use Rattle.world.specs.World.{QueueSetup}
use Rattle.engine_succession.proofs.beginning.opened.Given as goal

-- the openings of the queues so far are listed
abbrev pub invariant-loop-queue : goal.invariant-loop-queue
invariant-loop-queue l =
    (l.openings.items ≡ map (λ (queue : QueueSetup). queue.openings) (take l.queue l.config.queues)) × All (λ (it : ℕ). 1 ≤ it) l.openings.items

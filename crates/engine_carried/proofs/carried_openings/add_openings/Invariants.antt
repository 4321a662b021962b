use Rattle.std.proofs.Common.{◌≡◌, ◌++◌, map, take}
use Rattle.std.specs.List.{range_with_len}
use Rattle.world.specs.World.{queue_count}
use Rattle.engine_beginning.specs.Lines.{openings_from}
use Rattle.engine_carried.specs.TakenOver.{openings_over}
use Rattle.engine_carried.proofs.carried_openings.add_openings.Given as goal

-- the lines of the queues so far are added
abbrev pub invariant-loop-queue : goal.invariant-loop-queue
invariant-loop-queue l = l.lines.items ≡ l.fn.lines.items ++ take l.queue (openings_from 0 (map (openings_over l.old l.new l.transport.openings) (range_with_len 0 (queue_count l.new))))

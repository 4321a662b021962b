use Rattle.std.proofs.Common.{◌<◌, ℕ, map, arith}
use Rattle.std.specs.List.{range_with_len}
use Rattle.world.specs.World.{queue_count}
use Rattle.engine_beginning.specs.Lines.{openings_from}
use Rattle.engine_carried.specs.TakenOver.{openings_over}
use Rattle.engine_carried.proofs.Adding.{openings_count, openings_line, take_pushed, taken_all}
use Rattle.engine_carried.proofs.carried_openings.add_openings.Goals as goal

pub loop-queue-preserved : goal.loop-queue-preserved
loop-queue-preserved c =
    let f : ℕ → ℕ = openings_over c.args.old.now c.args.new.now c.args.transport.now.openings in
    let n : ℕ = queue_count c.args.new.now in
    let below : c.loop-queue.queue < n = omega (arith, c.loop-queue-test.true, c.queues-queue-end.ensures.value) in
    take_pushed (openings_from 0 (map f (range_with_len 0 n))) c.loop-queue.queue _ _ _ _ c.loop-queue.invariant c.in_ok-add.ensures
    (omega (arith, below, openings_count f n)) (openings_line f n c.loop-queue.queue _ _ below c.openings_over-openings.ensures)

pub returns : goal.returns
returns c =
    let f : ℕ → ℕ = openings_over c.args.old.now c.args.new.now c.args.transport.now.openings in
    let n : ℕ = queue_count c.args.new.now in
    taken_all (openings_from 0 (map f (range_with_len 0 n))) c.loop-queue.queue _ _ c.loop-queue.invariant (omega (arith, c.loop-queue-test.false, c.queues-queue-end.ensures.value, openings_count f n))

use Rattle.std.proofs.Common.{◌≡◌, ◌<◌, arith, rules}
use Rattle.world.specs.World.{queue_count, queue_setup}
use Rattle.engine_beginning.specs.Lines.{openings_from}
use Rattle.engine_carried.proofs.Adding.{take_pushed, taken_all}
use Rattle.host_decision.specs.Asked.{openings_in}
use Rattle.host_decision.proofs.LinesOf.{openings_count, openings_line}
use Rattle.host_decision.proofs.opening_lines.add_openings.Goals as goal

pub loop-queue-preserved : goal.loop-queue-preserved
loop-queue-preserved c =
    let config = c.args.config.now in
    let below : c.loop-queue.queue < queue_count config = omega (arith, c.loop-queue-test.true, c.queues-queue-end.ensures.value) in
    let value : c.from-openings.result ≡ (queue_setup config c.loop-queue.queue).openings = search rules in
    take_pushed (openings_from 0 (openings_in config)) c.loop-queue.queue _ _ _ _ c.loop-queue.invariant c.in_ok-add.ensures
    (omega (arith, below, openings_count config)) (openings_line config c.loop-queue.queue _ _ below value)

pub returns : goal.returns
returns c =
    let config = c.args.config.now in
    taken_all (openings_from 0 (openings_in config)) c.loop-queue.queue _ _ c.loop-queue.invariant (omega (arith, c.loop-queue-test.false, c.queues-queue-end.ensures.value, openings_count config))

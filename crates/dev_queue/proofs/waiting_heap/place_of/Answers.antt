use Rattle.dev_queue.proofs.Order.{waits_behind}
use Rattle.dev_queue.proofs.waiting_heap.place_of.Goals as goal

pub unreachable-requires : goal.unreachable-requires
unreachable-requires c = waits_behind c.args.number c.loop-place.place c.args.pairs.now c.loop-place-test.false c.loop-place.invariant

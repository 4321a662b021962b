use Rattle.std.proofs.Common.{arith}
use Rattle.dev_queue.proofs.Order.{length-in_order}
use Rattle.dev_queue.proofs.waiting_heap.WaitingHeap.len.Goals as goal

pub returns-clause-pairs : goal.returns-clause-pairs
returns-clause-pairs c = rw (← c.self.view_is) (rw (length-in_order c.self.inside.pairs.items) (omega arith))

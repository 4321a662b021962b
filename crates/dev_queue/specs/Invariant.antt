-- What the waiting CCBs of a queue keep: they stand as a heap, no two have the same number, and there is room.
use Rattle.std.specs.Prelude.{◌≤◌, length, vec_capacity}
use Rattle.std.specs.declared.vec.Vec.{Vec}
use Rattle.std.specs.declared.alloc.Global.{Global}
use Rattle.dev_queue.specs.declared.waiting_ccb.WaitingCcb.{WaitingCcb}
use Rattle.dev_queue.specs.declared.dev_queue.TheConstants.{MAX_LIVE}
use Rattle.dev_queue.specs.Heap.{IsHeap}
use Rattle.dev_queue.specs.Waiting.{AreApart}

pub record QueueIsKept (pairs : Vec WaitingCcb Global) : Type 0 where
  pub heap : IsHeap pairs.items
  pub apart : AreApart pairs.items
  pub within : length pairs.items ≤ MAX_LIVE
  pub room : MAX_LIVE ≤ vec_capacity pairs

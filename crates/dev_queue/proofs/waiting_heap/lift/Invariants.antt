use Rattle.std.proofs.Common.{◌≡◌, ◌<◌, length, get_or}
use Rattle.std.specs.List.Sorted.{IsPermutation}
use Rattle.dev_queue.specs.declared.waiting_ccb.WaitingCcb.{WaitingCcb}
use Rattle.dev_queue.specs.Heap.{MaySink}
use Rattle.dev_queue.proofs.waiting_heap.lift.Given as goal

-- the pair is here now, and each other one starts no later than those under it
abbrev pub invariant-loop-here : goal.invariant-loop-here
invariant-loop-here l = record {
  inside : l.here < length l.pairs;
  moved : IsPermutation l.initial.pairs l.pairs;
  others : MaySink l.pairs l.here;
  is : (d : WaitingCcb) → get_or l.pairs l.here d ≡ get_or l.initial.pairs l.place d;
}

abbrev pub decreases-loop-here : goal.decreases-loop-here
decreases-loop-here l = l.here

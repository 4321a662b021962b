use Rattle.std.proofs.Common.{◌+◌, ◌-◌, ◌^◌, ◌<◌, ◌≤◌, length}
use Rattle.std.specs.List.Sorted.{IsPermutation}
use Rattle.dev_queue.specs.Heap.{MayRise}
use Rattle.dev_queue.proofs.waiting_heap.rise.Given as goal

-- it went up by a level a step, and so 256 places allow eight
abbrev pub invariant-loop-place : goal.invariant-loop-place
invariant-loop-place l = record {
  inside : l.place < length l.pairs;
  moved : IsPermutation l.initial.pairs l.pairs;
  others : MayRise l.pairs l.place;
  few : l.steps ≤ 8;
  level : l.place + 1 ≤ 2 ^ (8 - l.steps);
}

abbrev pub decreases-loop-place : goal.decreases-loop-place
decreases-loop-place l = l.place

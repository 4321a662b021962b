use Rattle.std.proofs.Common.{◌≡◌, ◌+◌, ◌*◌, ◌^◌, ◌≤◌, length}
use Rattle.std.specs.List.Sorted.{IsPermutation}
use Rattle.dev_queue.specs.Heap.{MaySink}
use Rattle.dev_queue.proofs.waiting_heap.sink.Given as goal

-- it went down by a level a turn, with at most two steps
abbrev pub invariant-loop-level : goal.invariant-loop-level
invariant-loop-level l = record {
  long : length l.pairs ≡ length l.initial.pairs;
  inside : l.place ≤ length l.pairs;
  moved : IsPermutation l.initial.pairs l.pairs;
  others : MaySink l.pairs l.place;
  few : l.steps ≤ 2 * l.level;
  level : 2 ^ l.level ≤ l.place + 1;
}

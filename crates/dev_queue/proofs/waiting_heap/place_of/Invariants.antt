use Rattle.std.proofs.Common.{◌≡◌, true, drop}
use Rattle.dev_queue.specs.Waiting.{waits}
use Rattle.dev_queue.proofs.waiting_heap.place_of.Given as goal

-- it is not before this place
abbrev pub invariant-loop-place : goal.invariant-loop-place
invariant-loop-place l = waits l.number (drop l.place l.pairs) ≡ true

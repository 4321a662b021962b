-- none so far is greater than that at the place
use Rattle.std.proofs.Common.{ℕ, ◌<◌, ◌≤◌, slice_index}
use Rattle.show_decision.proofs.rows.greatest.Given as goal

abbrev pub invariant-loop-next : goal.invariant-loop-next
invariant-loop-next l = record {
  so_far : (k : ℕ) → k < l.next → slice_index l.counts k ≤ l.most;
  there : l.most ≤ slice_index l.counts l.place;
}

-- so many cells were looked at
use Rattle.std.proofs.Common.{◌≡◌, ◌<◌, ◌≤◌, ℕ, false, length, slice_index_or, if◌then◌else◌}
use Rattle.host_metrics.specs.Counted.{GrowsTo}
use Rattle.host_metrics.proofs.tables.add_marked.Given as goal

abbrev pub invariant-loop-place : goal.invariant-loop-place
invariant-loop-place l = record {
  many : length l.table.items ≡ length l.fn.table.items;
  looked : (place : ℕ) → place < l.place → GrowsTo (slice_index_or l.fn.table.items place 0) (if slice_index_or l.marks place false then l.more else 0) (slice_index_or l.table.items place 0);
  others : (place : ℕ) → l.place ≤ place → slice_index_or l.table.items place 0 ≡ slice_index_or l.fn.table.items place 0;
}

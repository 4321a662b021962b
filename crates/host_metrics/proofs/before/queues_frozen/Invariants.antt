-- so many were looked at
use Rattle.std.proofs.Common.{◌≡◌, ◌<◌, ℕ, false, slice_index_or, length}
use Rattle.host_metrics.specs.Notes.{is_queue_frozen}
use Rattle.host_metrics.proofs.before.queues_frozen.Given as goal

abbrev pub invariant-loop-queue : goal.invariant-loop-queue
invariant-loop-queue l = record {
  many : length l.frozen ≡ 64;
  looked : (queue : ℕ) → queue < l.queue → slice_index_or l.frozen queue false ≡ is_queue_frozen l.transport queue;
}

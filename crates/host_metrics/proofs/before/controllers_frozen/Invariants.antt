-- so many were looked at
use Rattle.std.proofs.Common.{◌≡◌, ◌<◌, ℕ, false, slice_index_or, length}
use Rattle.host_metrics.specs.Notes.{is_controller_frozen}
use Rattle.host_metrics.proofs.before.controllers_frozen.Given as goal

abbrev pub invariant-loop-controller : goal.invariant-loop-controller
invariant-loop-controller l = record {
  many : length l.frozen ≡ 8;
  looked : (controller : ℕ) → controller < l.controller → slice_index_or l.frozen controller false ≡ is_controller_frozen l.transport controller;
}

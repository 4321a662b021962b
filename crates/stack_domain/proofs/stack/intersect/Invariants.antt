use Rattle.std.proofs.Common.{◌≡◌, ℕ, ◌<◌, ◌≤◌, false, length, []}
use Rattle.std.specs.Prelude.{slice_index_or, ◌&&◌}
use Rattle.stack_domain.proofs.stack.intersect.Given as goal

-- as many sets, of which those before k are done and the others as they were
abbrev pub invariant-loop-k : goal.invariant-loop-k
invariant-loop-k l = record {
  long : length l.sets ≡ length l.fn.sets;
  whole : (j : ℕ) → j < l.k → length (slice_index_or l.sets j []) ≡ 512;
  joined : (j i : ℕ) → j < l.k → slice_index_or (slice_index_or l.sets j []) i false ≡ (slice_index_or (slice_index_or l.fn.sets j []) i false && slice_index_or (slice_index_or l.others j []) i false);
  rest : (j : ℕ) → l.k ≤ j → slice_index_or l.sets j [] ≡ slice_index_or l.fn.sets j [];
}

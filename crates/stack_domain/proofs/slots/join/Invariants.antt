use Rattle.std.proofs.Common.{◌≡◌, ◌<◌, ◌≤◌, ℕ, List, Option, None, length}
use Rattle.std.specs.Prelude.{slice_index_or}
use Rattle.stack_domain.specs.Numbers.{StandsIn}
use Rattle.stack_domain.proofs.slots.join.Given as goal

-- the slots before this one have what holds on both paths, and the others are as they were
abbrev pub invariant-loop-slot : goal.invariant-loop-slot
invariant-loop-slot l = record {
  count : length l.slots ≡ length l.fn.slots;
  first : (j : ℕ) → j < l.slot → (frames : List (List (Option ℕ))) → StandsIn frames (slice_index_or l.fn.slots j None) → StandsIn frames (slice_index_or l.slots j None);
  second : (j : ℕ) → j < l.slot → (frames : List (List (Option ℕ))) → StandsIn frames (slice_index_or l.others j None) → StandsIn frames (slice_index_or l.slots j None);
  rest : (j : ℕ) → l.slot ≤ j → slice_index_or l.slots j None ≡ slice_index_or l.fn.slots j None;
}

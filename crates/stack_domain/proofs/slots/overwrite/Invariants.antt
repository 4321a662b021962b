use Rattle.std.proofs.Common.{◌≡◌, ◌<◌, ◌≤◌, ℕ, None, Some, length}
use Rattle.std.specs.Prelude.{slice_index_or}
use Rattle.stack_domain.specs.Numbers.{IsApart}
use Rattle.stack_domain.specs.declared.numbers.StackNumber.{StackNumber}
use Rattle.stack_domain.proofs.slots.overwrite.Given as goal

-- what is left in the slots before this one lies apart, and the others are as they were
abbrev pub invariant-loop-slot : goal.invariant-loop-slot
invariant-loop-slot l = record {
  count : length l.slots ≡ length l.fn.slots;
  done : (j : ℕ) → j < l.slot → (kept : StackNumber) → slice_index_or l.slots j None ≡ Some kept → (slice_index_or l.fn.slots j None ≡ Some kept) × IsApart kept.place l.frame l.from l.end;
  rest : (j : ℕ) → l.slot ≤ j → slice_index_or l.slots j None ≡ slice_index_or l.fn.slots j None;
}

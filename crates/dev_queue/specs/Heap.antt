-- How waiting CCBs stand in a heap.
use Rattle.std.specs.Prelude.{◌≡◌, ℕ, ◌+◌, ◌*◌, ◌<◌, ◌≤◌, ◌≢◌, List, length, slice_index_or}
use Rattle.ccb.specs.declared.CcbId.{CcbId}
use Rattle.dev_queue.specs.declared.waiting_ccb.WaitingCcb.{WaitingCcb}
use Rattle.dev_queue.specs.Waiting.{StartsFirst}

-- under a place stand two others
abbrev pub IsUnder : ℕ → ℕ → Type 0
IsUnder above place = (2 * above + 1 ≤ place) × (place ≤ 2 * above + 2)

-- each pair starts no later than those under it
abbrev pub IsHeap : List WaitingCcb → Type 0
IsHeap pairs =
    (above place : ℕ) (d : WaitingCcb) → IsUnder above place → place < length pairs →
    StartsFirst (slice_index_or pairs above d) (slice_index_or pairs place d)

-- the pair of this number stands at this place
pub record StandsAt (pairs : List WaitingCcb) (number : CcbId) (place : ℕ) : Type 0 where
  pub inside : place < length pairs
  pub number_is : (d : WaitingCcb) → (slice_index_or pairs place d).number.0 ≡ number.0

-- of the pairs under this place the one that starts first
pub record IsFirstUnder (pairs : List WaitingCcb) (above first : ℕ) : Type 0 where
  pub under : IsUnder above first
  pub inside : first < length pairs
  pub least : (place : ℕ) (d : WaitingCcb) → IsUnder above place → place < length pairs →
      StartsFirst (slice_index_or pairs first d) (slice_index_or pairs place d)

-- a heap, but for the pair at this place, which may start before those above it: each other pair starts no later than
-- those under it, and the pair above this place no later than those under this place
pub record MayRise (pairs : List WaitingCcb) (here : ℕ) : Type 0 where
  pub others : (above place : ℕ) (d : WaitingCcb) → IsUnder above place → place < length pairs → place ≢ here →
      StartsFirst (slice_index_or pairs above d) (slice_index_or pairs place d)
  pub around : (above place : ℕ) (d : WaitingCcb) → IsUnder above here → IsUnder here place → place < length pairs →
      StartsFirst (slice_index_or pairs above d) (slice_index_or pairs place d)

-- a heap, but for the pair at this place, which may start after those under it
pub record MaySink (pairs : List WaitingCcb) (here : ℕ) : Type 0 where
  pub others : (above place : ℕ) (d : WaitingCcb) → IsUnder above place → place < length pairs → above ≢ here →
      StartsFirst (slice_index_or pairs above d) (slice_index_or pairs place d)
  pub around : (above place : ℕ) (d : WaitingCcb) → IsUnder above here → IsUnder here place → place < length pairs →
      StartsFirst (slice_index_or pairs above d) (slice_index_or pairs place d)

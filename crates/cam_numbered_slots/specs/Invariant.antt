-- What an index over slots keeps: its numbers rise, each of its entries has a slot of its own with a value in it, the other
-- slots are the free ones, and there is room.
use Rattle.std.specs.Prelude.{◌≡◌, ◌≢◌, ℕ, ◌+◌, ◌<◌, ◌≤◌, ◌^◌, List, map, length, Option, None, IsSome, All, slice_index_or, vec_capacity}
use Rattle.std.specs.List.{AllPairs, filter_map}
use Rattle.std.specs.declared.vec.Vec.{Vec}
use Rattle.std.specs.declared.alloc.Global.{Global}
use Rattle.ccb.specs.Rising.{AreRising}
use Rattle.cam_numbered_slots.specs.declared.numbered_slots.Entry.{Entry}
use Rattle.cam_numbered_slots.specs.NumberedState.{NumberedState}

-- no slot stands twice
abbrev pub AreApart : List ℕ → Type 0
AreApart slots = AllPairs (λ one other. one ≢ other) slots

abbrev pub numbers_of : List Entry → List ℕ
numbers_of index = map (λ entry. entry.number) index

-- the slots of these entries
abbrev pub used_by : List Entry → List ℕ
used_by index = map (λ entry. entry.slot) index

module _ {T : Type 0} where
  abbrev pub value_at : List (Option T) → ℕ → Option T
  value_at slots slot = slice_index_or slots slot None

  abbrev pub IsFull : List (Option T) → ℕ → Type 0
  IsFull slots slot = IsSome (value_at slots slot)

  abbrev pub IsFree : List (Option T) → ℕ → Type 0
  IsFree slots slot = (slot < length slots) × (value_at slots slot ≡ None)

  -- the values in these slots
  abbrev pub values_in : List ℕ → List (Option T) → List T
  values_in used slots = filter_map (value_at slots) used

  -- these are the slots that are used, and those that are free
  pub record AreSlots (used : List ℕ) (places : List (Option T)) (vacant : List ℕ) : Type 0 where
    pub full : All (IsFull places) used
    pub apart : AreApart used
    pub free : All (IsFree places) vacant
    pub free_apart : AreApart vacant
    pub total : length used + length vacant ≡ length places

  abbrev pub seen : List Entry → List (Option T) → ℕ → NumberedState T
  seen index slots most = record { numbers = numbers_of index; values = values_in (used_by index) slots; most = most }

  pub record KeepsSlots (index : Vec Entry Global) (places : Vec (Option T) Global) (vacant : Vec ℕ Global) : Type 0 where
    pub high : ℕ
    pub rising : AreRising 0 (numbers_of index.items) high
    pub slots : AreSlots (used_by index.items) places.items vacant.items
    pub within : length places.items ≤ vec_capacity places
    pub index_room : vec_capacity places ≤ vec_capacity index
    pub free_room : vec_capacity places ≤ vec_capacity vacant
    pub short : vec_capacity places < 2 ^ 32

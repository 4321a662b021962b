-- What entries keep: numbers tell them apart, each stored count is the number of the place's entries, and there is room.
use Rattle.std.specs.Prelude.{◌≡◌, ℕ, ◌<◌, ◌≤◌, List, length, map, Some, Option, slice_index}
use Rattle.ccb.specs.Rising.{AreRising}
use Rattle.slab.specs.Slab.{Slab, slab_len}
use Rattle.freeze_ledger.specs.declared.freeze.Freeze.{Freeze}
use Rattle.freeze_ledger.specs.declared.ledger.TheConstants.{MAX_FREEZES}
use Rattle.ccb.specs.declared.place.Place.{Place}
use Rattle.ccb.specs.Places.{index_of}
use Rattle.freeze_ledger.specs.Freezes.{frozen}
use Rattle.freeze_ledger.specs.Entries.{freeze_at, freezes_in}

-- the freezes' numbers rise from above `low`, and none is above `high`
abbrev pub AreNumbered : ℕ → List Freeze → ℕ → Type 0
AreNumbered low freezes high = AreRising low (map (λ freeze. freeze.number) freezes) high

-- no number stands under two keys
abbrev pub AreApart : List (Option Freeze) → Type 0
AreApart slots =
    (key other : ℕ) (freeze same : Freeze) → freeze_at slots key ≡ Some freeze → freeze_at slots other ≡ Some same → freeze.number ≡ same.number → key ≡ other

-- what stands there bears a number from 1 up to this one
abbrev pub AreGiven : List (Option Freeze) → ℕ → Type 0
AreGiven slots greatest =
    (key : ℕ) (freeze : Freeze) → freeze_at slots key ≡ Some freeze → (0 < freeze.number) × (freeze.number ≤ greatest)

-- and names one of so many places
abbrev pub AreKnown : List (Option Freeze) → ℕ → Type 0
AreKnown slots places = (key : ℕ) (freeze : Freeze) → freeze_at slots key ≡ Some freeze → index_of freeze.place < places

pub record LedgerIsKept (slab : Slab Freeze) (counts : List ℕ) (greatest : ℕ) : Type 0 where
  pub apart : AreApart slab.slots
  pub given : AreGiven slab.slots greatest
  pub known : AreKnown slab.slots (length counts)
  pub counted : (place : Place) → index_of place < length counts → slice_index counts (index_of place) ≡ frozen place (freezes_in slab.slots greatest)
  pub total : slab_len slab ≡ length (freezes_in slab.slots greatest)
  pub within : slab_len slab ≤ MAX_FREEZES
  pub room : MAX_FREEZES ≤ slab.capacity

-- Entries that stand under keys, and the list of their freezes in the order of numbers.
use Rattle.std.specs.Prelude.{◌≡◌, ◌≢◌, ℕ, zero, suc, ◌==◌, List, [], ◌∷◌, ◌++◌, Option, None, Some, slice_index_or, if◌then◌else◌}
use Rattle.std.specs.Option.{option_to_list}
use Rattle.freeze_ledger.specs.declared.freeze.Freeze.{Freeze}
use Rattle.freeze_ledger.specs.Freezes.{entry_of}
use Rattle.freeze_ledger.specs.State.{LedgerState}

-- the freeze that stands under a key
abbrev pub freeze_at : List (Option Freeze) → ℕ → Option Freeze
freeze_at slots key = slice_index_or slots key None

-- the freeze of this number, of those that stand there
abbrev pub numbered : List (Option Freeze) → ℕ → Option Freeze
numbered [] number = None
numbered (None ∷ rest) number = numbered rest number
numbered (Some freeze ∷ rest) number = if freeze.number == number then Some freeze else numbered rest number

-- what bears the numbers from 1 up to this one, in their order
abbrev pub up_to : (ℕ → Option Freeze) → ℕ → List Freeze
up_to bears zero = []
up_to bears (suc number) = up_to bears number ++ option_to_list (bears (suc number))

-- all freezes that stand there, in the order of their numbers, none of which is above this one
unfoldable pub freezes_in : List (Option Freeze) → ℕ → List Freeze
freezes_in slots greatest = up_to (numbered slots) greatest

pub record EntriesState : Type 0 where
  -- how many places there are
  pub places : ℕ
  -- the greatest number that was given
  pub greatest : ℕ
  -- how many keys there may be, from 0 on
  pub keys : ℕ
  -- a freeze or nothing, under each key
  pub slots : List (Option Freeze)

abbrev pub all_of : EntriesState → List Freeze
all_of entries = freezes_in entries.slots entries.greatest

-- what a ledger of these entries is
abbrev pub ledger_of : EntriesState → LedgerState
ledger_of entries = record { places = entries.places; greatest = entries.greatest; freezes = all_of entries }

-- under one key stands this now, and under each other what stood there
pub record Changes (old new : List (Option Freeze)) (key : ℕ) (slot : Option Freeze) : Type 0 where
  pub changed : freeze_at new key ≡ slot
  pub others : (other : ℕ) → other ≢ key → freeze_at new other ≡ freeze_at old other

-- what stands there is in the list
abbrev pub AreListed : EntriesState → Type 0
AreListed entries = (key : ℕ) (freeze : Freeze) → freeze_at entries.slots key ≡ Some freeze → entry_of freeze.number (all_of entries) ≡ Some freeze

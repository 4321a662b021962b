-- What contracts see of a ledger.
use Rattle.std.specs.Prelude.{ℕ, ◌+◌, List, [], ◌∷◌, ◌++◌}
use Rattle.ccb.specs.declared.place.Place.{Place}
use Rattle.freeze_ledger.specs.declared.freeze.Holder.{Holder}
use Rattle.freeze_ledger.specs.declared.freeze.Freeze.{Freeze}

pub record LedgerState : Type 0 where
  -- how many places there are
  pub places : ℕ
  -- the greatest number that was given
  pub greatest : ℕ
  -- in the order of their numbers
  pub freezes : List Freeze

abbrev pub empty_ledger : ℕ → LedgerState
empty_ledger places = record { places = places; greatest = 0; freezes = [] }

-- the freeze that is entered next: it bears the number after the greatest given
abbrev pub next_freeze : LedgerState → Place → Holder → Freeze
next_freeze state place holder = record { number = state.greatest + 1; place = place; holder = holder }

-- with one freeze more, whose number is now the greatest given
abbrev pub with_entry : LedgerState → Freeze → LedgerState
with_entry state freeze =
    record { places = state.places; greatest = freeze.number; freezes = state.freezes ++ freeze ∷ [] }

-- with these freezes
abbrev pub with_freezes : LedgerState → List Freeze → LedgerState
with_freezes state freezes = record { places = state.places; greatest = state.greatest; freezes = freezes }

-- What the taking of a freeze answers and leaves, and when a timer goes next.
use Rattle.std.specs.Prelude.{◌≡◌, ℕ, ◌+◌, true, false, List, [], ◌∷◌, ◌++◌, Option, Some, None}
use Rattle.freeze_ledger.specs.declared.freeze.Freeze.{Freeze}
use Rattle.freeze_ledger.specs.declared.freeze.Holder.{Holder}
use Rattle.ccb.specs.declared.place.Place.{Place}
use Rattle.freeze_ledger.specs.Freezes.{meets_limit}
use Rattle.freeze_ledger.specs.Deadlines.{IsFirstDeadline}
use Rattle.world.specs.World.{Transport}

-- the next freeze of the place for this holder, where it meets no limit, and none where it does
abbrev pub IsTaken : Transport → Place → Holder → Option Freeze → Type 0
IsTaken state place holder None = meets_limit place state.freezes state.greatest_freeze ≡ true
IsTaken state place holder (Some freeze) =
    (meets_limit place state.freezes state.greatest_freeze ≡ false)
    × (freeze ≡ record { number = state.greatest_freeze + 1; place = place; holder = holder })

-- with it, or as it was
abbrev pub took : Transport → Option Freeze → Transport
took state None = state
took state (Some freeze) = record state { freezes = state.freezes ++ freeze ∷ []; greatest_freeze = freeze.number }

-- of all timers that hold these freezes, the one that goes first is due then
abbrev pub IsNextDue : List Freeze → ℕ → Type 0
IsNextDue freezes due = (number : ℕ) × IsFirstDeadline freezes due number

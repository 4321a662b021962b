-- What a list of freezes says: how often a place is frozen, by whom, and when a further freeze meets a limit.
use Rattle.std.specs.Prelude.{◌≡◌, ℕ, Bool, false, not, ◌==◌, ◌||◌, nat_le, List, map, filter, length, Option, Some, count_by, if◌then◌else◌}
use Rattle.std.specs.List.{find}
use Rattle.freeze_ledger.specs.declared.freeze.Holder.{Holder}
use Rattle.freeze_ledger.specs.declared.freeze.Holder.TheVariants.{Run, Timer, Guest}
use Rattle.freeze_ledger.specs.declared.freeze.Freeze.{Freeze}
use Rattle.freeze_ledger.specs.declared.ledger.TheConstants.{MAX_FREEZES, MAX_FREEZE_NUMBER, MAX_PLACE_FREEZES}
use Rattle.ccb.specs.declared.place.Place.{Place}
use Rattle.ccb.specs.Places.{is_place}

-- the freeze is one of this place
abbrev pub names : Place → Freeze → Bool
names place freeze = is_place freeze.place place

-- the place's frozen count: how many freezes name it
abbrev pub frozen : Place → List Freeze → ℕ
frozen place freezes = count_by (names place) freezes

-- a further freeze of the place meets a limit: the place has as many as one may have (255), there are as many as there may
-- be in all (1024), or the numbers (up to 4,294,967,295) are used up
abbrev pub meets_limit : Place → List Freeze → ℕ → Bool
meets_limit place freezes greatest =
    nat_le MAX_PLACE_FREEZES (frozen place freezes) || nat_le MAX_FREEZES (length freezes) || nat_le MAX_FREEZE_NUMBER greatest

-- the freeze of this number
abbrev pub entry_of : ℕ → List Freeze → Option Freeze
entry_of number freezes = find (λ freeze. freeze.number == number) freezes

-- all freezes but that of this number
abbrev pub without : ℕ → List Freeze → List Freeze
without number freezes = filter (λ freeze. not (freeze.number == number)) freezes

-- the freezes, with a timer that is due then as the holder of that of this number
abbrev pub handed_over : ℕ → ℕ → List Freeze → List Freeze
handed_over number due freezes =
    map {A = Freeze} (λ freeze. if freeze.number == number then record freeze { holder = Timer due } else freeze) freezes

-- a timer holds the freeze of this number
abbrev pub HasTimer : ℕ → List Freeze → Type 0
HasTimer number freezes =
    (place : Place) × (due : ℕ) × (entry_of number freezes ≡ Some (record { number = number; place = place; holder = Timer due }))

-- the holder is a timer, and it is due: its time is not after the clock's reading
abbrev pub is_due : ℕ → Holder → Bool
is_due reading (Run run) = false
is_due reading (Timer due) = nat_le due reading
is_due reading (Guest guest) = false

-- the freezes whose timers are due at this clock reading, and all others
abbrev pub due_at : ℕ → List Freeze → List Freeze
due_at reading freezes = filter (λ freeze. is_due reading freeze.holder) freezes

abbrev pub not_due_at : ℕ → List Freeze → List Freeze
not_due_at reading freezes = filter (λ freeze. not (is_due reading freeze.holder)) freezes

-- the number and the holder of each freeze of the place
abbrev pub holders_of : Place → List Freeze → List (ℕ × Holder)
holders_of place freezes = map (λ freeze. (freeze.number, freeze.holder)) (filter (names place) freezes)

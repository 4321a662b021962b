-- The freeze with the least number above a given one: of a place, of all queues and controllers, and of all freezes.
use Rattle.std.specs.Prelude.{ℕ, zero, suc, ◌&&◌, nat_le, nat_lt, if◌then◌else◌, List, [], ◌∷◌, map, Option, Some, None, slice_index_or}
use Rattle.std.specs.List.{find}
use Rattle.ccb.specs.Places.{device}
use Rattle.ccb.specs.declared.place.Place.{Place}
use Rattle.ccb.specs.declared.place.Place.TheVariants.{Controller}
use Rattle.freeze_ledger.specs.declared.freeze.Freeze.{Freeze}
use Rattle.freeze_ledger.specs.declared.freeze.Holder.{Holder}
use Rattle.freeze_ledger.specs.Freezes.{names}

-- the first freeze with a number above this one, in a list in which numbers rise
abbrev pub freeze_above : ℕ → List Freeze → Option Freeze
freeze_above after freezes = find (λ freeze. nat_lt after freeze.number) freezes

-- the same of one place
abbrev pub place_above : Place → ℕ → List Freeze → Option Freeze
place_above place after freezes = find (λ freeze. names place freeze && nat_lt after freeze.number) freezes

-- the same of the numbers and holders of one place's freezes
abbrev pub holder_above : Place → ℕ → List (ℕ × Holder) → Option Freeze
holder_above place after [] = None
holder_above place after (it ∷ more) =
    if nat_lt after it.0 then Some (record { number = it.0; place = place; holder = it.1 }) else holder_above place after more

-- that of the two which has the lesser number
abbrev pub lesser : Option Freeze → Option Freeze → Option Freeze
lesser None other = other
lesser (Some one) None = Some one
lesser (Some one) (Some other) = if nat_le one.number other.number then Some one else Some other

-- the same of so many queues, and of so many controllers
abbrev pub queues_above : (count after : ℕ) → List Freeze → Option Freeze
queues_above zero after freezes = None
queues_above (suc count) after freezes = lesser (queues_above count after freezes) (place_above (device count) after freezes)

abbrev pub controllers_above : (count after : ℕ) → List Freeze → Option Freeze
controllers_above zero after freezes = None
controllers_above (suc count) after freezes = lesser (controllers_above count after freezes) (place_above (Controller count) after freezes)

-- the number of the freeze before this place, 0 before the first
abbrev pub number_before : ℕ → List Freeze → ℕ
number_before place freezes = slice_index_or (0 ∷ map (λ freeze. freeze.number) freezes) place 0

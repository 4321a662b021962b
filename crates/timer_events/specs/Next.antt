-- Which timer is next at a clock reading: of the freezes that timers hold, the one that goes first, once it is due.
-- Times and readings are in milliseconds.
use Rattle.std.specs.Prelude.{◌≡◌, ℕ, ◌≤◌, Bool, true, List, Some}
use Rattle.std.specs.List.{list_any}
use Rattle.ccb.specs.declared.place.Place.{Place}
use Rattle.freeze_ledger.specs.declared.freeze.Holder.TheVariants.{Timer}
use Rattle.freeze_ledger.specs.declared.freeze.Freeze.{Freeze}
use Rattle.freeze_ledger.specs.Freezes.{entry_of, is_due}
use Rattle.freeze_ledger.specs.Deadlines.{all_behind}

-- a timer holds one of these freezes, and is due
abbrev pub some_due : ℕ → List Freeze → Bool
some_due reading freezes = list_any (λ freeze. is_due reading freeze.holder) freezes

-- the freeze of this number is next: a timer holds it, is due, and no other freeze goes before it
pub record IsNext (reading : ℕ) (freezes : List Freeze) (number : ℕ) : Type 0 where
  pub place : Place
  pub due : ℕ
  pub held : entry_of number freezes ≡ Some (record { number = number; place = place; holder = Timer due })
  pub reached : due ≤ reading
  pub first : all_behind due number freezes ≡ true

-- at most one is next
abbrev pub NextIsOne : Type 0
NextIsOne = (reading : ℕ) (freezes : List Freeze) (one other : ℕ) → IsNext reading freezes one → IsNext reading freezes other → one ≡ other

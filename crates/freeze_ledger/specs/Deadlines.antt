-- Which deadline comes first, and when an index has the deadlines of all entries that timers hold.
use Rattle.std.specs.Prelude.{◌≡◌, ℕ, Bool, true, false, ◌==◌, ◌||◌, ◌&&◌, nat_lt, nat_le, List, ◌∷◌, length, Contains, IsPermutation, Option, None, Some, All, count_by, if◌then◌else◌}
use Rattle.std.specs.List.{list_all, list_any}
use Rattle.std.specs.declared.cmp.Reverse.{Reverse}
use Rattle.freeze_ledger.specs.declared.deadline.Deadline.{Deadline}
use Rattle.ccb.specs.declared.place.Place.{Place}
use Rattle.freeze_ledger.specs.declared.freeze.Holder.{Holder}
use Rattle.freeze_ledger.specs.declared.freeze.Holder.TheVariants.{Run, Timer, Guest}
use Rattle.freeze_ledger.specs.declared.freeze.Freeze.{Freeze}
use Rattle.freeze_ledger.specs.Freezes.{entry_of}
use Rattle.freeze_ledger.specs.Entries.{freeze_at}
use Rattle.freeze_ledger.specs.Index.{under, turned}

-- a freeze with this holder and number does not go before one that is due then under that number: no timer holds it, or
-- its timer is due later, or at the same time and its number is not lower
abbrev pub goes_behind : (due number : ℕ) → Holder → ℕ → Bool
goes_behind due number (Run run) other = true
goes_behind due number (Timer later) other = nat_lt due later || (due == later && nat_le number other)
goes_behind due number (Guest guest) other = true

-- none of these freezes goes before one that is due then under this number
abbrev pub all_behind : (due number : ℕ) → List Freeze → Bool
all_behind due number freezes = list_all (λ other. goes_behind due number other.holder other.number) freezes

abbrev pub is_timer : Holder → Bool
is_timer (Run run) = false
is_timer (Timer due) = true
is_timer (Guest guest) = false

-- how many of these freezes timers hold
abbrev pub timers_in : List Freeze → ℕ
timers_in freezes = count_by (λ freeze. is_timer freeze.holder) freezes

-- a timer holds one of these freezes
abbrev pub some_timer : List Freeze → Bool
some_timer freezes = list_any (λ freeze. is_timer freeze.holder) freezes

-- of the timers that hold these freezes, this is the time of that which goes first, and the number of its freeze
pub record IsFirstDeadline (freezes : List Freeze) (due number : ℕ) : Type 0 where
  pub place : Place
  pub held : entry_of number freezes ≡ Some (record { number = number; place = place; holder = Timer due })
  pub first : all_behind due number freezes ≡ true

-- how many deadlines a slot has
abbrev pub deadlines_of : Option Freeze → ℕ
deadlines_of None = 0
deadlines_of (Some freeze) = if is_timer freeze.holder then 1 else 0

-- the deadline is that of the freeze under its key
abbrev pub IsOf : List (Option Freeze) → Reverse Deadline → Type 0
IsOf slots it =
    (place : Place) × (freeze_at slots it.0.key ≡ Some (record { number = it.0.number; place = place; holder = Timer it.0.due }))

-- the index has the deadline of each freeze that a timer holds, once, and no other
pub record IsIndex (slots : List (Option Freeze)) (freezes : List Freeze) (index : List (Reverse Deadline)) : Type 0 where
  pub true_ones : All (IsOf slots) index
  pub each : (key : ℕ) → count_by (under key) index ≡ deadlines_of (freeze_at slots key)
  pub many : length index ≡ timers_in freezes

-- the index has a deadline for this freeze under this key where a timer holds it
abbrev pub HasItsDeadline : List (Reverse Deadline) → ℕ → Freeze → Type 0
HasItsDeadline index key freeze =
    (due : ℕ) → freeze.holder ≡ Timer due → Contains index (turned (record { due = due; number = freeze.number; key = key })) × (count_by (under key) index ≡ 1)

-- the same index without that, by who holds the freeze
abbrev pub forgets : (before after : List (Reverse Deadline)) → ℕ → Freeze → Holder → Type 0
forgets before after key freeze (Run run) = after ≡ before
forgets before after key freeze (Timer due) = IsPermutation (turned (record { due = due; number = freeze.number; key = key }) ∷ after) before
forgets before after key freeze (Guest guest) = after ≡ before

abbrev pub ForgetsOne : (before after : List (Reverse Deadline)) → ℕ → Freeze → Type 0
ForgetsOne before after key freeze = forgets before after key freeze freeze.holder

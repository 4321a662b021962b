-- What contracts see of the list of live CCBs, and what it keeps: they are numbered by their own numbers, which
-- rise, there is room, and the active CCBs are counted.
use Rattle.std.specs.Prelude.{◌≡◌, ℕ, ◌<◌, ◌≤◌, ◌||◌, Bool, List, [], length, map, nat_le, count_by, slice_index_or}
use Rattle.world.specs.Capacities.{most_ccbs, last_number}
use Rattle.world.specs.World.{LiveCcb}
use Rattle.world.specs.Lookups.{is_active}
use Rattle.ccb.specs.Rising.{AreRising}
use Rattle.cam_numbered_slots.specs.NumberedState.{NumberedState}

pub record ListState : Type 0 where
  -- in the order of their numbers
  pub live : List LiveCcb
  -- the greatest number that was given
  pub greatest : ℕ

abbrev pub no_live : ListState
no_live = record { live = []; greatest = 0 }

-- there are as many as may be, or the numbers are used up
abbrev pub is_full : ListState → Bool
is_full list = nat_le most_ccbs (length list.live) || nat_le last_number list.greatest

abbrev pub all_active : List LiveCcb → ℕ
all_active ccbs = count_by (λ live. is_active live.state) ccbs

pub record IsListed (ccbs : NumberedState LiveCcb) (greatest active : ℕ) : Type 0 where
  pub numbered : ccbs.numbers ≡ map (λ live. live.ccb.number.0) ccbs.values
  pub rising : AreRising 0 (map (λ live. live.ccb.number.0) ccbs.values) greatest
  pub within : length ccbs.values ≤ most_ccbs
  pub room : ccbs.most ≡ most_ccbs
  pub counted : active ≡ all_active ccbs.values

-- the CCB of this number stands at this place in the order of the numbers
pub record IsPlaceOf (number : ℕ) (ccbs : List LiveCcb) (place : ℕ) : Type 0 where
  pub within : place < length ccbs
  pub here : (other : LiveCcb) → (slice_index_or ccbs place other).ccb.number.0 ≡ number

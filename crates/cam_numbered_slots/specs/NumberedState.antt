-- What contracts see of values that bear rising numbers.
use Rattle.std.specs.Prelude.{◌≡◌, ℕ, ◌<◌, List, [], length, slice_index, slice_set}

pub record NumberedState (T : Type 0) : Type 0 where
  -- in the order of the numbers
  pub numbers : List ℕ
  -- and the value of each
  pub values : List T
  -- how many there may be
  pub most : ℕ

module _ {T : Type 0} where
  abbrev pub no_values : ℕ → NumberedState T
  no_values most = record { numbers = []; values = []; most = most }

  -- another value at a place
  abbrev pub with_value : NumberedState T → ℕ → T → NumberedState T
  with_value state place value = record state { values = slice_set state.values place value }

-- this number stands at this place
pub record IsPlaceOf (number : ℕ) (numbers : List ℕ) (place : ℕ) : Type 0 where
  pub within : place < length numbers
  pub here : slice_index numbers place ≡ number

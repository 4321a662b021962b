-- A list as it is kept: so many places, of which the first have the values and the rest are blank.
use Rattle.std.specs.Prelude.{◌≡◌, ℕ, ◌-◌, ◌≤◌, List, ◌++◌, length, take, replicate}
use Rattle.std.proofs.Common.{arith, length-take-le}

module _ {T : Type 0} (blank : T) (most : ℕ) where
  -- the values, padded
  abbrev pub padded : List T → List T
  padded xs = xs ++ replicate (most - length xs) blank

  -- places whose first len ones are the values, padded
  pub record IsPadded (places : List T) (len : ℕ) : Type 0 where
    pub within : len ≤ most
    pub whole : length places ≡ most
    pub rest : padded (take len places) ≡ places

  -- the places tell how many values there are, so a list has one form
  pub length-kept : (places : List T) (len : ℕ) → IsPadded places len → length (take len places) ≡ len
  length-kept places len is = length-take-le len places (omega (arith, is.within, is.whole))

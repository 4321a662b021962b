-- What contracts see of a list that only grows.
use Rattle.std.specs.Prelude.{ℕ, List, []}

pub record ChunkedState (T : Type 0) : Type 0 where
  -- in the order in which they were pushed
  pub items : List T
  -- how many there may be before more memory is taken
  pub capacity : ℕ

module _ {T : Type 0} where
  abbrev pub no_items : ℕ → ChunkedState T
  no_items capacity = record { items = []; capacity = capacity }

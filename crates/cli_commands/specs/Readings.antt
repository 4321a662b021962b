-- What the manifest that is given held when it was read again.
use Rattle.std.specs.Prelude.{ℕ, List}

-- these bytes; or none is given; or it cannot be read
pub data Reading : Type 0 where
  held : List ℕ → Reading
  not_given : Reading
  unreadable : Reading

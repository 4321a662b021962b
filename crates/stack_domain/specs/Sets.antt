-- What is kept of a stack: a set of 512 bytes for each live frame, of which there is one at least.
use Rattle.std.specs.Prelude.{◌≡◌, ℕ, ◌<◌, ◌≤◌, Bool, List, [], length, slice_index_or}

pub record AreSets (stack : List (List Bool)) : Type 0 where
  pub some : 1 ≤ length stack
  pub whole : (k : ℕ) → k < length stack → length (slice_index_or stack k []) ≡ 512

-- Where a live run stands among the others.
use Rattle.std.specs.Prelude.{◌≡◌, ℕ, ◌<◌, List, length, slice_index_or}
use Rattle.world.specs.World.{LiveRun}

-- this run stands at this place in the order of their numbers
pub record HasRunAt (runs : List LiveRun) (place : ℕ) (it : LiveRun) : Type 0 where
  pub within : place < length runs
  pub here : slice_index_or runs place it ≡ it

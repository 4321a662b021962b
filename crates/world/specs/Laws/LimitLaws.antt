-- The laws of limits: every world of every run keeps them.
use Rattle.std.specs.Prelude.{◌≡◌, ℕ, ◌≤◌, List, Some, length}
use Rattle.world.specs.Capacities.{most_frames, most_held}
use Rattle.world.specs.World.{LiveRun, Setup, World}
use Rattle.world.specs.Lookups.{run_of}
use Rattle.world.specs.Lawful.{IsLawful}
use Rattle.world.specs.Event.{Event, Reply}
use Rattle.world.specs.Limits.{KeepsLimits}
use Rattle.world.specs.WorldRun.{WorldRun}
use Rattle.world.specs.Laws.FreezeLaws.{entries_of}

-- at every moment of every run of a lawful setup the limits are kept
abbrev pub LimitsAreKept : Type 0
LimitsAreKept = (setup : Setup) → IsLawful setup → (xs : List (Event × Reply)) (world : World) → WorldRun setup xs world → KeepsLimits setup world

-- No run holds too many freezes, neither by its machine nor by the entries that name it, and none has too many frames.
pub record PerRunLimits (world : World) : Type 0 where
  pub held : (number : ℕ) (run : LiveRun) → run_of number world.runs.list ≡ Some run → length run.machine.held ≤ most_held
  pub entries : (number : ℕ) → length (entries_of number world.transport.freezes) ≤ most_held
  pub frames : (number : ℕ) (run : LiveRun) → run_of number world.runs.list ≡ Some run → length run.machine.frames ≤ most_frames

-- nor at any moment of any run of a lawful setup
abbrev pub RunsKeepLimits : Type 0
RunsKeepLimits = (setup : Setup) → IsLawful setup → (xs : List (Event × Reply)) (world : World) → WorldRun setup xs world → PerRunLimits world

-- What an engine without a live run leaves: a world that another engine may take over.
use Rattle.std.specs.Prelude.{◌≡◌, List, []}
use Rattle.world.specs.Beginning.{IsBeginning}
use Rattle.world.specs.Event.{Event, Reply}
use Rattle.world.specs.Lawful.{IsLawful}
use Rattle.world.specs.World.{Setup, World}
use Rattle.world.specs.WorldRun.{WorldRun}

-- the world but for the CCBs that ended
abbrev pub left_by : World → World
left_by world = record world { ended = [] }

-- at each moment of every run of a lawful setup at which no run is live
abbrev pub LeavesABeginning : Type 0
LeavesABeginning = (setup : Setup) → IsLawful setup → (xs : List (Event × Reply)) (world : World) → WorldRun setup xs world → world.runs.list ≡ [] → IsBeginning setup (left_by world)

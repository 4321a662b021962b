-- Runs of the world: lists of events with their replies, one step after another.
use Rattle.std.specs.Prelude.{◌≡◌, List, [], ◌∷◌, Option, Some, None}
use Rattle.world.specs.World.{Setup, World, beginning}
use Rattle.world.specs.Beginning.{Begins}
use Rattle.world.specs.Event.{Event, Reply}
use Rattle.world.specs.Step.{step, WorldStep}

-- the events with these replies lead from one world to the other
abbrev pub Leads : Setup → World → List (Event × Reply) → World → Type 0
Leads setup before [] after = before ≡ after
Leads setup before (x ∷ xs) after = (between : World) × WorldStep setup before x.0 x.1 between × Leads setup between xs after

-- a run: it begins in the opening world, or in the world that was taken over
abbrev pub WorldRun : Setup → List (Event × Reply) → World → Type 0
WorldRun setup xs after = Begins setup × Leads setup (beginning setup) xs after

-- Where a step of the world leads. What is no event changes nothing.
abbrev pub led_to : World → Option (Reply × World) → World
led_to before None = before
led_to before (Some x) = x.1

-- the world to which the events lead by its steps alone, whatever replies are told
abbrev pub world_after : Setup → World → List (Event × Reply) → World
world_after setup before [] = before
world_after setup before (x ∷ xs) = world_after setup (led_to before (step setup before x.0)) xs

-- What contracts see of an engine: its setup, its whole history, of which the front may have been handed on, and the world that its
-- fields are.
use Rattle.std.specs.Prelude.{◌≡◌, ℕ, true, List, [], ◌∷◌, ◌++◌, Contains}
use Rattle.freeze_ledger.specs.declared.freeze.Freeze.{Freeze}
use Rattle.world_calls.specs.declared.record.Record.{Record}
use Rattle.world.specs.World.{Setup, Runs, Transport, World, beginning, opening}
use Rattle.world.specs.Lawful.{IsLawful}
use Rattle.world.specs.FreezeSteps.{is_guest}
use Rattle.world.specs.WorldRun.{Leads, WorldRun, world_after}
use Rattle.world.specs.Flat.{events_of, flat}

pub record EngineState : Type 0 where
  pub setup : Setup
  pub history : List Record
  -- how many of the history's records were handed on
  pub taken : ℕ
  pub world : World

-- the fields, read as a world: what ended is what the steps of the history ended
abbrev pub world_of : Setup → List Record → Transport → Runs → World
world_of setup history transport runs = record {
  transport = transport;
  runs = runs;
  ended = (world_after setup (beginning setup) (flat history)).ended;
}

-- of an engine that follows no other
abbrev pub opened : Setup → EngineState
opened setup = record { setup = setup; history = []; taken = 0; world = opening setup }

-- The setup is one of accepted programs, and this world is the run of the history: what the laws of the world ask for.
pub record IsRunOf (setup : Setup) (history : List Record) (world : World) : Type 0 where
  pub lawful : IsLawful setup
  pub run : WorldRun setup (flat history) world

-- the same of an engine's
abbrev pub IsRun : EngineState → Type 0
IsRun state = IsRunOf state.setup state.history state.world

-- exactly one record more, whose events lead the world to the new one with the replies that it tells
pub record Records (old new : EngineState) (answer : Record) : Type 0 where
  pub history : new.history ≡ old.history ++ answer ∷ []
  pub taken : new.taken ≡ old.taken
  pub setup : new.setup ≡ old.setup
  pub step : Leads old.setup old.world (events_of answer) new.world

-- a guest's freeze is this one, by its number, queue and holder
abbrev pub GuestHolds : World → Freeze → Type 0
GuestHolds world freeze = Contains world.transport.freezes freeze × (is_guest freeze.holder ≡ true)

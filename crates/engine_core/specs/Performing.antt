-- What an event needs of an engine's parts, and what it makes of them.
use Rattle.std.specs.Prelude.{◌≡◌, ℕ, ◌+◌, List, Some}
use Rattle.engine_runs.specs.RunsState.{RunsState}
use Rattle.engine_runs.specs.RunPlaces.{HasRunAt}
use Rattle.world_calls.specs.declared.record.Record.{Record}
use Rattle.world.specs.World.{Setup, LiveRun, Transport, World}
use Rattle.world.specs.Lookups.{run_of}
use Rattle.world.specs.Flat.{events_of}
use Rattle.engine_core.specs.declared.event.Event.{Event}
use Rattle.engine_core.specs.declared.event.Event.TheVariants.{Park}
use Rattle.engine_core.specs.declared.reply.Reply.{Reply}
use Rattle.engine_core.specs.EngineState.{world_of}
use Rattle.engine_core.specs.Invariant.{HoldEntries, KeepsEngine, HistoryHasRoom}
use Rattle.engine_core.specs.Replies.{record_of, ReplyMatchesEvent, GivesAsRecorded}
use Rattle.engine_core.specs.TakingOver.{LeadsTo}

-- the world with this transport and these runs
abbrev pub world_with : Transport → RunsState → World → World
world_with transport runs world = record world { transport = transport; runs = runs.runs }

-- a run of that number is live, and stands at this place
abbrev pub IsPlaced : List LiveRun → ℕ → ℕ → Type 0
IsPlaced runs number place = (it : LiveRun) × (run_of number runs ≡ Some it) × HasRunAt runs place it

-- one run that is out more needs its room no more after a park
abbrev pub LeavesRoom : Event → List LiveRun → List LiveRun → Type 0
LeavesRoom (Park run) old new = (records capacity : ℕ) → HistoryHasRoom records capacity old → HistoryHasRoom (records + 1) capacity new
LeavesRoom event old new = Unit {0}

-- The event is carried out or refused on these parts, which are of an engine: by this reply and this record, which stands for
-- what leads from the old world to the new one. What each run holds are the entries that name it still.
pub record Performs (setup : Setup) (event : Event) (transport : Transport) (old : RunsState) (more : Transport) (new : RunsState) (reply : Reply) (told : Record) : Type 0 where
  pub is : record_of setup event reply ≡ Some told
  pub fits : ReplyMatchesEvent event reply
  pub leads : (history : List Record) → KeepsEngine setup history transport old → LeadsTo setup (world_of setup history transport old.runs) (events_of told) more new.runs
  pub tokens : (history : List Record) → KeepsEngine setup history transport old → HoldEntries more.freezes new
  pub gives : (before after : World) → GivesAsRecorded setup (world_with transport old before) event (world_with more new after) reply
  pub room : LeavesRoom event old.runs.list new.runs.list

-- An engine that is led to where the records of a trace lead, and the runs that are out then.
use Rattle.std.specs.Prelude.{◌≡◌, ℕ, ◌+◌, ◌<◌, ◌⊎◌, All, IfSome, Option, None, Some, List, [], ◌∷◌, ◌++◌, filter, length, map, slice_index_or}
use Rattle.std.specs.Global.{Box}
use Rattle.world_calls.specs.declared.call.Call.{Call}
use Rattle.world_calls.specs.declared.call_answer.CallAnswer.{CallAnswer}
use Rattle.world_calls.specs.declared.carried_line.CarriedLine.{CarriedLine}
use Rattle.world_calls.specs.declared.record.Record.{Record}
use Rattle.world_calls.specs.declared.record.Record.TheVariants.{Called}
use Rattle.world.specs.World.{LiveRun, Setup, World}
use Rattle.engine_runs.specs.Admits.{IsOutWith}
use Rattle.engine_runs.specs.RunPlaces.{HasRunAt}
use Rattle.engine_core.specs.EngineState.{EngineState, IsRun, Records}
use Rattle.engine_core.specs.RunState.{RunState}
use Rattle.engine_core.specs.Settings.{begun_with, setup_over}
use Rattle.engine_succession.specs.FromLines.{IsWorldOf}
use Rattle.host_embedding.specs.Held.{out_of}
use Rattle.host_embedding.specs.declared.hosted_engine.HostedEngine.{HostedEngine}
use Rattle.host_embedding.specs.declared.run_handle.HeldRun.{HeldRun}
use Rattle.host_embedding.specs.declared.run_handle.HeldRun.TheVariants.{Out}
use Rattle.host_embedding.specs.declared.run_handle.RunHandle.{RunHandle}

-- ---- the runs that are out

-- The handle has a run that is out under the handle's number, with its program and in its machine.
pub record HoldsOut (runs : List LiveRun) (handle : RunHandle) : Type 0 where
  pub run : RunState
  pub number : handle.number ≡ run.number
  pub held : handle.held ≡ Out run
  pub out : IsOutWith runs run.number run.program.program run.machine

-- The handles have the runs that are out, each once and by rising number, and no others.
pub record AreOut (runs : List LiveRun) (handles : List (Box RunHandle)) : Type 0 where
  pub numbers : map (λ handle. handle.value.number) handles ≡ map (λ run. run.number) (filter (λ run. run.out) runs)
  pub out : All (λ handle. HoldsOut runs handle.value) handles

-- the first handle is taken, if there is one
abbrev pub TakesFirst : List (Box RunHandle) → Option (Box RunHandle) → List (Box RunHandle) → Type 0
TakesFirst [] result later = (result ≡ None) × (later ≡ [])
TakesFirst (first ∷ rest) result later = (result ≡ Some first) × (later ≡ rest)

-- the first run that is left is taken, if there is one, and the engine and what is counted stay as they are
abbrev pub TakesRun : HostedEngine → Option (Box RunHandle) → HostedEngine → Type 0
TakesRun old result new = TakesFirst old.left.items result new.left.items × (new.engine ≡ old.engine) × (new.metrics ≡ old.metrics)

-- ---- an engine after records

-- Just these records led the engine of the setup to where it stands. All of them are handed on, and the runs that are out then are left
-- to be taken.
pub record StandsAfter (setup : Setup) (records : List Record) (hosted : HostedEngine) : Type 0 where
  pub run : IsRun hosted.engine
  pub setup_is : hosted.engine.setup ≡ setup
  pub history : hosted.engine.history ≡ records
  pub taken : hosted.engine.taken ≡ length records
  pub left : AreOut hosted.engine.world.runs.list hosted.left.items

-- the same of an engine that begins with these lines
pub record StandsOver (config : Setup) (lines : List CarriedLine) (records : List Record) (hosted : HostedEngine) : Type 0 where
  pub world : World
  pub has : IsWorldOf config lines world
  pub stands : StandsAfter (setup_over config (Some world)) records hosted

-- ---- inside

-- the run that is out, if one is, has this number
abbrev pub IsOf : ℕ → HeldRun → Type 0
IsOf number held = IfSome (out_of held) (λ run. run.number ≡ number)

-- nothing changed, or there is one record more, of this call
abbrev pub MayRecord : EngineState → Call → EngineState → Type 0
MayRecord old call new = (new ≡ old) ⊎ ((answer : CallAnswer) × Records old new (Called answer call))

-- nothing changed, or there is one record more
abbrev pub MayGrow : EngineState → EngineState → Type 0
MayGrow old new = (new ≡ old) ⊎ ((told : Record) × Records old new told)

-- the engine keeps this record alone
pub record KeepsJust (state : EngineState) (told : Record) : Type 0 where
  pub one : length state.history ≡ state.taken + 1
  pub is : slice_index_or state.history state.taken told ≡ told

-- the record was made, and handed on
pub record Follows (old : EngineState) (told : Record) (new : EngineState) : Type 0 where
  pub setup : new.setup ≡ old.setup
  pub history : new.history ≡ old.history ++ told ∷ []
  pub taken : new.taken ≡ length new.history

-- all these records were
pub record FollowsAll (old : EngineState) (records : List Record) (new : EngineState) : Type 0 where
  pub setup : new.setup ≡ old.setup
  pub history : new.history ≡ old.history ++ records
  pub taken : new.taken ≡ length new.history

-- the runs that are left are those that are out
abbrev pub IsChecked : HostedEngine → Type 0
IsChecked hosted = IsRun hosted.engine × AreOut hosted.engine.world.runs.list hosted.left.items

-- the engine begins with these lines, and has no record
abbrev pub BeginsSo : Setup → List CarriedLine → EngineState → Type 0
BeginsSo config lines engine = (world : World) × IsWorldOf config lines world × (engine ≡ begun_with config world)

-- the handle at the one place has the run at the other place, which is out
pub record IsNextOut (runs : List LiveRun) (place : ℕ) (handles : List (Box RunHandle)) (count : ℕ) : Type 0 where
  pub within : count < length handles
  pub handle : Box RunHandle
  pub here : handle ≡ slice_index_or handles count handle
  pub number : (it : LiveRun) → HasRunAt runs place it → handle.value.number ≡ it.number
  pub out : HoldsOut runs handle.value

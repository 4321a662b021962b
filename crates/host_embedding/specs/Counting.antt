-- What is counted of the records that a host's calls make.
use Rattle.std.specs.Prelude.{◌≡◌, ◌<◌, ◌≤◌, ◌++◌, ℕ, All, List, drop, length, map, take}
use Rattle.ccb.specs.Completion.{Outcome}
use Rattle.world_calls.specs.declared.call.Call.{Call}
use Rattle.world_calls.specs.declared.call.Call.TheVariants.{Complete}
use Rattle.world_calls.specs.declared.call_answer.CallAnswer.{CallAnswer}
use Rattle.world_calls.specs.declared.record.Record.{Record}
use Rattle.world_calls.specs.declared.record.Record.TheVariants.{Advance, Called}
use Rattle.world_calls.specs.declared.record.StoppedAt.{StoppedAt}
use Rattle.world.specs.World.{World}
use Rattle.engine_core.specs.EngineState.{EngineState}
use Rattle.host_metrics.specs.Notes.{IsBefore, Note}
use Rattle.host_metrics.specs.Counted.{CountsOn, MetricsState}
use Rattle.host_metrics.specs.declared.before.Before.{Before}
use Rattle.host_embedding.specs.declared.call_result.CallResult.{CallResult}
use Rattle.host_embedding.specs.declared.call_result.CallResult.TheVariants.{Done, NoRoom, OutOfMemory}
use Rattle.host_embedding.specs.declared.counting.Noted.{Noted}
use Rattle.host_embedding.specs.declared.hosted_engine.HostedEngine.{HostedEngine}

-- a record, with what the engine had before the call that made it
abbrev pub note_of : World → Record → Note
note_of world told = record { transport = world.transport; runs = world.runs; told = told }

-- A call was counted: the records that it made, each with what the engine had before the call, and nothing else. A call that drives a run
-- makes many, whose queue is the run's.
pub record CountsRecords (old new : HostedEngine) : Type 0 where
  pub more : List Record
  pub history : new.engine.history ≡ old.engine.history ++ more
  pub counts : CountsOn (map (note_of old.engine.world) more) old.metrics new.metrics

-- the call leaves what is counted as it is, and the runs that are left to be taken
abbrev pub is_same_beside : HostedEngine → HostedEngine → Type 0
is_same_beside old new = (new.left ≡ old.left) × (new.metrics ≡ old.metrics)

-- A text that is put with this result: all of it, or nothing, and then its length is told if it finds no room. What stands after it is
-- what stood there before.
abbrev pub PutsWhole : CallResult → List ℕ → List ℕ → List ℕ → ℕ → Type 0
PutsWhole Done text before place count = (count ≡ length text) × (take count place ≡ text) × (drop count place ≡ drop count before)
PutsWhole NoRoom text before place count = (count ≡ length text) × (length before < count) × (place ≡ before)
PutsWhole OutOfMemory text before place count = (count ≡ 0) × (place ≡ before)
PutsWhole result text before place count = ⊥

-- ---- inside

-- it was noted before a call, whatever that is answered
abbrev pub IsNoted : World → Call → Before → Type 0
IsNoted world call before = (answer : CallAnswer) → IsBefore before (note_of world (Called answer call))

-- it was noted before a completion of that CCB, whatever is reported of it
abbrev pub IsNotedCcb : World → ℕ → Before → Type 0
IsNotedCcb world ccb before = (outcome : Outcome) → outcome.ccb.0 ≡ ccb → IsNoted world (Complete outcome) before

-- it was noted before an advance of that run
abbrev pub IsNotedRun : World → ℕ → Before → Type 0
IsNotedRun world run before = (instructions : ℕ) (stop : StoppedAt) (r0 : ℕ) → IsBefore before (note_of world (Advance run instructions stop r0))

-- it was noted of an engine that has so many records
pub record IsNotedOf (state : EngineState) (Is : World → Before → Type 0) (noted : Noted) : Type 0 where
  pub before : Is state.world noted.before
  pub was : noted.was ≡ length state.history
  pub within : state.taken ≤ length state.history

-- what was noted so before each of these records, they are counted
abbrev pub CountsMore : Before → List Record → MetricsState → MetricsState → Type 0
CountsMore before records old new = (world : World) → All (λ told. IsBefore before (note_of world told)) records → CountsOn (map (note_of world) records) old new

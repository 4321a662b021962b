-- An engine whose records are printed as they come, and how that goes on.
use Rattle.std.specs.Prelude.{◌≡◌, ◌+◌, ℕ, true, false, Option, Some, None, Result, Ok, Err, List, [], ◌∷◌, ◌++◌, length}
use Rattle.world_calls.specs.declared.call.Call.{Call}
use Rattle.world_calls.specs.declared.call_answer.CallAnswer.{CallAnswer}
use Rattle.world_calls.specs.declared.record.Record.{Record}
use Rattle.world_calls.specs.declared.record.StoppedAt.TheVariants.{Exit}
use Rattle.world_calls.specs.declared.record.Record.TheVariants.{Called, Advance}
use Rattle.world_calls.specs.declared.trace.Version.{Version}
use Rattle.world.specs.World.{Setup, version_of}
use Rattle.world.specs.Lawful.{IsLawful}
use Rattle.engine_core.specs.ByNumber.{NumberedState, IsAdvanceOf, IsBehind}
use Rattle.trace.specs.Growing.{Goes, StopsIn}
use Rattle.trace.specs.Sinks.{HasFailed}
use Rattle.trace.specs.TraceText.{records_text}
use Rattle.host_metrics.specs.Counted.{MetricsState}
use Rattle.host_live.specs.Metering.{IsCounted}
use Rattle.host_live.specs.declared.printed.Printed.{Printed}
use Rattle.host_live.specs.declared.printed_engine.Advanced.{Advanced}
use Rattle.host_live.specs.declared.printed_engine.Advanced.TheVariants as advanced

-- the engine, its trace as far as it went out, and what is counted
pub record PrintedState : Type 0 where
  pub engine : NumberedState
  pub printed : Printed
  pub metrics : MetricsState

-- the lines of so many records went out before
abbrev pub resumed : Version → ℕ → Printed
resumed version count = record { lines = record { version = version; waiting = [] }; count = count; has_failed = false }

-- nothing was asked since these many records, and that was counted before
abbrev pub resumed_printed : ℕ → NumberedState → MetricsState → PrintedState
resumed_printed count engine metrics = record { engine = engine; printed = resumed (version_of engine.setup) count; metrics = metrics }

-- a history of so many records led to the engine
pub record StandsBehind (count : ℕ) (engine : NumberedState) : Type 0 where
  pub records : List Record
  pub behind : IsBehind records engine
  pub counted : count ≡ length records

-- some history led to the engine, and the trace is of the version of such histories
pub record IsUnderway (engine : NumberedState) (printed : Printed) : Type 0 where
  pub lawful : IsLawful engine.setup
  pub version : printed.lines.version ≡ version_of engine.setup
  pub records : List Record
  pub behind : IsBehind records engine

-- The lines of these records went on; or a write failed at those of the first so many; or one had failed before, and nothing goes out
-- any more.
pub data Prints (before : Printed) (at : Option (List ℕ)) (failed : ℕ) (more : List Record) (after : Printed) (to : Option (List ℕ)) (fails : ℕ) : Type 0 where
  went : before.has_failed ≡ false → after.has_failed ≡ false → Goes (records_text before.lines.version more) before.lines.waiting at after.lines.waiting to → fails ≡ failed → Prints before at failed more after to fails
  stopped : before.has_failed ≡ false → after.has_failed ≡ true → (shown rest : List Record) → more ≡ shown ++ rest → StopsIn (records_text before.lines.version shown) before.lines.waiting at to → HasFailed failed fails → Prints before at failed more after to fails
  stayed : before.has_failed ≡ true → after.has_failed ≡ true → to ≡ at → fails ≡ failed → Prints before at failed more after to fails

-- these records were printed so, and counted
pub record PrintsAll (before : Printed) (at : Option (List ℕ)) (failed : ℕ) (more : List Record) (after : Printed) (to : Option (List ℕ)) (fails : ℕ) : Type 0 where
  pub version : after.lines.version ≡ before.lines.version
  pub count : after.count ≡ before.count + length more
  pub prints : Prints before at failed more after to fails

-- These records more led to the engine, whatever history was, they were printed, and they were counted.
pub record GrowsBy (more : List Record) (old : PrintedState) (at : Option (List ℕ)) (failed : ℕ) (new : PrintedState) (to : Option (List ℕ)) (fails : ℕ) : Type 0 where
  pub setup : new.engine.setup ≡ old.engine.setup
  pub follows : (records : List Record) → IsBehind records old.engine → IsBehind (records ++ more) new.engine
  pub printed : PrintsAll old.printed at failed more new.printed to fails
  pub counted : IsCounted old.engine old.metrics more new.engine new.metrics

-- some records more, of which that holds
pub record GrowsAs (These : List Record → Type 0) (old : PrintedState) (at : Option (List ℕ)) (failed : ℕ) (new : PrintedState) (to : Option (List ℕ)) (fails : ℕ) : Type 0 where
  pub more : List Record
  pub these : These more
  pub by : GrowsBy more old at failed new to fails

-- the record of a call that was answered; none if it is no event, or if memory was refused
abbrev pub record_of_call : {E : Type 0} → Call → Result (Option CallAnswer) E → List Record
record_of_call call (Ok (Some answer)) = Called answer call ∷ []
record_of_call call (Ok None) = []
record_of_call call (Err fault) = []

-- the record of a run's exit
pub record IsExit (told : Record) : Type 0 where
  pub run : ℕ
  pub instructions : ℕ
  pub r0 : ℕ
  pub is : told ≡ Advance run instructions Exit r0

-- what an advance of this run made: one record of it, at last of its exit; or none where it is not out
abbrev pub IsMadeBy : ℕ → Advanced → List Record → Type 0
IsMadeBy run advanced.NotOut more = more ≡ []
IsMadeBy run advanced.Goes more = (told : Record) × IsAdvanceOf run told × (more ≡ told ∷ [])
IsMadeBy run advanced.Ended more = (told : Record) × IsAdvanceOf run told × IsExit told × (more ≡ told ∷ [])

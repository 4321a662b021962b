-- What the texts of a manifest and of a trace lead to.
use Rattle.std.specs.Prelude.{◌≡◌, ◌<◌, ◌⊎◌, ℕ, Bool, true, false, Option, None, Some, List, length, Result, Ok, Err, IsUtf8, ⊤}
use Rattle.std.specs.Global.{Box}
use Rattle.base.specs.declared.or_memory.OrMemory.{OrMemory}
use Rattle.base.specs.declared.or_memory.OrMemory.TheVariants as memory
use Rattle.world_calls.specs.declared.carried_line.CarriedLine.{CarriedLine}
use Rattle.world_calls.specs.declared.record.Record.{Record}
use Rattle.world_calls.specs.declared.trace.Trace.{Trace}
use Rattle.world.specs.World.{Setup, version_of}
use Rattle.manifest.specs.Meaning.{Named, Means, HasFault}
use Rattle.whole_trace.specs.Continued.{items_of}
use Rattle.trace_front.specs.Front.{SaysFront}
use Rattle.trace_front.specs.declared.front.TraceFront.{TraceFront}
use Rattle.replay.specs.Continued.{IsContinuedTraceOf, IsFaultyContinuedAt, ReplaysContinued}
use Rattle.replay.specs.Replaying.{IsFaultyAt, IsTraceOf, Replays}
use Rattle.replay.specs.declared.fault.ReplayFault.{ReplayFault}
use Rattle.replay.specs.declared.fault.ReplayFault.TheVariants.{Header, Carried, Behind}
use Rattle.host_embedding.specs.Recovering.{StandsAfter, StandsOver}
use Rattle.host_embedding.specs.declared.hosted_engine.HostedEngine.{HostedEngine}
use Rattle.host_opening.specs.Opened.{none_counted}
use Rattle.host_opening.specs.declared.recovering.RecoverFault.{RecoverFault}
use Rattle.host_opening.specs.declared.recovering.RecoverFault.TheVariants.{OutOfMemory, NotUtf8, Manifest, Form, Replay}

-- ---- the verdict on a trace

-- the trace, with its carried lines if it has some, is a history of the configuration, with its sums
abbrev pub IsAccepted : Setup → Option (List CarriedLine) → Trace → Type 0
IsAccepted config None trace = IsTraceOf config trace
IsAccepted config (Some lines) trace = IsContinuedTraceOf config lines trace

-- this line of it is the first that does not follow
abbrev pub IsRejected : Setup → Option (List CarriedLine) → Trace → ReplayFault → Type 0
IsRejected config None trace fault = IsFaultyAt config 0 trace fault
IsRejected config (Some lines) trace fault = IsFaultyContinuedAt config lines trace fault

-- the line at fault is one of those that there are, if the last line is missing after so many records
abbrev pub IsThere : Bool → ℕ → ReplayFault → Type 0
IsThere true count fault = Unit {0}
IsThere false count Header = Unit {0}
IsThere false count (Carried lines) = Unit {0}
IsThere false count (Behind lines records) = records < count

-- the trace is of the configuration's version, and if its last line is there, it is accepted
pub record IsFollowed (config : Setup) (front : TraceFront) : Type 0 where
  pub version : front.whole.trace.version ≡ version_of config
  pub accepted : front.is_ended ≡ true → IsAccepted config (items_of front.whole.carried) front.whole.trace

-- a line of the trace that is there is the first that does not follow
pub record IsUnfollowed (config : Setup) (front : TraceFront) (fault : ReplayFault) : Type 0 where
  pub rejected : IsRejected config (items_of front.whole.carried) front.whole.trace fault
  pub there : IsThere front.is_ended (length front.whole.trace.records.items) fault

-- ---- the engine

-- the engine stands where the records lead, from the opening of the configuration or from what the carried lines say
abbrev pub StandsSo : Setup → Option (List CarriedLine) → List Record → HostedEngine → Type 0
StandsSo config None records hosted = StandsAfter config records hosted
StandsSo config (Some lines) records hosted = StandsOver config lines records hosted

-- The text is that of a trace, as far as it was written, whose lines follow, and the engine stands where they lead. Nothing is counted.
pub record IsRecoveredBy (config : Setup) (text : List ℕ) (hosted : HostedEngine) : Type 0 where
  pub front : TraceFront
  pub read : SaysFront text (Ok front)
  pub followed : IsFollowed config front
  pub stands : StandsSo config (items_of front.whole.carried) front.whole.trace.records.items hosted
  pub metrics : hosted.metrics ≡ none_counted

-- such an engine, or why there is none; want of memory says nothing
abbrev pub RecoversBy : Setup → List ℕ → Result (Box HostedEngine) RecoverFault → Type 0
RecoversBy config text (Ok handle) = IsRecoveredBy config text handle.value
RecoversBy config text (Err OutOfMemory) = ⊤
RecoversBy config text (Err NotUtf8) = ¬ (IsUtf8 text)
RecoversBy config text (Err (Manifest fault)) = ⊥
RecoversBy config text (Err (Form fault)) = SaysFront text (Err (memory.Fault fault))
RecoversBy config text (Err (Replay fault)) = (front : TraceFront) × SaysFront text (Ok front) × IsUnfollowed config front fault

-- the same of the configuration that the manifest's text means, or why it means none
abbrev pub Recovers : List ℕ → List ℕ → Result (Box HostedEngine) RecoverFault → Type 0
Recovers manifest text (Err OutOfMemory) = ⊤
Recovers manifest text (Err NotUtf8) = ¬ (IsUtf8 manifest) ⊎ ((config : Setup) × (programs : List Named) × Means manifest config programs × ¬ (IsUtf8 text))
Recovers manifest text (Err (Manifest fault)) = HasFault manifest fault
Recovers manifest text (Err (Form fault)) = (config : Setup) × (programs : List Named) × Means manifest config programs × RecoversBy config text (Err (Form fault))
Recovers manifest text (Err (Replay fault)) = (config : Setup) × (programs : List Named) × Means manifest config programs × RecoversBy config text (Err (Replay fault))
Recovers manifest text (Ok handle) = (config : Setup) × (programs : List Named) × Means manifest config programs × RecoversBy config text (Ok handle)

-- ---- inside

-- the front was read, or why not
abbrev pub IsReadFront : List ℕ → Result TraceFront RecoverFault → Type 0
IsReadFront text (Ok front) = SaysFront text (Ok front)
IsReadFront text (Err OutOfMemory) = ⊤
IsReadFront text (Err NotUtf8) = ¬ (IsUtf8 text)
IsReadFront text (Err (Form fault)) = SaysFront text (Err (memory.Fault fault))
IsReadFront text (Err fault) = ⊥

-- what a replay says
abbrev pub Follows : Setup → Option (List CarriedLine) → Trace → Result (Unit {0}) (OrMemory ReplayFault) → Type 0
Follows config None trace result = Replays config 0 trace result
Follows config (Some lines) trace result = ReplaysContinued config lines trace result

-- the verdict on what is there
abbrev pub Judges : Setup → TraceFront → Result (Unit {0}) (OrMemory ReplayFault) → Type 0
Judges config front (Ok done) = IsFollowed config front
Judges config front (Err memory.OutOfMemory) = Unit {0}
Judges config front (Err (memory.Fault fault)) = IsUnfollowed config front fault

-- the fault is that of the line after so many records, or of one before it
abbrev pub IsAtEnd : Bool → ReplayFault → ℕ → Type 0
IsAtEnd true fault count = (lines : ℕ) × (records : ℕ) × (fault ≡ Behind lines records)
IsAtEnd false fault count = IsThere false count fault

-- a fault that a replay told is that of a last line that is missing, or is the verdict
abbrev pub IsJudgedSo : TraceFront → ReplayFault → Result (Unit {0}) (OrMemory ReplayFault) → Type 0
IsJudgedSo front fault (Ok done) = (front.is_ended ≡ false) × ((lines : ℕ) × (records : ℕ) × (fault ≡ Behind lines records))
IsJudgedSo front fault (Err memory.OutOfMemory) = ⊥
IsJudgedSo front fault (Err (memory.Fault other)) = (other ≡ fault) × IsThere front.is_ended (length front.whole.trace.records.items) fault

-- the engine that stands so and of which nothing is counted, or want of memory
abbrev pub StandsBy : Setup → TraceFront → Result (Box HostedEngine) RecoverFault → Type 0
StandsBy config front (Ok handle) = StandsSo config (items_of front.whole.carried) front.whole.trace.records.items handle.value × (handle.value.metrics ≡ none_counted)
StandsBy config front (Err OutOfMemory) = ⊤
StandsBy config front (Err fault) = ⊥

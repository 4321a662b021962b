-- What a manifest's text opens.
use Rattle.std.specs.Prelude.{◌≡◌, List, [], ℕ, Result, Ok, Err, IsUtf8, ⊤}
use Rattle.std.specs.Global.{Box}
use Rattle.world.specs.World.{Setup}
use Rattle.engine_carried.specs.declared.numbering.Numbering.{Numbering}
use Rattle.engine_core.specs.EngineState.{EngineState, opened}
use Rattle.manifest.specs.Meaning.{Named, Means, HasFault}
use Rattle.manifest.specs.declared.fault.ManifestFault.{ManifestFault}
use Rattle.host_metrics.specs.Counted.{MetricsState, zero_metrics}
use Rattle.host_embedding.specs.Succession.{IsSucceeded}
use Rattle.host_embedding.specs.declared.hosted_engine.HostedEngine.{HostedEngine}
use Rattle.host_embedding.specs.declared.call_result.CallResult.{CallResult}
use Rattle.host_embedding.specs.declared.call_result.CallResult.TheVariants as results
use Rattle.host_opening.specs.declared.opening.OpenFault.{OpenFault}
use Rattle.host_opening.specs.declared.opening.OpenFault.TheVariants.{OutOfMemory, NotUtf8, Manifest}

-- an engine of the setup that the text means, with an empty history
abbrev pub IsEngineOf : List ℕ → EngineState → Type 0
IsEngineOf text engine = (setup : Setup) × (programs : List Named) × Means text setup programs × (engine ≡ opened setup)

-- why a text is not read, memory aside
abbrev pub IsUnread : List ℕ → OpenFault → Type 0
IsUnread text OutOfMemory = ⊤
IsUnread text NotUtf8 = ¬ (IsUtf8 text)
IsUnread text (Manifest fault) = HasFault text fault

-- the setup that the text means, or why it means none
abbrev pub IsRead : List ℕ → Result Setup OpenFault → Type 0
IsRead text (Ok setup) = (programs : List Named) × Means text setup programs
IsRead text (Err fault) = IsUnread text fault

-- nothing is counted: each counter is 0
unfoldable pub none_counted : MetricsState
none_counted = zero_metrics

-- such an engine, of which no run is to be taken and nothing is counted, or why there is none
abbrev pub Opens : List ℕ → Result (Box HostedEngine) OpenFault → Type 0
Opens text (Ok handle) = IsEngineOf text handle.value.engine × (handle.value.left.items ≡ []) × (handle.value.metrics ≡ none_counted)
Opens text (Err fault) = IsUnread text fault

-- no run is live, and nothing changed
abbrev pub IsKept : EngineState → EngineState → Type 0
IsKept old new = (old.world.runs.list ≡ []) × (new ≡ old)

-- a result of a succession to an engine of the setup that the text means
abbrev pub IsSucceededBy : List ℕ → CallResult → Numbering → EngineState → EngineState → Type 0
IsSucceededBy text result numbering old new = (setup : Setup) × (programs : List Named) × Means text setup programs × IsSucceeded result numbering old setup new

-- A succession by a text, with a result, or with the fault of the text. If a run is live that is the result, whatever the text is; else the
-- text's own faults come first. Where memory was refused the text may not have been read.
abbrev pub Succeeds : Numbering → List ℕ → Result CallResult ManifestFault → EngineState → EngineState → Type 0
Succeeds numbering text (Ok results.Done) old new = IsSucceededBy text results.Done numbering old new
Succeeds numbering text (Ok results.RunsLive) old new = (old.world.runs.list ≡ [] → ⊥) × (new ≡ old)
Succeeds numbering text (Ok results.DoesNotFit) old new = IsSucceededBy text results.DoesNotFit numbering old new
Succeeds numbering text (Ok results.OutOfMemory) old new = IsKept old new
Succeeds numbering text (Ok results.NotUtf8) old new = ¬ (IsUtf8 text) × IsKept old new
Succeeds numbering text (Ok result) old new = ⊥
Succeeds numbering text (Err fault) old new = HasFault text fault × IsKept old new

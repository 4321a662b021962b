-- What a result says of a succession.
use Rattle.std.specs.Prelude.{◌≡◌, ◌≢◌, None}
use Rattle.world.specs.World.{Setup}
use Rattle.engine_carried.specs.TakenOver.{taken_over}
use Rattle.engine_carried.specs.declared.numbering.Numbering.{Numbering}
use Rattle.engine_core.specs.EngineState.{EngineState}
use Rattle.engine_core.specs.Settings.{begun_with, setup_over}
use Rattle.engine_succession.specs.Succession.{IsNotFollowed, MayBeFollowed}
use Rattle.engine_succession.specs.declared.succession.SuccessionFault.TheVariants as faults
use Rattle.host_embedding.specs.declared.call_result.CallResult.{CallResult}
use Rattle.host_embedding.specs.declared.call_result.CallResult.TheVariants.{DoesNotFit, Done, OutOfMemory, RunsLive}

-- the configuration that an engine was opened with, of itself
abbrev pub configuration : EngineState → Setup
configuration state = setup_over state.setup None

-- A succession with this result: done, the engine may be followed, and the new one begins with just what it leaves. If it is refused, the
-- engine is as before, and of the refusals that hold this is the first.
abbrev pub IsSucceeded : CallResult → Numbering → EngineState → Setup → EngineState → Type 0
IsSucceeded Done numbering old config new = MayBeFollowed old config × (new ≡ begun_with config (taken_over numbering old.setup config old.world))
IsSucceeded RunsLive numbering old config new = IsNotFollowed old config faults.RunLive × (new ≡ old)
IsSucceeded DoesNotFit numbering old config new = IsNotFollowed old config faults.DoesNotFit × (new ≡ old)
IsSucceeded OutOfMemory numbering old config new = IsNotFollowed old config faults.OutOfMemory × (new ≡ old)
IsSucceeded result numbering old config new = ⊥

-- the same with the configuration in force, which is the engine's own, and always fits
abbrev pub IsRenewed : CallResult → Numbering → EngineState → EngineState → Type 0
IsRenewed result numbering old new = IsSucceeded result numbering old (configuration old) new × (result ≢ DoesNotFit)

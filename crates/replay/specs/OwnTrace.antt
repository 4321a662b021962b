-- What an engine's trace is to a replay.
use Rattle.std.specs.Prelude.{◌≡◌, ◌⊎◌, Result, Ok, Err}
use Rattle.world_calls.specs.declared.trace.Trace.{Trace}
use Rattle.world.specs.World.{version_of}
use Rattle.world.specs.TotalsOf.{TotalsOf}
use Rattle.base.specs.declared.or_memory.OrMemory.{OrMemory}
use Rattle.base.specs.declared.or_memory.OrMemory.TheVariants.{OutOfMemory}
use Rattle.engine_core.specs.EngineState.{EngineState}
use Rattle.replay.specs.declared.fault.ReplayFault.{ReplayFault}
use Rattle.replay.specs.Replaying.{Replays}

-- Of an engine's setup, with a trace that is of its version and has its whole history and the sums of that, as it gives one when it is
-- shut, a replay says that the trace is accepted, memory aside.
abbrev pub OwnTraceIsAccepted : Type 0
OwnTraceIsAccepted = (engine : EngineState) (trace : Trace) (verdict : Result (Unit {0}) (OrMemory ReplayFault))
    → trace.version ≡ version_of engine.setup → trace.records.items ≡ engine.history → TotalsOf engine.setup engine.history trace.totals
    → Replays engine.setup 0 trace verdict → (verdict ≡ Ok (tt {0})) ⊎ (verdict ≡ Err OutOfMemory)

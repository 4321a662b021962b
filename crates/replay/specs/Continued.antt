-- What a replay says of a continued trace.
use Rattle.std.specs.Prelude.{◌≡◌, ◌≢◌, Some, List, length, Result, Ok, Err}
use Rattle.base.specs.declared.or_memory.OrMemory.{OrMemory}
use Rattle.base.specs.declared.or_memory.OrMemory.TheVariants.{OutOfMemory, Fault}
use Rattle.world_calls.specs.declared.carried_line.CarriedLine.{CarriedLine}
use Rattle.world_calls.specs.declared.trace.Trace.{Trace}
use Rattle.world.specs.World.{Setup, World, version_of}
use Rattle.engine_core.specs.Settings.{setup_over}
use Rattle.engine_succession.specs.FromLines.{IsRefused, IsWorldOf}
use Rattle.engine_succession.specs.declared.beginning.BeginFault.TheVariants.{DoesNotFit}
use Rattle.replay.specs.Replaying.{IsFaultyAt, IsTraceOf}
use Rattle.replay.specs.declared.fault.ReplayFault.{ReplayFault}
use Rattle.replay.specs.declared.fault.ReplayFault.TheVariants.{Header, Carried, Behind}

-- The lines are those of one world that an engine of the configuration may take over, and the trace is a history from there, with its sums.
pub record IsContinuedTraceOf (config : Setup) (lines : List CarriedLine) (trace : Trace) : Type 0 where
  pub world : World
  pub has : IsWorldOf config lines world
  pub is : IsTraceOf (setup_over config (Some world)) trace

-- the trace does not follow from that world
pub record IsFaultyFrom (config : Setup) (lines : List CarriedLine) (trace : Trace) (fault : ReplayFault) : Type 0 where
  pub world : World
  pub has : IsWorldOf config lines world
  pub is : IsFaultyAt (setup_over config (Some world)) (length lines) trace fault

-- This line is the first that does not follow: the header, which is of another version; else a carried line, with which no engine of
-- the configuration begins; else one of those after the carried lines.
abbrev pub IsFaultyContinuedAt : Setup → List CarriedLine → Trace → ReplayFault → Type 0
IsFaultyContinuedAt config lines trace Header = trace.version ≢ version_of config
IsFaultyContinuedAt config lines trace (Carried count) = (trace.version ≡ version_of config) × IsRefused config lines (DoesNotFit count)
IsFaultyContinuedAt config lines trace (Behind carried records) = IsFaultyFrom config lines trace (Behind carried records)

-- what a replay says; want of memory says nothing
abbrev pub ReplaysContinued : Setup → List CarriedLine → Trace → Result (Unit {0}) (OrMemory ReplayFault) → Type 0
ReplaysContinued config lines trace (Ok done) = IsContinuedTraceOf config lines trace
ReplaysContinued config lines trace (Err OutOfMemory) = Unit {0}
ReplaysContinued config lines trace (Err (Fault fault)) = IsFaultyContinuedAt config lines trace fault

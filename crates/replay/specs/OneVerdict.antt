-- A replay has one verdict: what of that is a law.
use Rattle.std.specs.Prelude.{◌≡◌, ℕ, List}
use Rattle.world_calls.specs.declared.carried_line.CarriedLine.{CarriedLine}
use Rattle.world_calls.specs.declared.trace.Trace.{Trace}
use Rattle.world.specs.World.{Setup}
use Rattle.replay.specs.Continued.{IsContinuedTraceOf, IsFaultyContinuedAt}
use Rattle.replay.specs.Replaying.{IsFaultyAt, IsTraceOf}
use Rattle.replay.specs.declared.fault.ReplayFault.{ReplayFault}

-- No other line is the first that does not follow, and where there is one the trace is not accepted.
abbrev pub OneVerdict : Type 0
OneVerdict = ((setup : Setup) (lines : ℕ) (trace : Trace) (fault other : ReplayFault) → IsFaultyAt setup lines trace fault → IsFaultyAt setup lines trace other → fault ≡ other)
    × ((setup : Setup) (lines : ℕ) (trace : Trace) (fault : ReplayFault) → IsFaultyAt setup lines trace fault → IsTraceOf setup trace → ⊥)

-- The same of continued traces.
abbrev pub OneContinuedVerdict : Type 0
OneContinuedVerdict = ((config : Setup) (lines : List CarriedLine) (trace : Trace) (fault other : ReplayFault)
    → IsFaultyContinuedAt config lines trace fault → IsFaultyContinuedAt config lines trace other → fault ≡ other)
    × ((config : Setup) (lines : List CarriedLine) (trace : Trace) (fault : ReplayFault) → IsFaultyContinuedAt config lines trace fault → IsContinuedTraceOf config lines trace → ⊥)

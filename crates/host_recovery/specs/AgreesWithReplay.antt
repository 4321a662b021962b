-- What recovery says of a whole trace: what of that is a law.
use Rattle.std.specs.Prelude.{◌≡◌, ℕ, Option, Some, None, Result, Ok, Err, List}
use Rattle.base.specs.declared.or_memory.OrMemory.{OrMemory}
use Rattle.base.specs.declared.or_memory.OrMemory.TheVariants.{OutOfMemory, Fault}
use Rattle.world_calls.specs.declared.carried_line.CarriedLine.{CarriedLine}
use Rattle.world_calls.specs.declared.trace.Trace.{Trace}
use Rattle.world.specs.World.{Setup}
use Rattle.trace.specs.declared.fault.TraceFault.TheVariants.{Line}
use Rattle.replay.specs.Continued.{IsContinuedTraceOf, IsFaultyContinuedAt}
use Rattle.replay.specs.Replaying.{IsFaultyAt, IsTraceOf}
use Rattle.replay.specs.declared.fault.ReplayFault.{ReplayFault}
use Rattle.whole_trace.specs.WholeText.{AreOrdered, SaysWhole, whole_text}
use Rattle.host_recovery.specs.Recovering.{Recovers}
use Rattle.host_recovery.specs.Segments.{IsBrokenIn}
use Rattle.host_recovery.specs.declared.fault.RecoveryFault.{RecoveryFault}
use Rattle.host_recovery.specs.declared.fault.RecoveryFault.TheVariants.{Unread, TooLong, Form, Unfollowed}
use Rattle.host_recovery.specs.declared.recovering.Recovered.{Recovered}

-- a replay of the trace, with these carried lines if there are any, accepts it
abbrev pub IsAccepted : Setup → Option (List CarriedLine) → Trace → Type 0
IsAccepted config None trace = IsTraceOf config trace
IsAccepted config (Some lines) trace = IsContinuedTraceOf config lines trace

-- or says that this line is the first that does not follow
abbrev pub IsNotAccepted : Setup → Option (List CarriedLine) → Trace → ReplayFault → Type 0
IsNotAccepted config None trace fault = IsFaultyAt config 0 trace fault
IsNotAccepted config (Some lines) trace fault = IsFaultyContinuedAt config lines trace fault

-- what a replay says of the trace
abbrev pub IsVerdictOn : Setup → Option (List CarriedLine) → Trace → Result Recovered (OrMemory RecoveryFault) → Type 0
IsVerdictOn config carried trace (Ok recovered) = IsAccepted config carried trace
IsVerdictOn config carried trace (Err OutOfMemory) = Unit {0}
IsVerdictOn config carried trace (Err (Fault Unread)) = Unit {0}
IsVerdictOn config carried trace (Err (Fault TooLong)) = Unit {0}
IsVerdictOn config carried trace (Err (Fault (Form fault))) = ⊥
IsVerdictOn config carried trace (Err (Fault (Unfollowed fault))) = IsNotAccepted config carried trace fault

-- Of the text of a trace, with carried lines or without, recovery says what a replay of the trace says; and a line that is not of the form is
-- told with the number that a reader of the text tells.
abbrev pub AgreesWithReplay : Type 0
AgreesWithReplay = ((config : Setup) (carried : Option (List CarriedLine)) (trace : Trace) (text : List ℕ) (result : Result Recovered (OrMemory RecoveryFault))
    → AreOrdered carried → whole_text carried trace ≡ Some text → Recovers config text result → IsVerdictOn config carried trace result)
    × ((text : List ℕ) (number other : ℕ) → IsBrokenIn text number → SaysWhole text (Err (Fault (Line other))) → number ≡ other)

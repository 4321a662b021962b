-- What a crash may leave of a segment is recovered: what of that is a law.
use Rattle.std.specs.Prelude.{◌≡◌, ◌≤◌, ◌⊎◌, ℕ, Option, Some, Result, Ok, Err, List, ◌++◌, length, take}
use Rattle.std.specs.Fmt.{option_append}
use Rattle.base.specs.declared.or_memory.OrMemory.{OrMemory}
use Rattle.base.specs.declared.or_memory.OrMemory.TheVariants.{OutOfMemory, Fault}
use Rattle.world_calls.specs.declared.carried_line.CarriedLine.{CarriedLine}
use Rattle.world_calls.specs.declared.record.Record.{Record}
use Rattle.world_calls.specs.declared.totals.Totals.{Totals}
use Rattle.world.specs.World.{Setup, version_of}
use Rattle.world.specs.TotalsOf.{TotalsOf}
use Rattle.engine_core.specs.ByNumber.{IsBehind}
use Rattle.trace.specs.TraceText.{lines_text, records_text, totals_text}
use Rattle.host_recovery.specs.LinesRead.{IsOneLine}
use Rattle.host_recovery.specs.Recovering.{Recovers}
use Rattle.host_recovery.specs.Segments.{head_text}
use Rattle.host_recovery.specs.SetupFor.{IsSetupFor, carried_count}
use Rattle.host_recovery.specs.declared.fault.RecoveryFault.{RecoveryFault}
use Rattle.host_recovery.specs.declared.fault.RecoveryFault.TheVariants.{Unread, TooLong, Form, Unfollowed}
use Rattle.host_recovery.specs.declared.recovering.Recovered.{Recovered}

-- The engine is of that setup, and it is where those of these records lead whose lines stand whole in the front: after them there is no line
-- feed any more, or they are all, and there is the last line.
pub record IsBehindWhole (setup : Setup) (carried : Option (List CarriedLine)) (records : List Record) (totals : Totals) (front : List ℕ) (recovered : Recovered) : Type 0 where
  pub setup_is : recovered.engine.setup ≡ setup
  pub lines : recovered.carried ≡ carried_count carried
  pub count : ℕ
  pub within : count ≤ length records
  pub behind : IsBehind (take count records) recovered.engine
  pub rest : List ℕ
  pub whole : option_append (head_text (version_of setup) carried) (option_append (records_text (version_of setup) (take count records)) (Some rest)) ≡ Some front
  pub left : IsOneLine rest ⊎ ((count ≡ length records) × (totals_text totals ≡ Some rest))

-- what is said of a front: no fault but of memory, of the source and of what is more than can be read
abbrev pub IsTakenUp : Setup → Option (List CarriedLine) → List Record → Totals → List ℕ → Result Recovered (OrMemory RecoveryFault) → Type 0
IsTakenUp setup carried records totals front (Ok recovered) = IsBehindWhole setup carried records totals front recovered
IsTakenUp setup carried records totals front (Err OutOfMemory) = Unit {0}
IsTakenUp setup carried records totals front (Err (Fault Unread)) = Unit {0}
IsTakenUp setup carried records totals front (Err (Fault TooLong)) = Unit {0}
IsTakenUp setup carried records totals front (Err (Fault (Form fault))) = ⊥
IsTakenUp setup carried records totals front (Err (Fault (Unfollowed fault))) = ⊥

-- In the text of any history of an engine of the setup, which took over nothing, or what its carried lines say, with the history's sums, any
-- front that has the first line and all carried lines.
abbrev pub RecoversFromAnyFront : Type 0
RecoversFromAnyFront =
    (config setup : Setup) (carried : Option (List CarriedLine)) (records : List Record) (totals : Totals) (head text front rest : List ℕ) (result : Result Recovered (OrMemory RecoveryFault))
    → IsSetupFor config carried setup → TotalsOf setup records totals
    → head_text (version_of setup) carried ≡ Some head → option_append (Some head) (lines_text (version_of setup) records totals) ≡ Some text
    → text ≡ front ++ rest → length head ≤ length front → Recovers config front result → IsTakenUp setup carried records totals front result

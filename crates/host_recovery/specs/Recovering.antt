-- What recovery says of a segment: the records whose lines stand there whole, and an engine that they lead to; or the first line that is at
-- fault.
use Rattle.std.specs.Prelude.{◌≡◌, ◌≢◌, ◌+◌, ◌≤◌, ℕ, Option, Some, None, is_some, Result, Ok, Err, List, [], ◌∷◌, ◌++◌, length}
use Rattle.base.specs.declared.or_memory.OrMemory.{OrMemory}
use Rattle.base.specs.declared.or_memory.OrMemory.TheVariants.{OutOfMemory, Fault}
use Rattle.world_calls.specs.declared.carried_line.CarriedLine.{CarriedLine}
use Rattle.world_calls.specs.declared.record.Record.{Record}
use Rattle.world_calls.specs.declared.totals.Totals.{Totals}
use Rattle.world_calls.specs.declared.trace.Version.{Version}
use Rattle.world.specs.World.{Setup, version_of}
use Rattle.world.specs.Lawful.{IsLawful}
use Rattle.world.specs.TotalsOf.{TotalsOf}
use Rattle.engine_core.specs.ByNumber.{NumberedState, IsBehind, IsHistory, sums_behind}
use Rattle.engine_succession.specs.FromLines.{IsRefused}
use Rattle.engine_succession.specs.declared.beginning.BeginFault.TheVariants.{DoesNotFit}
use Rattle.trace.specs.Sinks.{HasFailed}
use Rattle.trace.specs.declared.fault.TraceFault.TheVariants.{Header as NoHeader, Line}
use Rattle.whole_trace.specs.WholeText.{HasNoHeader}
use Rattle.replay.specs.declared.fault.ReplayFault.{ReplayFault}
use Rattle.replay.specs.declared.fault.ReplayFault.TheVariants.{Header, Carried, Behind}
use Rattle.host_recovery.specs.Segments.{IsBrokenIn, IsSegment}
use Rattle.host_recovery.specs.SetupFor.{IsSetupFor, carried_count}
use Rattle.host_recovery.specs.Sources.{IsAll}
use Rattle.host_recovery.specs.declared.recovering.TheConstants.{MOST_WHOLE}
use Rattle.host_recovery.specs.declared.recovering.Recovered.{Recovered}
use Rattle.host_recovery.specs.declared.fault.RecoveryFault.{RecoveryFault}
use Rattle.host_recovery.specs.declared.fault.RecoveryFault.TheVariants.{Unread, TooLong, Form, Unfollowed}

-- The line after so many records is the first that does not follow: the records before it lead from the beginning, and with it nothing does;
-- or it is the last line, and has not their sums.
pub data StopsBehind (setup : Setup) (records : List Record) (sums : Option Totals) (count : ℕ) : Type 0 where
  at_record : (front : List Record) (entry : Record) (more : List Record) → records ≡ front ++ entry ∷ more → count ≡ length front → IsHistory setup front → (IsHistory setup (front ++ entry ∷ []) → ⊥) → StopsBehind setup records sums count
  at_end : (totals : Totals) → sums ≡ Some totals → count ≡ length records → IsHistory setup records → (TotalsOf setup records totals → ⊥) → StopsBehind setup records sums count

-- An engine of the configuration begins with the carried lines, and stops so.
pub record StopsAfter (config : Setup) (carried : Option (List CarriedLine)) (records : List Record) (sums : Option Totals) (count : ℕ) : Type 0 where
  pub setup : Setup
  pub is_setup : IsSetupFor config carried setup
  pub stops : StopsBehind setup records sums count

-- the carried line at this place is the first one with which no engine of the configuration begins
abbrev pub IsCarriedFault : Setup → Option (List CarriedLine) → ℕ → Type 0
IsCarriedFault config None place = ⊥
IsCarriedFault config (Some lines) place = IsRefused config lines (DoesNotFit place)

-- This line is the first that does not follow: the first of all, which is of another version than the configuration; else a carried line; else
-- one after the carried lines.
abbrev pub IsUnfollowed : Setup → Version → Option (List CarriedLine) → List Record → Option Totals → ReplayFault → Type 0
IsUnfollowed config version carried records sums Header = version ≢ version_of config
IsUnfollowed config version carried records sums (Carried place) = (version ≡ version_of config) × IsCarriedFault config carried place
IsUnfollowed config version carried records sums (Behind lines count) = (version ≡ version_of config) × StopsAfter config carried records sums count × (lines ≡ carried_count carried)

-- the last line, if it is there, has the sums after so many records
abbrev pub AreSums : Option Totals → ℕ → NumberedState → Type 0
AreSums None count engine = Unit {0}
AreSums (Some totals) count engine = totals ≡ sums_behind count engine

-- The engine is of the setup that the configuration and the carried lines make, the records of a segment lead to it, and what is told of the
-- segment is so.
pub record IsRecovered (config : Setup) (text : List ℕ) (recovered : Recovered) : Type 0 where
  pub carried : Option (List CarriedLine)
  pub records : List Record
  pub sums : Option Totals
  pub torn : List ℕ
  pub segment : IsSegment (version_of config) carried text records sums torn
  pub lawful : IsLawful config
  pub setup_is : IsSetupFor config carried recovered.engine.setup
  pub behind : IsBehind records recovered.engine
  pub are_sums : AreSums sums (length records) recovered.engine
  pub lines : recovered.carried ≡ carried_count carried
  pub count : recovered.records ≡ length records
  pub whole : recovered.whole + length torn ≡ length text
  pub ended : recovered.is_ended ≡ is_some sums

-- What recovery says of a text. Want of memory and a read that failed say nothing.
abbrev pub Recovers : Setup → List ℕ → Result Recovered (OrMemory RecoveryFault) → Type 0
Recovers config text (Ok recovered) = IsRecovered config text recovered
Recovers config text (Err OutOfMemory) = Unit {0}
Recovers config text (Err (Fault Unread)) = Unit {0}
Recovers config text (Err (Fault TooLong)) = MOST_WHOLE ≤ length text
Recovers config text (Err (Fault (Form NoHeader))) = HasNoHeader text
Recovers config text (Err (Fault (Form (Line number)))) = IsBrokenIn text number
Recovers config text (Err (Fault (Unfollowed fault))) =
    (version : Version) × (carried : Option (List CarriedLine)) × (records : List Record) × (sums : Option Totals) × (torn : List ℕ)
    × IsSegment version carried text records sums torn × IsUnfollowed config version carried records sums fault

-- that is said of all that a source was to give
abbrev pub Answers : Setup → Option (List ℕ) → Result Recovered (OrMemory RecoveryFault) → Type 0
Answers config remaining result = (text : List ℕ) × IsAll remaining text × Recovers config text result

-- a read failed exactly if that is told
abbrev pub ReadsBy : {T : Type 0} → ℕ → Result T (OrMemory RecoveryFault) → ℕ → Type 0
ReadsBy failed (Err (Fault Unread)) fails = HasFailed failed fails
ReadsBy failed result fails = fails ≡ failed

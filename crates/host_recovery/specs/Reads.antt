-- A segment as far as it was read, after its carried lines.
use Rattle.std.specs.Prelude.{◌≡◌, ◌+◌, ◌<◌, ℕ, Bool, true, false, Option, Some, None, IfSome, is_some, Result, Ok, Err, List, [], ◌∷◌, ◌++◌, length}
use Rattle.std.specs.List.{AllByRecursion}
use Rattle.std.specs.Fmt.{option_append}
use Rattle.std.specs.Io.KnownBytes.{Consumes, IsAtEnd}
use Rattle.base.specs.declared.or_memory.OrMemory.{OrMemory}
use Rattle.world_calls.specs.declared.carried_line.CarriedLine.{CarriedLine}
use Rattle.world_calls.specs.declared.record.Record.{Record}
use Rattle.world_calls.specs.declared.totals.Totals.{Totals}
use Rattle.world_calls.specs.declared.trace.Version.{Version}
use Rattle.world.specs.World.{Setup, version_of}
use Rattle.world.specs.Lawful.{IsLawful}
use Rattle.engine_core.specs.ByNumber.{NumberedState, IsBehind}
use Rattle.trace_lines.specs.Written.{Reads}
use Rattle.trace.specs.Reading.{front_text}
use Rattle.trace.specs.TraceText.{entry_text, sums_text}
use Rattle.carried_lines.specs.CarriedText.{carried_text}
use Rattle.whole_trace.specs.WholeText.{AreOrdered}
use Rattle.replay.specs.declared.fault.ReplayFault.{ReplayFault}
use Rattle.host_recovery.specs.Recovering.{Answers, AreSums, IsUnfollowed}
use Rattle.host_recovery.specs.Segments.{IsItsOwn, MayBeLeft, head_text}
use Rattle.host_recovery.specs.SetupFor.{IsSetupFor, carried_count}
use Rattle.host_recovery.specs.declared.fault.RecoveryFault.{RecoveryFault}
use Rattle.host_recovery.specs.declared.reading.Took.{Took}
use Rattle.host_recovery.specs.declared.reading.Took.TheVariants as took
use Rattle.host_recovery.specs.declared.recovering.Going.{Going}
use Rattle.host_recovery.specs.declared.recovering.Going.TheVariants.{On, Done, Ended}

-- the engine, the text's version, the first line that does not follow, how many carried lines and records' lines there were, and how many bytes
pub record ReadingState : Type 0 where
  pub engine : NumberedState
  pub version : Version
  pub fault : Option ReplayFault
  pub carried : ℕ
  pub count : ℕ
  pub whole : ℕ

-- an engine of the configuration begins with the carried lines, the records lead to this engine, and the last line has its sums
pub record AllLead (config : Setup) (version : Version) (carried : Option (List CarriedLine)) (records : List Record) (sums : Option Totals) (engine : NumberedState) : Type 0 where
  pub version_is : version ≡ version_of config
  pub setup_is : IsSetupFor config carried engine.setup
  pub behind : IsBehind records engine
  pub sums_are : AreSums sums (length records) engine

-- that; or which line is the first that does not follow
abbrev pub Leads : Setup → Version → Option (List CarriedLine) → List Record → Option Totals → Option ReplayFault → NumberedState → Type 0
Leads config version carried records sums None engine = AllLead config version carried records sums engine
Leads config version carried records sums (Some fault) engine = IsUnfollowed config version carried records sums fault

-- so many carried lines and records were there
abbrev pub Counts : ReadingState → Option (List CarriedLine) → List Record → Type 0
Counts reading carried records = (reading.carried ≡ carried_count carried) × (reading.count ≡ length records)

-- with one record more
abbrev pub FollowsOn : ReadingState → Record → ReadingState → Type 0
FollowsOn old entry new = (config : Setup) (carried : Option (List CarriedLine)) (records : List Record) → Counts old carried records
    → Leads config old.version carried records None old.fault old.engine → Leads config old.version carried (records ++ entry ∷ []) None new.fault new.engine

-- with the last line
abbrev pub SumsFollow : ReadingState → Totals → ReadingState → Type 0
SumsFollow old totals new = (config : Setup) (carried : Option (List CarriedLine)) (records : List Record) → Counts old carried records
    → Leads config old.version carried records None old.fault old.engine → Leads config old.version carried records (Some totals) new.fault new.engine

-- the line is that of a record, which was counted
pub record TookRecord (old : ReadingState) (line : List ℕ) (new : ReadingState) : Type 0 where
  pub entry : Record
  pub is : entry_text old.version entry ≡ Some line
  pub own : IsItsOwn (entry_text old.version) entry
  pub version : new.version ≡ old.version
  pub carried : new.carried ≡ old.carried
  pub count : new.count ≡ old.count + 1
  pub whole : new.whole ≡ old.whole + (length line + 1)
  pub follows : FollowsOn old entry new

-- the line is the last
pub record TookEnd (old : ReadingState) (line : List ℕ) (new : ReadingState) : Type 0 where
  pub totals : Totals
  pub is : sums_text totals ≡ Some line
  pub own : IsItsOwn sums_text totals
  pub version : new.version ≡ old.version
  pub carried : new.carried ≡ old.carried
  pub count : new.count ≡ old.count
  pub whole : new.whole ≡ old.whole + (length line + 1)
  pub follows : SumsFollow old totals new

-- the line is none of a trace
pub record TookNothing (old : ReadingState) (line : List ℕ) (new : ReadingState) : Type 0 where
  pub no_record : Reads (entry_text old.version) line None
  pub no_end : Reads sums_text line None
  pub same : new ≡ old

abbrev pub TookSays : ReadingState → List ℕ → Took → ReadingState → Type 0
TookSays old line took.Record new = TookRecord old line new
TookSays old line took.End new = TookEnd old line new
TookSays old line took.Nothing new = TookNothing old line new

-- Of what the source gave, these lines were read, and the rest is ahead.
pub record StandsAt (config : Setup) (from now : Option (List ℕ)) (sums : Option Totals) (ahead : List ℕ) (reading : ReadingState) : Type 0 where
  pub lawful : IsLawful config
  pub carried : Option (List CarriedLine)
  pub records : List Record
  pub read : List ℕ
  pub is : option_append (head_text reading.version carried) (front_text reading.version records sums) ≡ Some read
  pub ordered : AreOrdered carried
  pub own : AllByRecursion (IsItsOwn (entry_text reading.version)) records
  pub own_sums : IfSome sums (IsItsOwn sums_text)
  pub consumed : Consumes from now (read ++ ahead)
  pub counts : Counts reading carried records
  pub whole : reading.whole ≡ length read
  pub leads : Leads config reading.version carried records sums reading.fault reading.engine

-- a record's line was read, if there were carried lines
abbrev pub IsPast : ReadingState → Type 0
IsPast reading = 0 < reading.carried → 0 < reading.count

-- the line that comes first after carried lines is none of them
abbrev pub IsNoCarried : ReadingState → List ℕ → Type 0
IsNoCarried reading line = 0 < reading.carried → reading.count ≡ 0 → Reads (carried_text reading.version) line None

-- All was read, and what is ahead is cut off.
pub record IsDone (config : Setup) (from : Option (List ℕ)) (ended : Bool) (reading : ReadingState) : Type 0 where
  pub now : Option (List ℕ)
  pub at_end : IsAtEnd now
  pub sums : Option Totals
  pub torn : List ℕ
  pub stands : StandsAt config from now sums torn reading
  pub left : MayBeLeft sums torn
  pub ended_so : ended ≡ is_some sums

-- what a line led to, or that the last line was read
abbrev pub GoingSays : Setup → Option (List ℕ) → Result Going (OrMemory RecoveryFault) → ReadingState → List ℕ → Option (List ℕ) → Type 0
GoingSays config from (Ok On) reading ahead now = StandsAt config from now None ahead reading
GoingSays config from (Ok Done) reading ahead now = IsDone config from false reading
GoingSays config from (Ok Ended) reading ahead now = IsDone config from true reading
GoingSays config from (Err fault) reading ahead now = Answers config from (Err fault)

-- what all lines led to, and whether the last line was there
abbrev pub AllSays : Setup → Option (List ℕ) → Result Bool (OrMemory RecoveryFault) → ReadingState → Type 0
AllSays config from (Ok ended) reading = IsDone config from ended reading
AllSays config from (Err fault) reading = Answers config from (Err fault)

-- What a replay says of a trace: that it is of the setup's version, its records lead from the opening of the setup and its last line is
-- their sums, or which line is the first that does not follow.
use Rattle.std.specs.Prelude.{◌≡◌, ◌≢◌, ℕ, ◌+◌, ◌<◌, ◌⊎◌, Bool, true, false, List, length, take, ◌++◌, codes, decimal, Result, Ok, Err}
use Rattle.world_calls.specs.declared.record.Record.{Record}
use Rattle.world_calls.specs.declared.totals.Totals.{Totals}
use Rattle.world_calls.specs.declared.trace.Trace.{Trace}
use Rattle.base.specs.declared.or_memory.OrMemory.{OrMemory}
use Rattle.base.specs.declared.or_memory.OrMemory.TheVariants.{OutOfMemory, Fault}
use Rattle.world.specs.World.{Setup, version_of}
use Rattle.world.specs.TotalsOf.{TotalsOf}
use Rattle.engine_core.specs.ByNumber.{NumberedState, IsBehind, IsHistory, RecordFollows, CannotFollow}
use Rattle.replay.specs.declared.fault.ReplayFault.{ReplayFault}
use Rattle.replay.specs.declared.fault.ReplayFault.TheVariants.{Header, Carried, Behind}

-- how a fault is printed: by the number of the line
abbrev pub fault_text : ReplayFault → List ℕ
fault_text Header = codes "X3 at 1"
fault_text (Carried count) = codes "X4 at " ++ decimal (count + 2)
fault_text (Behind carried records) = codes "X3 at " ++ decimal (carried + records + 2)

-- with one more nothing leads; or these are all, and the last line is not their sums
abbrev pub StopsAt : Setup → List Record → Totals → ℕ → Type 0
StopsAt setup records totals count =
    ((count < length records) × (IsHistory setup (take (count + 1) records) → ⊥)) ⊎ ((count ≡ length records) × (TotalsOf setup records totals → ⊥))

-- The line after so many records is the first that does not follow: these lead from the opening, and there it stops.
pub record IsFirstFaulty (setup : Setup) (records : List Record) (totals : Totals) (count : ℕ) : Type 0 where
  pub lead : IsHistory setup (take count records)
  pub stops : StopsAt setup records totals count

-- the trace is the history of an engine of the setup, with its sums
abbrev pub IsTraceOf : Setup → Trace → Type 0
IsTraceOf setup trace = (trace.version ≡ version_of setup) × TotalsOf setup trace.records.items trace.totals

-- This line of the trace, which has so many carried lines, is the first that does not follow: its header, which is of another version; or
-- else one of those after the carried lines.
abbrev pub IsFaultyAt : Setup → ℕ → Trace → ReplayFault → Type 0
IsFaultyAt setup lines trace Header = trace.version ≢ version_of setup
IsFaultyAt setup lines trace (Carried count) = ⊥
IsFaultyAt setup lines trace (Behind carried records) = (trace.version ≡ version_of setup) × (carried ≡ lines) × IsFirstFaulty setup trace.records.items trace.totals records

-- what a replay says; want of memory says nothing
abbrev pub Replays : Setup → ℕ → Trace → Result (Unit {0}) (OrMemory ReplayFault) → Type 0
Replays setup lines trace (Ok done) = IsTraceOf setup trace
Replays setup lines trace (Err OutOfMemory) = Unit {0}
Replays setup lines trace (Err (Fault fault)) = IsFaultyAt setup lines trace fault

-- ---- inside

-- the record follows, and has led to the engine now, or cannot follow
abbrev pub FollowsIf : Bool → NumberedState → Record → NumberedState → Type 0
FollowsIf true old told new = RecordFollows old told new
FollowsIf false old told new = CannotFollow old told

-- so many records lead, and these are all, to the engine, or with one more nothing leads
abbrev pub RecordsLead : Setup → List Record → ℕ → NumberedState → Type 0
RecordsLead setup records count engine =
    IsHistory setup (take count records)
    × (((count < length records) × (IsHistory setup (take (count + 1) records) → ⊥)) ⊎ ((count ≡ length records) × IsBehind records engine × (engine.setup ≡ setup)))

-- What of the trace of a live engine is out.
use Rattle.std.specs.Prelude.{◌≡◌, ◌⊎◌, ◌+◌, ◌++◌, ℕ, true, Option, Some, None, IfSome, List, [], Result, Ok, Err, length}
use Rattle.std.specs.Fmt.{option_append}
use Rattle.std.specs.Io.KnownBytes.{Appends}
use Rattle.world_calls.specs.declared.record.Record.{Record}
use Rattle.world_calls.specs.declared.totals.Totals.{Totals}
use Rattle.world_calls.specs.declared.trace.Version.{Version}
use Rattle.engine_core.specs.ByNumber.{IsHistory, sums_behind}
use Rattle.trace.specs.Growing.{Goes, IsFront, StopsIn}
use Rattle.trace.specs.TraceText.{records_text, totals_text}
use Rattle.world.specs.World.{Setup, World, version_of}
use Rattle.world.specs.WorldRun.{WorldRun}
use Rattle.world.specs.Flat.{flat}
use Rattle.host_live.specs.Growth.{PrintedState}
use Rattle.host_live.specs.declared.manner.Manner.{Manner}
use Rattle.world.specs.TotalsOf.{TotalsOf}

-- When the lines of these records were out, after what waited, so many bytes were out.
abbrev pub IsOutBehind : Version → (waiting : List ℕ) → (base : Option (List ℕ)) → List Record → ℕ → Type 0
IsOutBehind version waiting base records behind = (text : List ℕ) × (records_text version records ≡ Some text) × IfSome base (λ its. behind ≡ length its + length (waiting ++ text))

-- after these records some run is live
abbrev pub IsStillLive : Setup → List Record → Type 0
IsStillLive setup records = (world : World) × WorldRun setup (flat records) world × (world.runs.list ≡ [] → ⊥)

-- the text of the last line, if there is one
abbrev pub last_text : Option Totals → Option (List ℕ)
last_text None = Some []
last_text (Some totals) = totals_text totals

-- it has the sums after these records, and no run is live then if the trace is kept
abbrev pub HasSums : Setup → Manner → List Record → Totals → Type 0
HasSums setup manner records totals = TotalsOf setup records totals × (manner.is_kept ≡ true → totals.runs ≡ 0)

-- there is one, with the sums after these records, unless the trace is kept and a run is live then
abbrev pub IsLast : Setup → Manner → List Record → Option Totals → Type 0
IsLast setup manner records None = (manner.is_kept ≡ true) × IsStillLive setup records
IsLast setup manner records (Some totals) = HasSums setup manner records totals

-- What went out is the lines of records with which a history of an engine of this setup goes on after these ones, and the last line, unless
-- the trace is kept and a run is live.
pub record IsContinued (setup : Setup) (manner : Manner) (records : List Record) (base at : Option (List ℕ)) : Type 0 where
  pub more : List Record
  pub last : Option Totals
  pub history : IsHistory setup (records ++ more)
  pub is_last : IsLast setup manner (records ++ more) last
  pub bytes : List ℕ
  pub is : option_append (records_text (version_of setup) more) (last_text last) ≡ Some bytes
  pub told : Appends base at bytes

-- What went out is a front of such lines.
pub record IsContinuedInPart (setup : Setup) (manner : Manner) (records : List Record) (base at : Option (List ℕ)) : Type 0 where
  pub more : List Record
  pub last : Option Totals
  pub history : IsHistory setup (records ++ more)
  pub sums : IfSome last (HasSums setup manner (records ++ more))
  pub bytes : List ℕ
  pub is : option_append (records_text (version_of setup) more) (last_text last) ≡ Some bytes
  pub front : IsFront bytes base at

-- what is said of one to which these records led, and served to its end, or stopped before
abbrev pub Continues : {T E : Type 0} → Setup → Manner → List Record → Option (List ℕ) → Result T E → Option (List ℕ) → Type 0
Continues setup manner records base (Ok done) at = IsContinued setup manner records base at
Continues setup manner records base (Err fault) at = IsContinuedInPart setup manner records base at

-- ---- inside

-- the last line went out after what waited; or a write failed before it, at it, or after it
abbrev pub EndsTrace : {T E : Type 0} → PrintedState → Option (List ℕ) → Result T E → Option (List ℕ) → Type 0
EndsTrace state at (Ok done) to = Goes (totals_text (sums_behind state.printed.count state.engine)) state.printed.lines.waiting at [] to
EndsTrace state at (Err fault) to =
    (StopsIn (Some []) state.printed.lines.waiting at to ⊎ StopsIn (totals_text (sums_behind state.printed.count state.engine)) state.printed.lines.waiting at to)
    ⊎ Goes (totals_text (sums_behind state.printed.count state.engine)) state.printed.lines.waiting at [] to

-- it did, unless the trace is kept and a run is live
abbrev pub Closes : {T E : Type 0} → Manner → PrintedState → Option (List ℕ) → Result T E → Option (List ℕ) → Type 0
Closes manner state at (Ok done) to =
    ((manner.is_kept ≡ true) × (state.engine.runs.list ≡ [] → ⊥) × (to ≡ at))
    ⊎ ((manner.is_kept ≡ true → state.engine.runs.list ≡ []) × Goes (totals_text (sums_behind state.printed.count state.engine)) state.printed.lines.waiting at [] to)
Closes manner state at (Err fault) to = (manner.is_kept ≡ true → state.engine.runs.list ≡ []) × EndsTrace {T = Unit {0}} state at (Err fault) to

-- What is counted of an engine's records.
use Rattle.std.specs.Prelude.{◌≡◌, List, [], ◌∷◌, ◌++◌, map}
use Rattle.world_calls.specs.declared.record.Record.{Record}
use Rattle.engine_core.specs.ByNumber.{NumberedState, RecordFollows}
use Rattle.host_metrics.specs.Notes.{Note}
use Rattle.host_metrics.specs.Counted.{CountsOn, MetricsState}

-- a record that was made by an engine which stood so
abbrev pub note_at : NumberedState → Record → Note
note_at before told = record { transport = before.transport; runs = before.runs; told = told }

-- From there the engine came to stand here by these records, each with what the engine had before it. It keeps its setup.
pub data Went (start : NumberedState) : List Note → NumberedState → Type 0 where
  nowhere : Went start [] start
  one_more : (notes : List Note) (before : NumberedState) (told : Record) (after : NumberedState) → Went start notes before → RecordFollows before told after → after.setup ≡ before.setup → Went start (notes ++ note_at before told ∷ []) after

-- From there the engine came to stand here by these records, and each of them was counted.
pub record IsCounted (start : NumberedState) (old : MetricsState) (more : List Record) (now : NumberedState) (new : MetricsState) : Type 0 where
  pub notes : List Note
  pub records : map (λ note. note.told) notes ≡ more
  pub went : Went start notes now
  pub counts : CountsOn notes old new

-- That holds of whatever is counted from there on.
abbrev pub MayCount : (MetricsState → NumberedState → Type 0) → NumberedState → MetricsState → Type 0
MayCount Counted start old = (more : List Record) (now : NumberedState) (new : MetricsState) → IsCounted start old more now new → Counted new now

-- These records were made from there on, and each of them was counted, once. What the counters came to was reported at last, with the engine
-- as it stood then.
pub record CountsTo (start : NumberedState) (old : MetricsState) (Reported : MetricsState → NumberedState → Type 0) (new : MetricsState) (more : List Record) : Type 0 where
  pub now : NumberedState
  pub counted : IsCounted start old more now new
  pub reported : Reported new now

-- some records were made and counted
abbrev pub HasCounted : NumberedState → MetricsState → NumberedState → MetricsState → Type 0
HasCounted start old now new = (more : List Record) × IsCounted start old more now new

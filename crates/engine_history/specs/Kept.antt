-- What a history keeps.
use Rattle.std.specs.Prelude.{◌≡◌, ℕ, ◌+◌, ◌≤◌, List, length}
use Rattle.world_calls.specs.declared.record.Record.{Record}
use Rattle.engine_history.specs.declared.history.TheConstants.{MOST_RECORDS}

-- so many were handed on, and with what is kept there are no more than there may be
pub record KeepsRecords (forgotten : List Record) (taken : ℕ) (kept : List Record) : Type 0 where
  pub count : length forgotten ≡ taken
  pub few : taken + length kept ≤ MOST_RECORDS

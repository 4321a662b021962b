-- What contracts see of an engine's history.
use Rattle.std.specs.Prelude.{ℕ, List, []}
use Rattle.world_calls.specs.declared.record.Record.{Record}

pub record HistoryState : Type 0 where
  -- all that there ever were, in their order
  pub records : List Record
  -- how many of them were handed on
  pub taken : ℕ
  -- how many there may be before more memory is taken
  pub capacity : ℕ

abbrev pub no_records : ℕ → HistoryState
no_records capacity = record { records = []; taken = 0; capacity = capacity }

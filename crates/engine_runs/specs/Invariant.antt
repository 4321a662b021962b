-- What the records of the runs keep: they are numbered by their own numbers, which rise, and there is room.
use Rattle.std.specs.Prelude.{◌≡◌, ℕ, ◌≤◌, map, length}
use Rattle.ccb.specs.Rising.{AreRising}
use Rattle.cam_numbered_slots.specs.NumberedState.{NumberedState}
use Rattle.world.specs.Capacities.{most_runs}
use Rattle.engine_runs.specs.declared.run_record.RunRecord.{RunRecord}
use Rattle.engine_runs.specs.LiveRuns.{lives_of, number_of}

pub record KeepsRuns (records : NumberedState RunRecord) (greatest : ℕ) : Type 0 where
  pub numbered : records.numbers ≡ map (λ it. it.number) records.values
  pub rising : AreRising 0 (map number_of (lives_of records.values)) greatest
  pub within : length records.values ≤ most_runs
  pub room : records.most ≡ most_runs

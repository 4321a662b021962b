-- What an engine keeps.
use Rattle.std.specs.Prelude.{◌≡◌, ℕ, ◌+◌, ◌≤◌, List, count_by, map}
use Rattle.freeze_ledger.specs.declared.freeze.Freeze.{Freeze}
use Rattle.engine_runs.specs.RunsState.{RunsState, tokens_of}
use Rattle.world_calls.specs.declared.record.Record.{Record}
use Rattle.world.specs.World.{Setup, LiveRun, Transport}
use Rattle.world.specs.Laws.FreezeLaws.{entries_of}
use Rattle.engine_core.specs.EngineState.{world_of, IsRunOf}

-- what each live run has the right to give back are the entries that name it
abbrev pub HoldEntries : List Freeze → RunsState → Type 0
HoldEntries freezes state = state.tokens ≡ map (λ run. tokens_of (entries_of run.number freezes)) state.runs.list

pub record KeepsEngine (setup : Setup) (history : List Record) (transport : Transport) (runs : RunsState) : Type 0 where
  -- the fields, read as a world, are the run of the stored history, over a setup of accepted programs
  pub run : IsRunOf setup history (world_of setup history transport runs.runs)
  pub tokens : HoldEntries transport.freezes runs

-- how many runs are out
abbrev pub outs : List LiveRun → ℕ
outs runs = count_by (λ run. run.out) runs

-- a history of so many records has room for that of a park of each run that is out
abbrev pub HistoryHasRoom : ℕ → ℕ → List LiveRun → Type 0
HistoryHasRoom records capacity runs = records + outs runs ≤ capacity

-- What contracts see of the live runs: the world's runs, and beside each of them its rights to give freezes back.
use Rattle.std.specs.Prelude.{ℕ, true, List, [], map, Option, Some, None, slice_index_or}
use Rattle.ccb.specs.declared.ccb.Ccb.{Ccb}
use Rattle.freeze_ledger.specs.declared.freeze.Freeze.{Freeze}
use Rattle.bpf_insn.specs.declared.program.Slot.{Slot}
use Rattle.bpf_semantics.specs.MachineState.{MachineState}
use Rattle.table_store.specs.Tables.{zero_table}
use Rattle.world.specs.World.{LiveRun, Runs}
use Rattle.engine_runs.specs.declared.run_record.RunRecord.{RunRecord}
use Rattle.engine_runs.specs.LiveRuns.{lives_of}

pub record RunsState : Type 0 where
  pub runs : Runs
  -- of each live run, in the order of their numbers, the tokens that it has
  pub tokens : List (List (Option Freeze))

-- no run, and these tables
abbrev pub opened_runs : List (List ℕ) → RunsState
opened_runs tables = record { runs = record { list = []; greatest = 0; tables = tables }; tokens = [] }

-- no run, and tables of these lengths in which each word is 0
abbrev pub no_runs : List ℕ → RunsState
no_runs lengths = opened_runs (map zero_table lengths)

-- the tokens of a run, as its record has them
abbrev pub tokens_in : RunRecord → List (Option Freeze)
tokens_in it = it.tokens.value.items

-- what is seen of these records, the greatest number that was given, and the tables
abbrev pub seen : List RunRecord → ℕ → List (List ℕ) → RunsState
seen records greatest tables = record {
  runs = record { list = lives_of records; greatest = greatest; tables = tables };
  tokens = map tokens_in records;
}

-- the tokens of the run at a place
abbrev pub tokens_at : RunsState → ℕ → List (Option Freeze)
tokens_at state place = slice_index_or state.tokens place []

-- the number of its freeze that a run is told
abbrev pub told : Option Freeze → ℕ
told None = 0
told (Some freeze) = freeze.number

-- the tokens that a run has of these freezes, in its list
abbrev pub tokens_of : List Freeze → List (Option Freeze)
tokens_of freezes = map (λ freeze. Some freeze) freezes

-- the run of a number for a CCB under a controller, which is out
abbrev pub run_for : ℕ → Ccb → ℕ → List Slot → MachineState → LiveRun
run_for number ccb controller program machine = record {
  number = number;
  ccb = ccb.number.0;
  queue = ccb.queue.0;
  controller = controller;
  program = program;
  machine = machine;
  out = true;
}

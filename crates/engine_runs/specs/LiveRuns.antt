-- What the record of a run says, as the world has it.
use Rattle.std.specs.Prelude.{ℕ, List, map}
use Rattle.std.specs.Arc.{arc_value}
use Rattle.world.specs.World.{LiveRun}
use Rattle.engine_runs.specs.declared.run_record.RunRecord.{RunRecord}

abbrev pub number_of : LiveRun → ℕ
number_of run = run.number

abbrev pub live_of : RunRecord → LiveRun
live_of it = record {
  number = it.number;
  ccb = it.ccb.0;
  queue = it.queue.0;
  controller = it.controller;
  program = (arc_value it.program).program;
  machine = it.machine.value;
  out = it.out;
}

abbrev pub lives_of : List RunRecord → List LiveRun
lives_of records = map live_of records

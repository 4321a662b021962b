-- A run that is parked takes no step, and keeps all that it has until it is resumed.
use Rattle.std.specs.Prelude.{Bool, true, false, if◌then◌else◌, Option, Some, None}
use Rattle.world_calls.specs.declared.call_answer.CallAnswer.TheVariants as answers
use Rattle.world.specs.World.{LiveRun, World}
use Rattle.world.specs.Lookups.{with_run}
use Rattle.world.specs.Event.{Reply, replies}

-- the run is out or parked, and all else is as it was
abbrev pub with_out : World → LiveRun → Bool → World
with_out world run out = record world {
  runs = record world.runs { list = with_run (record run { out = out }) world.runs.list };
}

-- no event unless the run is live and out; it is parked
abbrev pub parks : World → Option LiveRun → Option (Reply × World)
parks world None = None
parks world (Some run) = if run.out then Some (replies answers.Ok, with_out world run false) else None

-- it is out again, with the machine that it had
abbrev pub resumes : World → LiveRun → Reply × World
resumes world run = (replies answers.Ok, with_out world run true)

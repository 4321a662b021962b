-- What contracts see of a run that is out, and how the world has it.
use Rattle.std.specs.Prelude.{◌≡◌, ℕ, true, List, Some}
use Rattle.bpf_insn.specs.declared.program.Slot.{Slot}
use Rattle.bpf_semantics.specs.MachineState.{MachineState}
use Rattle.bpf_semantics.specs.Reached.{Reached}
use Rattle.bpf_accepted.specs.Verdict.{Verdict}
use Rattle.interpreter.specs.Segments.{SegmentState, IsSegment}
use Rattle.world.specs.World.{Setup, queue_setup, LiveRun, World}
use Rattle.world.specs.Lookups.{run_of}

-- its number, its accepted program, and the machine in which it goes on
pub record RunState : Type 0 where
  pub number : ℕ
  pub program : Verdict
  pub machine : MachineState

-- the program reaches the machine
abbrev pub IsReached : RunState → Type 0
IsReached run = (n : ℕ) × Reached run.program.program n run.machine

-- the run is live and out in the world, with this program and this machine
pub record IsOut (world : World) (run : RunState) : Type 0 where
  pub it : LiveRun
  pub found : run_of run.number world.runs.list ≡ Some it
  pub out : it.out ≡ true
  pub program_is : it.program ≡ run.program.program
  pub machine_is : it.machine ≡ run.machine

-- It is out, and its program is the recorded one: with the budget of the run's queue, under the setup's limits.
pub record IsOutUnder (setup : Setup) (world : World) (run : RunState) : Type 0 where
  pub out : IsOut world run
  pub budget : run.program.budget ≡ (queue_setup setup out.it.queue).budget
  pub limits : run.program.limits ≡ setup.limits

-- A run at its next stop: its number, and the segment that it executed.
pub record StoppedState : Type 0 where
  pub number : ℕ
  pub segment : SegmentState

-- the run where that segment begins
abbrev pub before_stop : StoppedState → RunState
before_stop run = record { number = run.number; program = run.segment.program; machine = run.segment.from }

-- it executed private instructions alone, from a machine that its program reaches
pub record IsStopped (run : StoppedState) : Type 0 where
  pub segment : IsSegment run.segment
  pub reached : IsReached (before_stop run)

-- This is the program of the run and of the segment, and the segment begins in the machine of the run.
pub record IsNext (it : LiveRun) (program : List Slot) (segment : SegmentState) : Type 0 where
  pub program_is : program ≡ it.program
  pub segment_program_is : segment.program.program ≡ it.program
  pub start_is : segment.from ≡ it.machine

-- A run of that number is live and out, and the segment is its next stretch.
pub record IsOutAs (runs : List LiveRun) (number : ℕ) (program : List Slot) (segment : SegmentState) : Type 0 where
  pub it : LiveRun
  pub found : run_of number runs ≡ Some it
  pub out : it.out ≡ true
  pub next : IsNext it program segment

-- The run again, as it is recorded, and its program is that of its queue, under the setup's limits.
pub record IsAgain (setup : Setup) (it : LiveRun) (run : RunState) : Type 0 where
  pub number : run.number ≡ it.number
  pub program : run.program.program ≡ it.program
  pub machine : run.machine ≡ it.machine
  pub budget : run.program.budget ≡ (queue_setup setup it.queue).budget
  pub limits : run.program.limits ≡ setup.limits

-- Which run may be parked or taken further.
use Rattle.std.specs.Prelude.{◌≡◌, ℕ, true, List, Option, Some, IfSome}
use Rattle.ccb.specs.declared.QueueId.{QueueId}
use Rattle.bpf_insn.specs.declared.program.Slot.{Slot}
use Rattle.bpf_semantics.specs.MachineState.{MachineState}
use Rattle.world.specs.World.{LiveRun}
use Rattle.world.specs.Lookups.{run_of}

-- This is the program of the run, which is out, and its machine.
abbrev pub IsRunRecorded : LiveRun → List Slot → MachineState → Type 0
IsRunRecorded it program machine = (it.out ≡ true) × (program ≡ it.program) × (machine ≡ it.machine)

-- A run of that number is live and out, with this program and in this machine.
pub record IsOutWith (runs : List LiveRun) (number : ℕ) (program : List Slot) (machine : MachineState) : Type 0 where
  pub it : LiveRun
  pub found : run_of number runs ≡ Some it
  pub recorded : IsRunRecorded it program machine

-- Where a queue is known, this is the program of a live run of that number which is of this queue.
abbrev pub KnowsProgram : List LiveRun → ℕ → List Slot → Option QueueId → Type 0
KnowsProgram runs number program known =
    IfSome known (λ queue. (it : LiveRun) → run_of number runs ≡ Some it → it.queue ≡ queue.0 → program ≡ it.program)

-- What the worked rows are about: a program of seven instructions, and setups of one and two queues.
use Rattle.std.proofs.Common.{ℕ, pos, List, [], ◌∷◌, map, Option, Some, None}
use Rattle.ccb.specs.declared.cam_status.CamStatus.{CamStatus}
use Rattle.ccb.specs.Completion.{Outcome}
use Rattle.ccb.specs.Ccb.{submitted}
use Rattle.freeze_ledger.specs.declared.freeze.Holder.TheVariants.{Guest}
use Rattle.freeze_ledger.specs.declared.freeze.Freeze.{Freeze}
use Rattle.helpers.specs.declared.limits.HelperLimits.{HelperLimits}
use Rattle.helpers.specs.declared.limits.HelperSet.TheVariants.{Queues}
use Rattle.bpf_insn.specs.declared.insn.Insn.TheVariants.{Alu, JumpIf, Call, Exit}
use Rattle.bpf_insn.specs.declared.insn.Operand.TheVariants.{Immediate, Register}
use Rattle.bpf_insn.specs.declared.insn.Callee.TheVariants.{Helper}
use Rattle.bpf_insn.specs.declared.insn.Width.TheVariants.{Bits64}
use Rattle.bpf_insn.specs.declared.insn.AluOp.TheVariants.{Mov}
use Rattle.bpf_insn.specs.declared.insn.Condition.TheVariants.{Equal}
use Rattle.bpf_insn.specs.declared.reg.Reg.TheVariants.{R0, R1, R2}
use Rattle.bpf_insn.specs.declared.program.Slot.{Slot}
use Rattle.bpf_insn.specs.declared.program.Slot.TheVariants.{First}
use Rattle.table_store.specs.Tables.{zero_table}
use Rattle.world.specs.declared.ccb_state.CcbState.{CcbState}
use Rattle.ccb.specs.Places.{device}
use Rattle.world.specs.World.{QueueSetup, Setup, LiveCcb, World, Transport, Runs}
use Rattle.world.specs.Event.{Event, Reply}
use Rattle.world.specs.Step.{step}

-- jeq r2, 0, +2; mov64 r1, r2; call 2; mov64 r1, 1; call 4; mov64 r0, 0; exit
abbrev pub program : List Slot
program =
    First (JumpIf Bits64 Equal R2 (Immediate (pos 0)) (pos 2))
    ∷ First (Alu Bits64 Mov R1 (Register R2))
    ∷ First (Call (Helper (pos 2)))
    ∷ First (Alu Bits64 Mov R1 (Immediate (pos 1)))
    ∷ First (Call (Helper (pos 4)))
    ∷ First (Alu Bits64 Mov R0 (Immediate (pos 0)))
    ∷ First Exit ∷ []

-- a queue of so many openings, with that program
abbrev pub queue_of : ℕ → QueueSetup
queue_of openings = record { openings = openings; controller = 0; program = program; budget = 7 }

-- these limits, where what freezes is a queue
abbrev pub of_helpers : HelperLimits → HelperLimits
of_helpers limits = record limits { helpers = Queues }

abbrev pub one_queue : HelperLimits → Setup
one_queue limits = record { limits = of_helpers limits; controllers = 0; tables = map zero_table limits.table_lengths; queues = queue_of 2 ∷ []; carried = None }

abbrev pub two_queues : HelperLimits → Setup
two_queues limits = record { limits = of_helpers limits; controllers = 0; tables = map zero_table limits.table_lengths; queues = queue_of 1 ∷ queue_of 2 ∷ []; carried = None }

-- with the tables as they are at the opening
abbrev pub zero_tables : HelperLimits → World → World
zero_tables limits world = record world { runs = record world.runs { tables = map zero_table limits.table_lengths } }

-- the world with another transport, or with other runs
abbrev pub transported : (Transport → Transport) → World → World
transported change world = record world { transport = change world.transport }

abbrev pub running : (Runs → Runs) → World → World
running change world = record world { runs = change world.runs }

-- the world of one queue with these freezes, and without tables
abbrev pub with_freezes : List Freeze → ℕ → World
with_freezes freezes greatest = record { transport = record { live = []; freezes = freezes; openings = 2 ∷ []; greatest_ccb = 0; greatest_freeze = greatest; clock = 0 }; runs = record { list = []; tables = []; greatest = 0 }; ended = [] }

-- the world of one queue with these CCBs, and without tables
abbrev pub with_ccbs : List LiveCcb → ℕ → World
with_ccbs live greatest = record { transport = record { live = live; freezes = []; openings = 2 ∷ []; greatest_ccb = greatest; greatest_freeze = 0; clock = 0 }; runs = record { list = []; tables = []; greatest = 0 }; ended = [] }

-- a guest's freeze of queue 0
abbrev pub freeze_of : ℕ → ℕ → Freeze
freeze_of number guest = record { number = number; place = device 0; holder = Guest guest }

-- a CCB of queue 0, as it was submitted, in this state
abbrev pub ccb_in : ℕ → ℕ → CcbState → LiveCcb
ccb_in number priority state = record { ccb = submitted (record { 0 = number }) (record { 0 = 0 }) priority 0 0; state = state }

-- a completion with this status, and neither SCSI status nor sense
abbrev pub outcome_of : ℕ → CamStatus → Outcome
outcome_of number status = record { ccb = record { 0 = number }; status = status; scsi = 0; sense = [] }

abbrev world_in : World → Option (Reply × World) → World
world_in world None = world
world_in world (Some x) = x.1

-- the world after an event
abbrev pub next : Setup → World → Event → World
next setup world event = world_in world (step setup world event)

abbrev reply_in : Option (Reply × World) → Option Reply
reply_in None = None
reply_in (Some x) = Some x.0

-- what an event is answered
abbrev pub answer : Setup → World → Event → Option Reply
answer setup world event = reply_in (step setup world event)

-- The world at one moment, as CAM (ANSI X3.232) has it: device queues with openings, the CCBs that were submitted to
-- them, the freezes that hold them, and the runs of recovery programs (RFC 9669) with the tables that they share. It is
-- lists, and no count is kept.
use Rattle.std.specs.Prelude.{ℕ, Bool, not, if◌then◌else◌, List, [], length, map, slice_index_or, Option, Some, None}
use Rattle.ccb.specs.declared.ccb.Ccb.{Ccb}
use Rattle.freeze_ledger.specs.declared.freeze.Freeze.{Freeze}
use Rattle.helpers.specs.declared.limits.HelperLimits.{HelperLimits}
use Rattle.helpers.specs.Table.{are_classed}
use Rattle.bpf_insn.specs.declared.program.Slot.{Slot}
use Rattle.bpf_semantics.specs.MachineState.{MachineState}
use Rattle.world_calls.specs.declared.trace.Version.{Version}
use Rattle.world_calls.specs.Versions.{version_in}
use Rattle.world.specs.declared.ccb_state.CcbState.{CcbState}

-- What an engine is opened with for one device queue: its openings, the controller that it is under, which is 0 where there
-- are none, the recovery program that it starts at a failed completion, and how many instructions a run of it executes at
-- most.
pub record QueueSetup : Type 0 where
  pub openings : ℕ
  pub controller : ℕ
  pub program : List Slot
  pub budget : ℕ

-- a CCB that is not finished, and whether it waits, is active or is in recovery
pub record LiveCcb : Type 0 where
  pub ccb : Ccb
  pub state : CcbState

-- a CCB that is finished, with the code of its final status
pub record EndedCcb : Type 0 where
  pub number : ℕ
  pub code : ℕ

-- a run that has not exited: for which CCB of which queue, under which controller, the program and its machine, and whether it
-- is out
pub record LiveRun : Type 0 where
  pub number : ℕ
  pub ccb : ℕ
  pub queue : ℕ
  pub controller : ℕ
  pub program : List Slot
  pub machine : MachineState
  pub out : Bool

-- what CAM keeps: the CCBs and queues, the freezes, and the clock
pub record Transport : Type 0 where
  -- the CCBs that are not finished, in the order of their numbers
  pub live : List LiveCcb
  -- of each queue, how many of its CCBs may be active at a time
  pub openings : List ℕ
  -- each a number, a place and a holder, in the order of their numbers
  pub freezes : List Freeze
  -- the greatest CCB and freeze numbers that were given, 0 before the first
  pub greatest_ccb : ℕ
  pub greatest_freeze : ℕ
  -- what the clock read last, in milliseconds, 0 before the first reading
  pub clock : ℕ

-- the runs of recovery programs, and what they share
pub record Runs : Type 0 where
  -- those that have not exited, in the order of their numbers
  pub list : List LiveRun
  -- the greatest run number that was given, 0 before the first
  pub greatest : ℕ
  -- the words of each table
  pub tables : List (List ℕ)

pub record World : Type 0 where
  pub transport : Transport
  pub runs : Runs
  -- the CCBs that are finished, in the order in which they ended
  pub ended : List EndedCcb

-- What an engine is opened with: the limits of the helper calls, how many controllers there are, the words of each table, the
-- device queues in the order of their numbers from 0, and, if the engine follows another one, the world that it takes over.
pub record Setup : Type 0 where
  pub limits : HelperLimits
  pub controllers : ℕ
  pub tables : List (List ℕ)
  pub queues : List QueueSetup
  pub carried : Option World

-- the vocabulary of its histories
abbrev pub version_of : Setup → Version
version_of setup = version_in setup.limits.helpers

-- CCBs have a class and an advice, and may be withdrawn
abbrev pub has_classes : Setup → Bool
has_classes setup = are_classed setup.limits.helpers

-- a submission says a class where CCBs have one, and there alone
abbrev pub class_fits : Bool → Option ℕ → Bool
class_fits has None = not has
class_fits has (Some class) = has

-- the class of a CCB by that of its submission: 0 where it says none
abbrev pub class_in : Option ℕ → ℕ
class_in None = 0
class_in (Some class) = class

-- the class that the record of a submission says
abbrev pub class_kept : Setup → ℕ → Option ℕ
class_kept setup class = if has_classes setup then Some class else None

abbrev pub queue_count : Setup → ℕ
queue_count setup = length setup.queues

-- what stands after the last queue
abbrev pub no_queue : QueueSetup
no_queue = record { openings = 0; controller = 0; program = []; budget = 0 }

-- the queue of a number
abbrev pub queue_setup : Setup → ℕ → QueueSetup
queue_setup setup queue = slice_index_or setup.queues queue no_queue

-- the world of an engine that follows no other, before the first event
abbrev pub opening : Setup → World
opening setup = record {
  transport = record {
    live = [];
    openings = map (λ queue. queue.openings) setup.queues;
    freezes = [];
    greatest_ccb = 0;
    greatest_freeze = 0;
    clock = 0;
  };
  runs = record { list = []; greatest = 0; tables = setup.tables };
  ended = [];
}

-- the world before the first event: that which was taken over, if the engine follows another one
abbrev pub beginning_of : Setup → Option World → World
beginning_of setup None = opening setup
beginning_of setup (Some world) = world

abbrev pub beginning : Setup → World
beginning setup = beginning_of setup setup.carried

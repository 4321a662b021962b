-- The headline of runs: what holds of every run of a recovery program, in every run of the world of every lawful setup.
use Rattle.std.specs.Prelude.{◌≡◌, ℕ, ◌+◌, ◌-◌, ◌<◌, ◌≤◌, ◌==◌, ◌||◌, Bool, true, false, List, [], ◌∷◌, ◌++◌, Option, Some, None, is_some, count_by}
use Rattle.ccb.specs.declared.cam_status.CamStatus.TheVariants.{RequestInProgress}
use Rattle.ccb.specs.Completion.{Outcome}
use Rattle.helpers.specs.declared.columns.Change.{Change}
use Rattle.helpers.specs.declared.columns.Change.TheVariants as changes
use Rattle.helpers.specs.declared.table.HelperEffect.{HelperEffect}
use Rattle.helpers.specs.declared.table.HelperEffect.TheVariants as effects
use Rattle.helpers.specs.declared.request.Request.{Request}
use Rattle.helpers.specs.Table.{row_of}
use Rattle.bpf_semantics.specs.Stuck.{is_stuck}
use Rattle.bpf_semantics.specs.Reached.{Reached}
use Rattle.world.specs.declared.ccb_state.CcbState.TheVariants.{Waiting, InRecovery}
use Rattle.world_calls.specs.declared.call.Call.TheVariants.{Complete, Park, Resume}
use Rattle.world_calls.specs.declared.call_answer.CallAnswer.TheVariants as answers
use Rattle.world.specs.World.{Setup, queue_setup, LiveCcb, LiveRun, World}
use Rattle.world.specs.Lawful.{IsLawful}
use Rattle.world.specs.Lookups.{ccb_of, run_of}
use Rattle.world.specs.Told.{Told, plain, finishes, helper_in}
use Rattle.world.specs.Event.{Instruction, private, call, exit, Event, called, executes, instruction_of, Reply, replies}
use Rattle.world.specs.Step.{WorldStep}
use Rattle.world.specs.WorldRun.{Leads, WorldRun}
use Rattle.world.specs.Laws.TookGave.{took, gave}
use Rattle.world.specs.Laws.FreezeLaws.{Calls, entries_of}

-- the event is a step of this run
abbrev pub is_step_of : ℕ → Event → Bool
is_step_of run event = is_some (instruction_of run event)

-- the event parks this run or resumes it
abbrev pub is_turn_of : ℕ → Event → Bool
is_turn_of run (called (Park number)) = number == run
is_turn_of run (called (Resume number)) = number == run
is_turn_of run event = false

-- the event is this run's own: its step, its park or its resume
abbrev pub is_own_of : ℕ → Event → Bool
is_own_of run event = is_step_of run event || is_turn_of run event

-- a change of the machine by which the run's CCB is disposed of
abbrev pub disposes : Change → Bool
disposes changes.Nothing = false
disposes changes.Holds = false
disposes changes.GivesUp = false
disposes changes.Disposes = true
disposes (changes.Writes bytes) = false

-- the call disposes of the run's CCB: it makes it wait again, or finishes it
abbrev pub is_disposing : Told → Bool
is_disposing told = disposes (row_of (helper_in told)).machine

-- the instruction disposes of the run's CCB
abbrev pub is_disposal : Option Instruction → Bool
is_disposal None = false
is_disposal (Some private) = false
is_disposal (Some (call told)) = is_disposing told
is_disposal (Some exit) = false

-- it is the exit
abbrev pub is_exit : Option Instruction → Bool
is_exit None = false
is_exit (Some private) = false
is_exit (Some (call told)) = false
is_exit (Some exit) = true

-- the event is one by which this run disposes of its CCB
abbrev pub is_disposal_of : ℕ → Event → Bool
is_disposal_of run event = is_disposal (instruction_of run event)

-- the event is this run's exit
abbrev pub is_exit_of : ℕ → Event → Bool
is_exit_of run event = is_exit (instruction_of run event)

-- how many steps, disposals and exits of this run there are in a list of events
abbrev pub steps_of : ℕ → List (Event × Reply) → ℕ
steps_of run xs = count_by (λ x. is_step_of run x.0) xs

abbrev pub disposals_of : ℕ → List (Event × Reply) → ℕ
disposals_of run xs = count_by (λ x. is_disposal_of run x.0) xs

abbrev pub exits_of : ℕ → List (Event × Reply) → ℕ
exits_of run xs = count_by (λ x. is_exit_of run x.0) xs

-- exactly one instruction of the run is an event, with exactly one reply
pub record HasOneStep (setup : Setup) (world : World) (run : ℕ) : Type 0 where
  pub instruction : Instruction
  pub reply : Reply
  pub after : World
  pub step : WorldStep setup world (executes run instruction) reply after
  pub only : (other : Instruction) (another : Reply) (elsewhere : World) →
      WorldStep setup world (executes run other) another elsewhere → (other ≡ instruction) × (another ≡ reply)

-- No live run is stuck, at no moment of any run of the world; and each that is out has its one step.
abbrev pub NeverStuck : Type 0
NeverStuck =
    (setup : Setup) → IsLawful setup → (xs : List (Event × Reply)) (world : World) → WorldRun setup xs world →
    (number : ℕ) (run : LiveRun) → run_of number world.runs.list ≡ Some run →
    (is_stuck run.program setup.limits run.machine ≡ false) × (run.out ≡ true → HasOneStep setup world number)

-- Each live run's machine is one that its program reaches, at every moment of every run of the world.
abbrev pub MachinesAreReached : Type 0
MachinesAreReached =
    (setup : Setup) → IsLawful setup → (xs : List (Event × Reply)) (world : World) → WorldRun setup xs world →
    (number : ℕ) (run : LiveRun) → run_of number world.runs.list ≡ Some run → (n : ℕ) × Reached run.program n run.machine

-- A completion starts a run at some moment of a run of the world, which goes on from there.
pub record StartedRun (setup : Setup) (outcome : Outcome) (run : ℕ) (ys : List (Event × Reply)) (world : World) : Type 0 where
  pub xs : List (Event × Reply)
  pub before : World
  pub run_before : WorldRun setup xs before
  pub freeze : ℕ
  pub started : World
  pub step : WorldStep setup before (called (Complete outcome)) (replies (answers.Started run freeze)) started
  pub goes_on : Leads setup started ys world

-- It was started as this one: its steps are within the budget of the queue's program, and as long as it is live its
-- machine was reached in exactly so many instructions.
pub record KeepsWithin (setup : Setup) (run : ℕ) (start : LiveRun) (steps : ℕ) (world : World) : Type 0 where
  pub budget : steps ≤ (queue_setup setup start.queue).budget
  pub reached : (now : LiveRun) → run_of run world.runs.list ≡ Some now →
      (now.queue ≡ start.queue) × Reached now.program steps now.machine

-- From its start on a run executes at most as many instructions as its queue's budget says, private ones, helper calls
-- and the exit together.
abbrev pub WithinBudget : Type 0
WithinBudget =
    (setup : Setup) → IsLawful setup → (outcome : Outcome) (run : ℕ) (ys : List (Event × Reply)) (world : World) →
    (it : StartedRun setup outcome run ys world) →
    (start : LiveRun) × (run_of run it.started.runs.list ≡ Some start) × KeepsWithin setup run start (steps_of run ys) world

-- The CCB is in recovery by this run alone.
pub record InRecoveryBy (run ccb : ℕ) (world : World) : Type 0 where
  pub live : LiveCcb
  pub found : ccb_of ccb world.transport.live ≡ Some live
  pub state : live.state ≡ InRecovery
  pub now : LiveRun
  pub is_live : run_of run world.runs.list ≡ Some now
  pub fresh : now.machine.disposed ≡ false
  pub alone : (other : ℕ) (its : LiveRun) → run_of other world.runs.list ≡ Some its → its.ccb ≡ ccb → its.machine.disposed ≡ false → other ≡ run

-- The CCB is requeued: it waits again with so many retries fewer, not below 0, in its queue, with its priority and its
-- count of starts. What its completion brought is gone, and no CCB ended.
pub record IsRequeued (ccb used : ℕ) (was : LiveCcb) (before after : World) : Type 0 where
  pub now : LiveCcb
  pub found : ccb_of ccb after.transport.live ≡ Some now
  pub state : now.state ≡ Waiting
  pub queue : now.ccb.queue ≡ was.ccb.queue
  pub priority : now.ccb.priority ≡ was.ccb.priority
  pub retries : now.ccb.retries ≡ was.ccb.retries - used
  pub attempts : now.ccb.attempts ≡ was.ccb.attempts
  pub status : now.ccb.status ≡ RequestInProgress
  pub scsi : now.ccb.scsi ≡ 0
  pub sense : now.ccb.sense ≡ []
  pub freeze_taken : now.ccb.freeze_taken ≡ false
  pub ended : after.ended ≡ before.ended

-- The CCB is finished: it is gone, and it alone ended, with this code.
pub record IsFinished (ccb code : ℕ) (before after : World) : Type 0 where
  pub gone : ccb_of ccb after.transport.live ≡ None
  pub ended : after.ended ≡ before.ended ++ record { number = ccb; code = code } ∷ []

-- What a call makes of the run's CCB, by its deed: it is requeued with the retries that the run asks for, or finished with
-- the code that the run asks for and that is told. No other deed disposes of it.
abbrev pub DisposesByEffect : HelperEffect → Request → Told → ℕ → LiveCcb → World → World → Type 0
DisposesByEffect effects.Requeue request told ccb was before after =
    (told ≡ plain request.helper) × IsRequeued ccb request.arguments.first was before after
DisposesByEffect effects.Finish request told ccb was before after =
    (told ≡ finishes request.helper request.arguments.first) × IsFinished ccb request.arguments.first before after
DisposesByEffect effect request told ccb was before after = ⊥

-- the call at which the run stands disposes of its CCB, by what is told of it
pub record DisposesByCall (told : Told) (run ccb : ℕ) (was : LiveCcb) (before after : World) : Type 0 where
  pub request : Request
  pub calls : Calls before run request
  pub does : DisposesByEffect (row_of request.helper).effect request told ccb was before after

-- what the instruction makes of the run's CCB: no other than a call disposes of it
abbrev pub DisposesBy : Option Instruction → ℕ → ℕ → LiveCcb → World → World → Type 0
DisposesBy (Some (call told)) run ccb was before after = DisposesByCall told run ccb was before after
DisposesBy instruction run ccb was before after = ⊥

-- By this step the run disposes of the CCB: that was in recovery by this run alone, and is requeued or finished. All other
-- CCBs are as they were.
pub record DisposesOfIt (run ccb : ℕ) (before : World) (event : Event) (after : World) : Type 0 where
  pub recovery : InRecoveryBy run ccb before
  pub disposes : DisposesBy (instruction_of run event) run ccb recovery.live before after
  pub others : (other : ℕ) → (other ≡ ccb → ⊥) → ccb_of other after.transport.live ≡ ccb_of other before.transport.live

-- From its start on, as long as it is live, a run is that of the CCB which the completion named. It disposes of that CCB at
-- most once, and exactly once if it exited; until then the CCB is in recovery by this run alone. The step by which it
-- disposes of the CCB requeues or finishes it, and changes no other.
abbrev pub DisposedOnce : Type 0
DisposedOnce =
    (setup : Setup) → IsLawful setup → (outcome : Outcome) (run : ℕ) (ys : List (Event × Reply)) (world : World) →
    StartedRun setup outcome run ys world →
    (disposals_of run ys ≤ 1) × (0 < exits_of run ys → disposals_of run ys ≡ 1)
    × (disposals_of run ys ≡ 0 → InRecoveryBy run outcome.ccb.0 world)
    × ((now : LiveRun) → run_of run world.runs.list ≡ Some now → now.ccb ≡ outcome.ccb.0)
    × ((event : Event) (reply : Reply) (after : World) → WorldStep setup world event reply after →
    is_disposal_of run event ≡ true → DisposesOfIt run outcome.ccb.0 world event after)

-- how often a number is in a list
abbrev pub times_in : ℕ → List ℕ → ℕ
times_in number numbers = count_by (λ other. other == number) numbers

-- What a run got, each freeze once, is what its machine holds and what it gave up; and where the run is gone, what it
-- gave up alone.
pub record HoldsExactly (run : ℕ) (got given : List ℕ) (world : World) : Type 0 where
  pub once : (number : ℕ) → times_in number got ≤ 1
  pub live : (now : LiveRun) → run_of run world.runs.list ≡ Some now → (number : ℕ) → times_in number got ≡ times_in number now.machine.held + times_in number given
  pub gone : run_of run world.runs.list ≡ None → (number : ℕ) → times_in number got ≡ times_in number given

-- From its start on a run holds exactly the freezes that it got and did not give up yet, and at its end it gave up each.
abbrev pub ExactFreezes : Type 0
ExactFreezes =
    (setup : Setup) → IsLawful setup → (outcome : Outcome) (run : ℕ) (ys : List (Event × Reply)) (world : World) →
    (it : StartedRun setup outcome run ys world) →
    HoldsExactly run (took run ((called (Complete outcome), replies (answers.Started run it.freeze)) ∷ ys)) (gave run setup it.started ys world it.goes_on) world

-- An event that is not a run's own leaves it as it is; and one that is no step of it, as its park, leaves the entries that
-- name it as they are.
abbrev pub OthersLeaveIt : Type 0
OthersLeaveIt =
    (setup : Setup) (xs : List (Event × Reply)) (before : World) → WorldRun setup xs before →
    (event : Event) (reply : Reply) (after : World) → WorldStep setup before event reply after →
    (number : ℕ) (run : LiveRun) → run_of number before.runs.list ≡ Some run →
    (is_own_of number event ≡ false → run_of number after.runs.list ≡ Some run)
    × (is_step_of number event ≡ false → entries_of number after.transport.freezes ≡ entries_of number before.transport.freezes)

-- a run that is gone never comes back
abbrev pub GoneRunStaysGone : Type 0
GoneRunStaysGone =
    (setup : Setup) (xs ys zs : List (Event × Reply)) (number : ℕ) (run : LiveRun) (live gone later : World) →
    WorldRun setup xs live → run_of number live.runs.list ≡ Some run →
    Leads setup live ys gone → run_of number gone.runs.list ≡ None →
    Leads setup gone zs later → run_of number later.runs.list ≡ None

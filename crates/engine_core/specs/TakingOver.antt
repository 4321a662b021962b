-- What it takes to take a segment over, and what that leaves.
use Rattle.std.specs.Prelude.{◌≡◌, ℕ, ◌+◌, Bool, true, false, List, Some}
use Rattle.ccb.specs.declared.place.Place.{Place}
use Rattle.ccb.specs.declared.place.Place.TheVariants.{Controller}
use Rattle.ccb.specs.Places.{device}
use Rattle.helpers.specs.declared.table.HelperEffect.{HelperEffect}
use Rattle.helpers.specs.declared.table.HelperEffect.TheVariants as effects
use Rattle.helpers.specs.Table.{row_of}
use Rattle.helpers.specs.declared.request.Request.{Request}
use Rattle.helpers.specs.declared.request.Answer.{Answer}
use Rattle.bpf_insn.specs.declared.program.Slot.{Slot}
use Rattle.bpf_semantics.specs.MachineState.{MachineState}
use Rattle.bpf_semantics.specs.Reached.{Reached}
use Rattle.bpf_semantics.specs.Step.{IsAnswer}
use Rattle.bpf_semantics.specs.declared.stop.Stop.{Stop}
use Rattle.bpf_semantics.specs.declared.stop.Stop.TheVariants.{Helper as at_helper, Exit as at_exit}
use Rattle.interpreter.specs.Segments.{SegmentState, IsSegment}
use Rattle.engine_runs.specs.RunsState.{RunsState}
use Rattle.engine_runs.specs.RunPlaces.{HasRunAt}
use Rattle.engine_core.specs.RunState.{IsOutAs, RunState, StoppedState, before_stop}
use Rattle.world_calls.specs.declared.record.StoppedAt.{StoppedAt}
use Rattle.world_calls.specs.declared.record.Record.{Record}
use Rattle.world_calls.specs.declared.record.Record.TheVariants.{Advance}
use Rattle.world.specs.World.{Setup, LiveRun, Runs, Transport, World}
use Rattle.world.specs.Lookups.{run_of, with_run}
use Rattle.world.specs.Event.{Event, Reply}
use Rattle.world.specs.RunSteps.{goes_on, answers, step_request}
use Rattle.world.specs.WorldRun.{Leads}
use Rattle.world.specs.Flat.{events_of}
use Rattle.engine_core.specs.declared.answers.AdvanceAnswer.{AdvanceAnswer}
use Rattle.engine_core.specs.declared.answers.AdvanceAnswer.TheVariants as advances
use Rattle.engine_core.specs.declared.commit_segment.Onward.{Onward}
use Rattle.engine_core.specs.declared.commit_segment.Onward.TheVariants as onward
use Rattle.engine_core.specs.Answers.{stopped_at}
use Rattle.engine_core.specs.EngineState.{world_of}
use Rattle.engine_core.specs.Invariant.{HoldEntries, KeepsEngine}

-- these are the transport and the runs of an engine, in which the segment is the next stretch of the run at this place
pub record IsAdmitted (transport : Transport) (runs : RunsState) (number place : ℕ) (segment : SegmentState) : Type 0 where
  pub setup : Setup
  pub history : List Record
  pub kept : KeepsEngine setup history transport runs
  pub program : List Slot
  pub out : IsOutAs runs.runs.list number program segment
  pub there : HasRunAt runs.runs.list place out.it

-- the events lead to a world that has this transport and these runs
pub record LeadsTo (setup : Setup) (before : World) (events : List (Event × Reply)) (transport : Transport) (runs : Runs) : Type 0 where
  pub world : World
  pub leads : Leads setup before events world
  pub is : world ≡ record world { transport = transport; runs = runs }

-- The record of the run's advance stands for what leads from this transport and these runs to those, in each engine that
-- they are of.
abbrev pub LeadsBy : StoppedAt → ℕ → ℕ → SegmentState → Transport → RunsState → Transport → RunsState → Type 0
LeadsBy stop r0 place segment transport runs more after =
    (number : ℕ) → IsAdmitted transport runs number place segment →
    (setup : Setup) (history : List Record) → KeepsEngine setup history transport runs →
    LeadsTo setup (world_of setup history transport runs.runs) (events_of (Advance number segment.steps stop r0)) more after.runs

-- The call of a run that stands there gets this answer, in a world that has this transport and these runs once the call is
-- carried out, but before the run goes on.
pub record IsCarriedOut (before : World) (run : LiveRun) (request : Request) (given : Answer) (transport : Transport) (runs : Runs) : Type 0 where
  pub world : World
  pub step : step_request before run request ≡ Some (answers world run request given)
  pub is : world ≡ record world { transport = transport; runs = runs }

-- the run as it stands at the stop of its segment
abbrev pub at_stop : LiveRun → SegmentState → LiveRun
at_stop run segment = record run { machine = segment.to }

-- What a call does before its run goes on: it gets an answer that the run may get, the live runs are as they were, and what
-- each holds are the entries that name it. In each engine of this transport and these runs it is the world's step of the run
-- that stands there.
pub record Does (place : ℕ) (segment : SegmentState) (request : Request) (given : Answer) (transport : Transport) (runs : RunsState) (more : Transport) (after : RunsState) : Type 0 where
  pub allowed : IsAnswer segment.to request given
  pub list : after.runs.list ≡ runs.runs.list
  pub tokens : HoldEntries more.freezes after
  pub step : (number : ℕ) → (a : IsAdmitted transport runs number place segment) →
      (setup : Setup) (history : List Record) → KeepsEngine setup history transport runs →
      IsCarriedOut (goes_on (world_of setup history transport runs.runs) a.out.it segment.to) (at_stop a.out.it segment) request given
      more (record after.runs { list = with_run (at_stop a.out.it segment) after.runs.list })

-- The segment stops at this call, and is the next stretch of the run at this place.
pub record IsCalled (transport : Transport) (runs : RunsState) (place : ℕ) (segment : SegmentState) (request : Request) : Type 0 where
  pub segment_is : IsSegment segment
  pub stop : segment.stop ≡ at_helper request
  pub number : ℕ
  pub admitted : IsAdmitted transport runs number place segment

-- the helper of the call does this deed
abbrev pub IsOfDeed : HelperEffect → Request → Type 0
IsOfDeed effect request = (row_of request.helper).effect ≡ effect

-- a run at this place stands at such a call
abbrev pub AsksOf : HelperEffect → Transport → RunsState → ℕ → Request → Type 0
AsksOf effect transport runs place request = IsOfDeed effect request × ((segment : SegmentState) × IsCalled transport runs place segment request)

-- with some transport
abbrev pub Asks : HelperEffect → RunsState → ℕ → Request → Type 0
Asks effect runs place request = IsOfDeed effect request × ((transport : Transport) × (segment : SegmentState) × IsCalled transport runs place segment request)

-- a call that freezes this place: a queue that it names, or the controller that its run's queue is under
pub data FreezesPlace (place : ℕ) (runs : RunsState) (request : Request) (frozen : Place) : Type 0 where
  freezes_queue : IsOfDeed effects.Freeze request → frozen ≡ device request.arguments.first → FreezesPlace place runs request frozen
  freezes_controller : IsOfDeed effects.FreezeController request → ((run : LiveRun) → HasRunAt runs.runs.list place run → frozen ≡ Controller run.controller) → FreezesPlace place runs request frozen

abbrev pub AsksToFreeze : Place → Transport → RunsState → ℕ → Request → Type 0
AsksToFreeze frozen transport runs place request =
    FreezesPlace place runs request frozen × ((segment : SegmentState) × IsCalled transport runs place segment request)

-- what is done is what such a call does
pub record RefinesHelperStep (place : ℕ) (request : Request) (given : Answer) (transport : Transport) (runs : RunsState) (more : Transport) (after : RunsState) : Type 0 where
  pub does : (segment : SegmentState) → IsCalled transport runs place segment request → Does place segment request given transport runs more after

-- whatever the transport is, and it stays
abbrev pub RefinesOnRuns : ℕ → Request → Answer → RunsState → RunsState → Type 0
RefinesOnRuns place request given runs after = (transport : Transport) → RefinesHelperStep place request given transport runs transport after

-- the segment ends in this machine, which stands at this stop
pub record EndsAt (segment : SegmentState) (machine : MachineState) (stop : Stop) : Type 0 where
  pub segment_is : IsSegment segment
  pub machine_is : segment.to ≡ machine
  pub stop_is : segment.stop ≡ stop

-- The run at this place goes on there with its next machine, and is otherwise as it was. What its program reached before such a
-- segment, it has reached after that, by as many instructions more.
pub record RunContinues (at : MachineState) (stop : Stop) (old new : List LiveRun) (place : ℕ) : Type 0 where
  pub machine : MachineState
  pub stands : (it : LiveRun) → HasRunAt old place it → HasRunAt new place (record it { machine = machine })
  pub found : (number : ℕ) (it : LiveRun) → HasRunAt old place it → run_of number old ≡ Some it → run_of number new ≡ Some (record it { machine = machine })
  pub reached : (segment : SegmentState) → EndsAt segment at stop → (n : ℕ) → Reached segment.program.program n segment.from → Reached segment.program.program (n + segment.steps) machine

-- the run at this place goes on with this machine, and all else is as it was
abbrev pub Goes : RunsState → RunsState → ℕ → MachineState → Type 0
Goes old after place machine =
    (it : LiveRun) → HasRunAt old.runs.list place it → after ≡ record old { runs = record old.runs { list = with_run (record it { machine = machine }) old.runs.list } }

abbrev pub Stands : RunsState → RunsState → ℕ → MachineState → Type 0
Stands old after place machine = (it : LiveRun) → HasRunAt old.runs.list place it → HasRunAt after.runs.list place (record it { machine = machine })

-- a segment that ends so is the next stretch of the run at this place
pub record ArrivesAt (transport : Transport) (runs : RunsState) (place : ℕ) (machine : MachineState) (stop : Stop) : Type 0 where
  pub segment : SegmentState
  pub ends : EndsAt segment machine stop
  pub number : ℕ
  pub admitted : IsAdmitted transport runs number place segment

-- the record of an advance by such a segment stands for what leads from this transport and these runs to those
abbrev pub LeadsFrom : MachineState → Stop → ℕ → ℕ → Transport → RunsState → Transport → RunsState → Type 0
LeadsFrom machine stop r0 place transport runs more after =
    (segment : SegmentState) → EndsAt segment machine stop → LeadsBy (stopped_at stop) r0 place segment transport runs more after

-- R0 after the stop
abbrev pub r0_onward : Onward → ℕ
r0_onward (onward.Goes r0 spare) = r0
r0_onward (onward.Ended r0 spare) = r0

abbrev pub is_going : Onward → Bool
is_going (onward.Goes r0 spare) = true
is_going (onward.Ended r0 spare) = false

-- what becomes of the run at this place: it goes on, or it exited with this R0
abbrev pub Continues : Onward → MachineState → Stop → List LiveRun → List LiveRun → ℕ → Type 0
Continues (onward.Goes r0 spare) at stop old new place = RunContinues at stop old new place
Continues (onward.Ended r0 spare) at stop old new place = stop ≡ at_exit r0

-- the same run goes on, with that machine
pub record GoesAs (run : StoppedState) (again : RunState) (old new : List LiveRun) (place : ℕ) : Type 0 where
  pub on : RunContinues run.segment.to run.segment.stop old new place
  pub is : again ≡ record (before_stop run) { machine = on.machine }

-- what becomes of the run: it goes on, or it exited with this R0
abbrev pub Becomes : StoppedState → AdvanceAnswer → List LiveRun → List LiveRun → ℕ → Type 0
Becomes run (advances.Goes again r0) old new place = GoesAs run again old new place
Becomes run (advances.Ended r0) old new place = run.segment.stop ≡ at_exit r0

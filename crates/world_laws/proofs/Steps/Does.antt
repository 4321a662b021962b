-- What the calls of helpers do: each to the freezes, to the CCBs, and to the openings and the tables, in one of a few ways.
use Rattle.std.proofs.Common.{◌≡◌, ℕ, ◌+◌, ◌<◌, [], true, false, cond, eqb, Some, ap, sym, subst, ◌∙◌}
use Rattle.ccb.specs.Ccb.{advised, requeued}
use Rattle.freeze_ledger.specs.declared.freeze.Holder.TheVariants.{Run}
use Rattle.freeze_ledger.specs.declared.freeze.Freeze.{Freeze}
use Rattle.freeze_ledger.specs.Freezes.{frozen, meets_limit, entry_of, without, handed_over}
use Rattle.helpers.specs.declared.table.Helper.{Helper}
use Rattle.helpers.specs.declared.table.Helper.TheVariants as helpers
use Rattle.helpers.specs.declared.table.HelperEffect.{HelperEffect}
use Rattle.helpers.specs.declared.table.HelperEffect.TheVariants as effects
use Rattle.helpers.specs.declared.columns.Gives.{Gives}
use Rattle.helpers.specs.declared.columns.Gives.TheVariants.{Number, NewFreeze}
use Rattle.helpers.specs.declared.columns.Change.{Change}
use Rattle.helpers.specs.declared.columns.Change.TheVariants as changes
use Rattle.helpers.specs.declared.request.Request.{Request}
use Rattle.helpers.specs.declared.request.Answer.{Answer}
use Rattle.helpers.specs.Table.{row_of, answer_number}
use Rattle.bpf_semantics.specs.Step.{answered, IsAnswer}
use Rattle.world.specs.declared.ccb_state.CcbState.TheVariants.{Waiting}
use Rattle.ccb.specs.declared.place.Place.{Place}
use Rattle.ccb.specs.Places.{is_place}
use Rattle.world.specs.World.{Setup, queue_count, queue_setup, LiveCcb, LiveRun, World}
use Rattle.world.specs.Lookups.{ccb_of, with_ccb, run_of}
use Rattle.world.specs.Refusals.{is_unknown}
use Rattle.world.specs.Told.{plain, finishes, told_of}
use Rattle.world.specs.Event.{call, executes, Reply, result}
use Rattle.world.specs.FreezeSteps.{frozen_with, froze}
use Rattle.world.specs.CcbSteps.{ended_with}
use Rattle.world.specs.RunSteps.{is_run, answers}
use Rattle.world.specs.Laws.FreezeLaws.{Calls, MovesByEffect, MovesCounts}
use Rattle.world.specs.Laws.CcbLaws.{finished_by}
use Rattle.world.specs.Laws.TookGave.{taken_as, taken_by, asked}
use Rattle.world.specs.Laws.Headline.{disposes, is_disposing}
use Rattle.world.specs.Lawful.{IsLawful}
use Rattle.world.specs.Limits.{KeepsLimits, NamesNoOther}
use Rattle.world.proofs.Steps.Answering.{OpeningsMove, TablesMove}
use Rattle.world_laws.proofs.Telling.{helper_told}

-- what an answer may be taken from: a world that keeps the limits of a lawful setup, with the run's queue among its queues
pub record AnswersFrom (setup : Setup) (before : World) (run : LiveRun) : Type 0 where
  pub lawful : IsLawful setup
  pub kept : KeepsLimits setup before
  pub queue : run.queue < queue_count setup

-- What a call of a helper does to the freezes, `between` being the world in which its answer comes.

-- nothing, and the run holds what it held
pub record LeavesFreezes (setup : Setup) (before : World) (run : LiveRun) (request : Request) (given : Answer) (between : World) : Type 0 where
  pub keeps : asked (Some request) ≡ []
  pub allowed : AnswersFrom setup before run → IsAnswer run.machine request given
  pub held : (answered request given run.machine).held ≡ run.machine.held
  pub taken : (other number : ℕ) → taken_by other (executes number (call (told_of request))) (result given.r0) ≡ []
  pub moves : (number : ℕ) (after : World) → Calls before number request → after.transport.freezes ≡ before.transport.freezes → MovesCounts before (executes number (call (told_of request))) (result given.r0) after
  pub freezes_is : between.transport.freezes ≡ before.transport.freezes
  pub greatest_is : between.transport.greatest_freeze ≡ before.transport.greatest_freeze

-- the run is of a queue that there is, and under its controller
abbrev pub IsAmong : Setup → LiveRun → Type 0
IsAmong setup run = (run.queue < queue_count setup) × (run.controller ≡ (queue_setup setup run.queue).controller)

-- the run takes a new one, of a place that there is
pub record TakesOne (setup : Setup) (before : World) (run : LiveRun) (request : Request) (given : Answer) (between : World) : Type 0 where
  pub place : Place
  pub machine_is : (row_of request.helper).machine ≡ changes.Holds
  pub gives_is : (row_of request.helper).gives ≡ NewFreeze
  pub known : NamesNoOther setup → IsAmong setup run → is_unknown setup place ≡ false
  pub moves :
      (number freeze : ℕ) (after : World) → Calls before number request → run_of number before.runs.list ≡ Some run →
      ((other : Place) → frozen other after.transport.freezes ≡ frozen other before.transport.freezes + cond (eqb freeze 0) 0 (cond (is_place place other) 1 0)) →
      MovesCounts before (executes number (call (told_of request))) (result freeze) after
  pub room : meets_limit place before.transport.freezes before.transport.greatest_freeze ≡ false
  pub given_is : given ≡ answer_number (before.transport.greatest_freeze + 1)
  pub freezes_is : between.transport.freezes ≡ (froze before place (Run run.number)).transport.freezes
  pub greatest_is : between.transport.greatest_freeze ≡ before.transport.greatest_freeze + 1

-- one that the run holds goes
pub record GivesOneBack (before : World) (run : LiveRun) (request : Request) (given : Answer) (between : World) : Type 0 where
  pub deed_is : (row_of request.helper).effect ≡ effects.GiveBack
  pub machine_is : (row_of request.helper).machine ≡ changes.GivesUp
  pub gives_is : (row_of request.helper).gives ≡ Number 0 254
  pub freeze : Freeze
  pub entry : entry_of request.arguments.first before.transport.freezes ≡ Some freeze
  pub its : is_run run.number freeze.holder ≡ true
  pub given_is : given ≡ answer_number (frozen_with freeze (without request.arguments.first before.transport.freezes))
  pub freezes_is : between.transport.freezes ≡ without request.arguments.first before.transport.freezes
  pub greatest_is : between.transport.greatest_freeze ≡ before.transport.greatest_freeze

-- one that the run holds is a timer's from now on
pub record HandsOneOver (before : World) (run : LiveRun) (request : Request) (given : Answer) (between : World) : Type 0 where
  pub deed_is : (row_of request.helper).effect ≡ effects.HandOver
  pub machine_is : (row_of request.helper).machine ≡ changes.GivesUp
  pub gives_is : (row_of request.helper).gives ≡ Number 0 0
  pub freeze : Freeze
  pub entry : entry_of request.arguments.first before.transport.freezes ≡ Some freeze
  pub its : is_run run.number freeze.holder ≡ true
  pub given_is : given ≡ answer_number 0
  pub freezes_is : between.transport.freezes ≡ handed_over request.arguments.first (before.transport.clock + request.arguments.second) before.transport.freezes
  pub greatest_is : between.transport.greatest_freeze ≡ before.transport.greatest_freeze

pub data FreezeDeed (setup : Setup) (before : World) (run : LiveRun) (request : Request) (given : Answer) (between : World) : Type 0 where
  leaves_freezes : LeavesFreezes setup before run request given between → FreezeDeed setup before run request given between
  takes_one : TakesOne setup before run request given between → FreezeDeed setup before run request given between
  gives_one_back : GivesOneBack before run request given between → FreezeDeed setup before run request given between
  hands_one_over : HandsOneOver before run request given between → FreezeDeed setup before run request given between

-- What it does to the CCBs.

-- nothing
pub record LeavesCcbs (before : World) (run : LiveRun) (request : Request) (given : Answer) (between : World) : Type 0 where
  pub calm : is_disposing (told_of request) ≡ false
  pub ends_none : (number : ℕ) (reply : Reply) → finished_by before (executes number (call (told_of request))) reply ≡ []
  pub disposed : (answered request given run.machine).disposed ≡ run.machine.disposed
  pub live_is : between.transport.live ≡ before.transport.live
  pub ended_is : between.ended ≡ before.ended
  pub greatest_is : between.transport.greatest_ccb ≡ before.transport.greatest_ccb

-- the run's CCB is there and not disposed of
pub record HasItsCcb (before : World) (run : LiveRun) : Type 0 where
  pub fresh : run.machine.disposed ≡ false
  pub live : LiveCcb
  pub found : ccb_of run.ccb before.transport.live ≡ Some live

-- it waits again
pub record RequeuesOne (before : World) (run : LiveRun) (request : Request) (between : World) : Type 0 where
  pub deed_is : (row_of request.helper).effect ≡ effects.Requeue
  pub machine_is : (row_of request.helper).machine ≡ changes.Disposes
  pub told_is : told_of request ≡ plain request.helper
  pub its : HasItsCcb before run
  pub live_is : between.transport.live ≡ with_ccb (record { ccb = requeued its.live.ccb request.arguments.first; state = Waiting }) before.transport.live
  pub ended_is : between.ended ≡ before.ended
  pub greatest_is : between.transport.greatest_ccb ≡ before.transport.greatest_ccb

-- it ends with the code that is told
pub record EndsOne (before : World) (run : LiveRun) (request : Request) (between : World) : Type 0 where
  pub deed_is : (row_of request.helper).effect ≡ effects.Finish
  pub machine_is : (row_of request.helper).machine ≡ changes.Disposes
  pub told_is : told_of request ≡ finishes request.helper request.arguments.first
  pub its : HasItsCcb before run
  pub live_is : between.transport.live ≡ (ended_with before its.live.ccb request.arguments.first).transport.live
  pub ended_is : between.ended ≡ (ended_with before its.live.ccb request.arguments.first).ended
  pub greatest_is : between.transport.greatest_ccb ≡ before.transport.greatest_ccb

-- it has this advice from now on, and is as it was but for that
pub record AdvisesOne (before : World) (run : LiveRun) (request : Request) (given : Answer) (between : World) : Type 0 where
  pub helper_is : request.helper ≡ helpers.Advise
  pub told_is : told_of request ≡ plain request.helper
  pub calm : is_disposing (told_of request) ≡ false
  pub disposed : (answered request given run.machine).disposed ≡ run.machine.disposed
  pub its : HasItsCcb before run
  pub live_is : between.transport.live ≡ with_ccb (record its.live { ccb = advised its.live.ccb request.arguments.first }) before.transport.live
  pub ended_is : between.ended ≡ before.ended
  pub greatest_is : between.transport.greatest_ccb ≡ before.transport.greatest_ccb

pub data CcbDeed (before : World) (run : LiveRun) (request : Request) (given : Answer) (between : World) : Type 0 where
  leaves_ccbs : LeavesCcbs before run request given between → CcbDeed before run request given between
  requeues_one : RequeuesOne before run request between → CcbDeed before run request given between
  ends_one : EndsOne before run request between → CcbDeed before run request given between
  advises_one : AdvisesOne before run request given between → CcbDeed before run request given between

-- What it does to the openings and the tables: one number is set, or none. No call touches the runs or the clock.
pub record LeavesTheRest (before between : World) : Type 0 where
  pub openings : OpeningsMove before.transport.openings between.transport.openings
  pub tables : TablesMove before.runs.tables between.runs.tables
  pub runs_is : between.runs.list ≡ before.runs.list
  pub greatest_is : between.runs.greatest ≡ before.runs.greatest
  pub clock_is : between.transport.clock ≡ before.transport.clock

-- All that a call does, with its answer.
pub record Does (setup : Setup) (before : World) (run : LiveRun) (request : Request) (step : Reply × World) : Type 0 where
  pub given : Answer
  pub between : World
  pub answer : step ≡ answers between run request given
  pub freezes : FreezeDeed setup before run request given between
  pub ccbs : CcbDeed before run request given between
  pub rest : LeavesTheRest before between

-- What the columns of its helper say of a call that is told.

-- what it gives to a run
pub takes_by : (gives : Gives) (request : Request) → (row_of request.helper).gives ≡ gives → (run number r0 : ℕ) → taken_by run (executes number (call (told_of request))) (result r0) ≡ taken_as gives run number r0
takes_by gives request is run number r0 =
    ap (λ (h : Helper). taken_as (row_of h).gives run number r0) (helper_told request) ∙ ap (λ (g : Gives). taken_as g run number r0) is

-- how it moves counts
pub moves_by : (effect : HelperEffect) (request : Request) → (row_of request.helper).effect ≡ effect → (before : World) (number : ℕ) (reply : Reply) (after : World) → MovesByEffect effect before number reply after → MovesCounts before (executes number (call (told_of request))) reply after
moves_by effect request is before number reply after moves =
    subst (λ (d : HelperEffect). MovesByEffect d before number reply after) (sym (ap (λ (h : Helper). (row_of h).effect) (helper_told request) ∙ is)) moves

-- whether it disposes of a CCB
pub disposes_by : (change : Change) (request : Request) → (row_of request.helper).machine ≡ change → is_disposing (told_of request) ≡ disposes change
disposes_by change request is = ap (λ (h : Helper). disposes (row_of h).machine) (helper_told request) ∙ ap disposes is

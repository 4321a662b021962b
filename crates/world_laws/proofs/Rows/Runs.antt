-- A worked run: a CCB times out, its queue is frozen, and the queue's program gives the freeze back and makes the CCB
-- wait again.
use Rattle.std.proofs.Common.{◌≡◌, false, List, [], ◌∷◌, map, Some, None, Ok, refl}
use Rattle.ccb.specs.declared.cam_status.CamStatus.TheVariants.{CommandTimeout, RequestInProgress, RequestCompleted}
use Rattle.helpers.specs.declared.table.Helper.TheVariants as helpers
use Rattle.helpers.specs.Table.{row_of}
use Rattle.freeze_ledger.specs.declared.freeze.Holder.TheVariants.{Run}
use Rattle.helpers.specs.declared.limits.HelperLimits.{HelperLimits}
use Rattle.table_store.specs.Tables.{zero_table}
use Rattle.world_calls.specs.declared.record.StoppedAt.TheVariants.{Helper, Exit}
use Rattle.world_calls.specs.declared.record.Record.{Record}
use Rattle.world_calls.specs.declared.call.Call.TheVariants.{Submit, Dispatch, Complete}
use Rattle.world_calls.specs.declared.call_answer.CallAnswer.TheVariants as answers
use Rattle.world_calls.specs.declared.record.Record.TheVariants.{Called, Advance}
use Rattle.ccb.specs.declared.call_refusal.CallRefusal.TheVariants.{NotActive, Frozen}
use Rattle.world.specs.declared.ccb_state.CcbState.TheVariants.{Waiting}
use Rattle.ccb.specs.Places.{device}
use Rattle.world.specs.World.{LiveRun, World, opening}
use Rattle.world.specs.Told.{plain}
use Rattle.world.specs.Event.{private, call, exit, Event, executes, Reply, went_on, result, refused}
use Rattle.world_laws.proofs.Rows.Words.{submit, dispatch, complete, ccb_given, run_started}
use Rattle.world.specs.Step.{step}
use Rattle.world.specs.WorldRun.{WorldRun, world_after}
use Rattle.world.specs.Laws.TookGave.{took, gave}
use Rattle.world.specs.Laws.CcbLaws.{finished_in}
use Rattle.world.specs.Laws.Headline.{steps_of, disposals_of, exits_of}
use Rattle.world.specs.Flat.{flat}
use Rattle.world.specs.TotalsOf.{TotalsOf}
use Rattle.world_laws.proofs.Rows.Worked.{answer, next, one_queue, outcome_of, running}

abbrev submitted_one : HelperLimits → World
submitted_one l = next (one_queue l) (opening (one_queue l)) (submit 0 10 3)

abbrev started_one : HelperLimits → World
started_one l = next (one_queue l) (submitted_one l) (dispatch 0)

abbrev failed : HelperLimits → World
failed l = next (one_queue l) (started_one l) (complete (outcome_of 1 CommandTimeout))

abbrev at_release : HelperLimits → World
at_release l = next (one_queue l) (next (one_queue l) (failed l) (executes 1 private)) (executes 1 private)

abbrev released : HelperLimits → World
released l = next (one_queue l) (at_release l) (executes 1 (call (plain helpers.Release)))

abbrev at_requeue : HelperLimits → World
at_requeue l = next (one_queue l) (released l) (executes 1 private)

abbrev requeued_one : HelperLimits → World
requeued_one l = next (one_queue l) (at_requeue l) (executes 1 (call (plain helpers.Requeue)))

abbrev at_exit : HelperLimits → World
at_exit l = next (one_queue l) (requeued_one l) (executes 1 private)

-- at the end no freeze is there and no run, and the CCB waits, started once, with one retry fewer
abbrev at_end : HelperLimits → World
at_end l = record {
  transport = record {
    live = record {
      ccb = record {
        number = record { 0 = 1 };
        queue = record { 0 = 0 };
        priority = 10;
        retries = 2;
        class = 0;
        attempts = 1;
        status = RequestInProgress;
        scsi = 0;
        sense = [];
        freeze_taken = false;
        advice = 0;
      };
      state = Waiting;
    } ∷ [];
    freezes = [];
    openings = 2 ∷ [];
    greatest_ccb = 1;
    greatest_freeze = 1;
    clock = 0;
  };
  runs = record { list = []; tables = map zero_table l.table_lengths; greatest = 1 };
  ended = [];
}

-- the six records that a transport makes of it
abbrev records : List Record
records =
    Called (answers.Ccb (record { 0 = 1 })) (Submit (record { 0 = 0 }) 10 3 None)
    ∷ Called (answers.Ccb (record { 0 = 1 })) (Dispatch (record { 0 = 0 }))
    ∷ Called (answers.Started 1 1) (Complete (outcome_of 1 CommandTimeout))
    ∷ Advance 1 3 (Helper helpers.Release) 0
    ∷ Advance 1 2 (Helper helpers.Requeue) 0
    ∷ Advance 1 2 Exit 0 ∷ []

abbrev events : List (Event × Reply)
events =
    (submit 0 10 3, ccb_given 1)
    ∷ (dispatch 0, ccb_given 1)
    ∷ (complete (outcome_of 1 CommandTimeout), run_started 1 1)
    ∷ (executes 1 private, went_on) ∷ (executes 1 private, went_on) ∷ (executes 1 (call (plain helpers.Release)), result 0)
    ∷ (executes 1 private, went_on) ∷ (executes 1 (call (plain helpers.Requeue)), result 0)
    ∷ (executes 1 private, went_on) ∷ (executes 1 exit, result 0) ∷ []

what_they_stand_for : flat records ≡ events
what_they_stand_for = refl

it_runs : (l : HelperLimits) → WorldRun (one_queue l) events (at_end l)
unfolding row_of
it_runs l = (
  tt,
  (
    submitted_one l,
    refl,
    (
      started_one l,
      refl,
      (
        failed l,
        refl,
        (
          next (one_queue l) (failed l) (executes 1 private),
          refl,
          (
            at_release l,
            refl,
            (
              released l,
              refl,
              (
                at_requeue l,
                refl,
                (
                  requeued_one l,
                  refl,
                  (
                    at_exit l,
                    refl,
                    (
                      at_end l,
                      refl,
                      refl,
                    ),
                  ),
                ),
              ),
            ),
          ),
        ),
      ),
    ),
  ),
)

its_totals : (l : HelperLimits) → TotalsOf (one_queue l) records (record { history = 6; frozen = 0; active = 0; runs = 0 })
its_totals l = (at_end l, it_runs l, refl)

-- the run got freeze 1 at its start, and gave it up
it_took : took 1 events ≡ 1 ∷ []
unfolding row_of
it_took = refl

it_gave : (l : HelperLimits) → gave 1 (one_queue l) (opening (one_queue l)) events (at_end l) (it_runs l).1 ≡ 1 ∷ []
unfolding it_runs
it_gave l = refl

-- in between the queue was frozen by the run, and its CCB was in recovery
its_freeze : (l : HelperLimits) → (failed l).transport.freezes ≡ record { number = 1; place = device 0; holder = Run 1 } ∷ []
its_freeze l = refl

-- the run is that of the CCB that failed, at its start and at its exit
its_ccb : (l : HelperLimits) → (map (λ run. run.ccb) (failed l).runs.list ≡ 1 ∷ []) × (map (λ run. run.ccb) (at_exit l).runs.list ≡ 1 ∷ [])
unfolding row_of
its_ccb l = (refl, refl)

-- the run's seven steps are its budget; it made its CCB wait again once, and exited
its_steps : (steps_of 1 events ≡ 7) × (disposals_of 1 events ≡ 1) × (exits_of 1 events ≡ 1)
unfolding row_of
its_steps = (refl, refl, refl)

-- no CCB ended
none_ended : (l : HelperLimits) → finished_in (one_queue l) (opening (one_queue l)) events (at_end l) (it_runs l).1 ≡ []
unfolding it_runs
none_ended l = refl

-- by the steps alone the events lead there
its_world : (l : HelperLimits) → world_after (one_queue l) (opening (one_queue l)) events ≡ at_end l
unfolding row_of
its_world l = refl

-- while the run holds its freeze, the queue starts nothing
abbrev another_waits : HelperLimits → World
another_waits l = next (one_queue l) (failed l) (submit 0 10 3)

frozen_by_the_run : (l : HelperLimits) → answer (one_queue l) (another_waits l) (dispatch 0) ≡ Some (refused Frozen)
frozen_by_the_run l = refl

then_it_starts : (l : HelperLimits) → answer (one_queue l) (next (one_queue l) (released l) (submit 0 10 3)) (dispatch 0) ≡ Some (ccb_given 2)
unfolding row_of
then_it_starts l = refl

-- the CCB is in recovery, so that a second completion of it is refused
completed_again : (l : HelperLimits) → answer (one_queue l) (failed l) (complete (outcome_of 1 CommandTimeout)) ≡ Some (refused NotActive)
completed_again l = refl

-- at the call of helper 2 that call is the run's one step, and there is no run 2
no_private : (l : HelperLimits) → step (one_queue l) (at_release l) (executes 1 private) ≡ None
no_private l = refl

no_requeue : (l : HelperLimits) → step (one_queue l) (at_release l) (executes 1 (call (plain helpers.Requeue))) ≡ None
unfolding row_of
no_requeue l = refl

no_exit : (l : HelperLimits) → step (one_queue l) (at_release l) (executes 1 exit) ≡ None
no_exit l = refl

no_other_run : (l : HelperLimits) → step (one_queue l) (at_release l) (executes 2 (call (plain helpers.Release))) ≡ None
no_other_run l = refl

-- a run that is not out executes nothing
abbrev parked : LiveRun → LiveRun
parked run = record run { out = false }

not_out : (l : HelperLimits) → step (one_queue l) ((running (λ r. record r { list = map parked (failed l).runs.list }) (failed l))) (executes 1 private) ≡ None
not_out l = refl

-- the first run made the CCB wait again, which is started again and then succeeds; it ends with its code
starts_again : (l : HelperLimits) → answer (one_queue l) (at_end l) (dispatch 0) ≡ Some (ccb_given 1)
starts_again l = refl

succeeds_at_last : (l : HelperLimits) → (next (one_queue l) (next (one_queue l) (at_end l) (dispatch 0)) (complete (outcome_of 1 RequestCompleted))).ended ≡ record { number = 1; code = 1 } ∷ []
succeeds_at_last l = refl

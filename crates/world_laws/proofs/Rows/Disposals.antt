-- Worked rows of helpers 4 and 5: what becomes of the CCB that a run recovers, while the other CCBs stay as they are.
use Rattle.std.proofs.Common.{◌≡◌, ℕ, true, false, List, [], ◌∷◌, map, Some, None, refl}
use Rattle.ccb.specs.declared.cam_status.CamStatus.TheVariants.{CommandTimeout, RequestInProgress}
use Rattle.helpers.specs.declared.table.Helper.TheVariants as helpers
use Rattle.helpers.specs.Table.{row_of, asking}
use Rattle.world.specs.declared.ccb_state.CcbState.TheVariants.{Waiting, Active, InRecovery}
use Rattle.world.specs.World.{LiveCcb, World}
use Rattle.world.specs.Lookups.{ccb_of}
use Rattle.world.specs.Told.{plain}
use Rattle.world.specs.Event.{call, Event, executes, instruction_of}
use Rattle.world.specs.Step.{step}
use Rattle.world.specs.Laws.Headline.{DisposesBy}
use Rattle.world_laws.proofs.Rows.Worked.{ccb_in, next, running, transported, with_freezes}
use Rattle.world_laws.proofs.Rows.Calls.{setup, run_at, ends}

-- CCB 1 was started twice, timed out with sense bytes, and has so many retries
abbrev failed : ℕ → LiveCcb
failed retries = record {
  ccb = record {
    number = record { 0 = 1 };
    queue = record { 0 = 0 };
    priority = 5;
    retries = retries;
    class = 0;
    attempts = 2;
    status = CommandTimeout;
    scsi = 2;
    sense = 112 ∷ 0 ∷ 6 ∷ [];
    freeze_taken = true;
    advice = 0;
  };
  state = InRecovery;
}

-- it waits with so many retries, and what the completion brought is gone
abbrev waits : ℕ → LiveCcb
waits retries = record {
  ccb = record {
    number = record { 0 = 1 };
    queue = record { 0 = 0 };
    priority = 5;
    retries = retries;
    class = 0;
    attempts = 2;
    status = RequestInProgress;
    scsi = 0;
    sense = [];
    freeze_taken = false;
    advice = 0;
  };
  state = Waiting;
}

-- the others: one waits, one is active and one is in recovery
abbrev the_others : List LiveCcb
the_others = ccb_in 2 5 Waiting ∷ ccb_in 3 7 Active ∷ ccb_in 4 7 InRecovery ∷ []

-- run 1 recovers CCB 1, and stands at a call of this helper with this number
abbrev at_call : ℕ → ℕ → ℕ → World
at_call helper number retries = (transported (λ t. record t { live = failed retries ∷ the_others; greatest_ccb = 5 }) (running (λ r. record r { list = run_at helper number 0 [] false ∷ []; greatest = 1 }) ((record (with_freezes [] 0) { ended = record { number = 5; code = 4 } ∷ [] }))))

abbrev requeues : Event
requeues = executes 1 (call (plain helpers.Requeue))

-- A CCB that is requeued waits, with the retries that the call names fewer; the others are as they were, and none ends.

one_retry_fewer : (next setup (at_call 4 1 3) requeues).transport.live ≡ waits 2 ∷ the_others
unfolding row_of
one_retry_fewer = refl

no_retry_fewer : (next setup (at_call 4 0 3) requeues).transport.live ≡ waits 3 ∷ the_others
unfolding row_of
no_retry_fewer = refl

none_to_use : (next setup (at_call 4 1 0) requeues).transport.live ≡ waits 0 ∷ the_others
unfolding row_of
none_to_use = refl

none_ends : (next setup (at_call 4 1 3) requeues).ended ≡ record { number = 5; code = 4 } ∷ []
unfolding row_of
none_ends = refl

no_two_retries : step setup (at_call 4 2 3) requeues ≡ None
unfolding row_of
no_two_retries = refl

-- as the headline says it
is_requeued : DisposesBy (instruction_of 1 requeues) 1 1 (failed 3) (at_call 4 1 3) (next setup (at_call 4 1 3) requeues)
unfolding row_of
is_requeued = record {
  request = asking helpers.Requeue 1 0 0;
  calls = (run_at 4 1 0 [] false, refl, refl);
  does = (
    refl,
    record {
      now = waits 2;
      found = refl;
      state = refl;
      queue = refl;
      priority = refl;
      retries = refl;
      attempts = refl;
      status = refl;
      scsi = refl;
      sense = refl;
      freeze_taken = refl;
      ended = refl;
    },
  );
}

-- A CCB that is finished is gone, and ends last, with the code; the others are as they were.

finished : (next setup (at_call 5 11 3) (ends 11)).transport.live ≡ the_others
unfolding row_of
finished = refl

ends_last : (next setup (at_call 5 11 3) (ends 11)).ended ≡ record { number = 5; code = 4 } ∷ record { number = 1; code = 11 } ∷ []
unfolding row_of
ends_last = refl

is_finished : DisposesBy (instruction_of 1 (ends 11)) 1 1 (failed 3) (at_call 5 11 3) (next setup (at_call 5 11 3) (ends 11))
unfolding row_of
is_finished = record {
  request = asking helpers.Finish 11 0 0;
  calls = (run_at 5 11 0 [] false, refl, refl);
  does = (refl, record { gone = refl; ended = refl });
}

-- it was in recovery until then
found_failed : ccb_of 1 (at_call 4 1 3).transport.live ≡ Some (failed 3)
found_failed = refl

-- the run goes on, and has disposed of it
disposed_of : map (λ run. run.machine.disposed) (next setup (at_call 4 1 3) requeues).runs.list ≡ true ∷ []
unfolding row_of
disposed_of = refl

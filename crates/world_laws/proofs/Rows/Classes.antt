-- Worked rows of classes, advice and withdrawals: what a submission says, what a run advises and a start tells, and which CCB a host may
-- withdraw.
use Rattle.std.proofs.Common.{◌≡◌, ℕ, Bool, true, false, [], ◌∷◌, map, Some, None, refl}
use Rattle.std.specs.Prelude.{take, drop}
use Rattle.ccb.specs.declared.cam_status.CamStatus.TheVariants.{CommandTimeout}
use Rattle.ccb.specs.declared.call_refusal.CallRefusal.TheVariants.{Unknown, Limit, NotActive}
use Rattle.ccb.specs.Ccb.{submitted}
use Rattle.helpers.specs.declared.limits.HelperSet.TheVariants.{Classes, Controllers}
use Rattle.helpers.specs.declared.table.Helper.TheVariants as helpers
use Rattle.helpers.specs.Table.{of_queues, row_of}
use Rattle.world_calls.specs.declared.call.Call.TheVariants.{Withdraw}
use Rattle.world_calls.specs.declared.call_answer.CallAnswer.TheVariants as answers
use Rattle.world_calls.specs.declared.record.Record.TheVariants.{Called}
use Rattle.world.specs.declared.ccb_state.CcbState.{CcbState}
use Rattle.world.specs.declared.ccb_state.CcbState.TheVariants.{Waiting, Active, InRecovery}
use Rattle.world.specs.World.{Setup, LiveCcb, World, opening}
use Rattle.world.specs.Told.{plain}
use Rattle.world.specs.Event.{call, Event, executes, refused, result}
use Rattle.world.specs.Step.{step}
use Rattle.world.specs.Flat.{flat}
use Rattle.world.specs.Laws.CcbLaws.{finished_by}
use Rattle.world_laws.proofs.Rows.Calls.{run_at}
use Rattle.world_laws.proofs.Rows.Words.{submit, submit_as, dispatch, complete, withdraw, ccb_given, ccb_advised, run_started, ok}
use Rattle.world_laws.proofs.Rows.Worked.{answer, ccb_in, next, outcome_of, queue_of, running, transported, with_ccbs, with_freezes}

-- one queue under one controller, if CCBs have a class, and if they have none
abbrev setup : Setup
setup = record { limits = record (of_queues 1 []) { helpers = Classes }; controllers = 1; tables = []; queues = queue_of 2 ∷ []; carried = None }

abbrev unclassed : Setup
unclassed = record setup { limits = record (of_queues 1 []) { helpers = Controllers } }

-- CCB 1 of this class and this advice, in this state
abbrev ccb_with : ℕ → ℕ → CcbState → LiveCcb
ccb_with class advice state = record {
  ccb = record (submitted (record { 0 = 1 }) (record { 0 = 0 }) 10 3 class) { advice = advice };
  state = state;
}

-- A submission says a class, which its CCB has until it ends.

said : step setup (opening setup) (submit_as 0 10 3 40) ≡ Some (ccb_given 1, with_ccbs (ccb_with 40 0 Waiting ∷ []) 1)
said = refl

greatest_class : step setup (opening setup) (submit_as 0 10 3 4294967295) ≡ Some (ccb_given 1, with_ccbs (ccb_with 4294967295 0 Waiting ∷ []) 1)
greatest_class = refl

-- one that says none is no event, nor is one that says a class to a transport whose CCBs have none, whatever would be refused
says_none : step setup (opening setup) (submit 0 10 3) ≡ None
says_none = refl

none_of_no_queue : step setup (opening setup) (submit 9 10 3) ≡ None
none_of_no_queue = refl

has_none : step unclassed (opening unclassed) (submit_as 0 10 3 40) ≡ None
has_none = refl

not_even_zero : step unclassed (opening unclassed) (submit_as 0 10 3 0) ≡ None
not_even_zero = refl

without_one : step unclassed (opening unclassed) (submit 0 10 3) ≡ Some (ccb_given 1, with_ccbs (ccb_with 0 0 Waiting ∷ []) 1)
without_one = refl

-- it is refused as any other is
unknown_queue : answer setup (opening setup) (submit_as 1 10 3 40) ≡ Some (refused Unknown)
unknown_queue = refl

used_up : answer setup (with_ccbs [] 4294967295) (submit_as 0 10 3 40) ≡ Some (refused Limit)
used_up = refl

-- the program of a failed CCB reads its class at offset 28 of the context
abbrev failed : World
failed = next setup (next setup (next setup (opening setup) (submit_as 0 10 3 40)) (dispatch 0)) (complete (outcome_of 1 CommandTimeout))

its_run : answer setup (next setup (next setup (opening setup) (submit_as 0 10 3 40)) (dispatch 0)) (complete (outcome_of 1 CommandTimeout)) ≡ Some (run_started 1 1)
its_run = refl

class_in_context : map (λ run. take 4 (drop 28 run.machine.context)) failed.runs.list ≡ (40 ∷ 0 ∷ 0 ∷ 0 ∷ []) ∷ []
class_in_context = refl

-- A run advises a word, and its CCB stays in recovery with all that its completion brought.

abbrev advises : Event
advises = executes 1 (call (plain helpers.Advise))

-- run 1 recovers CCB 1 of this advice, and stands at the call of helper 15 with this word
abbrev at_advise : ℕ → ℕ → Bool → World
at_advise advice word disposed = (transported (λ t. record t { live = ccb_with 40 advice InRecovery ∷ ccb_in 2 5 Waiting ∷ []; greatest_ccb = 2 }) (running (λ r. record r { list = run_at 15 word 0 [] disposed ∷ []; greatest = 1 }) (with_freezes [] 0)))

advised : answer setup (at_advise 0 7 false) advises ≡ Some (result 0)
unfolding row_of
advised = refl

its_advice : (next setup (at_advise 0 7 false) advises).transport.live ≡ ccb_with 40 7 InRecovery ∷ ccb_in 2 5 Waiting ∷ []
unfolding row_of
its_advice = refl

-- the last one counts, and 0 is none
in_its_place : (next setup (at_advise 9 7 false) advises).transport.live ≡ ccb_with 40 7 InRecovery ∷ ccb_in 2 5 Waiting ∷ []
unfolding row_of
in_its_place = refl

none_again : (next setup (at_advise 9 0 false) advises).transport.live ≡ ccb_with 40 0 InRecovery ∷ ccb_in 2 5 Waiting ∷ []
unfolding row_of
none_again = refl

-- it disposes of nothing, and nothing ends
not_disposed_of : map (λ run. run.machine.disposed) (next setup (at_advise 0 7 false) advises).runs.list ≡ false ∷ []
unfolding row_of
not_disposed_of = refl

none_ends : (next setup (at_advise 0 7 false) advises).ended ≡ []
unfolding row_of
none_ends = refl

-- an advice has 32 bits, and is given before the CCB is disposed of
greatest_advice : answer setup (at_advise 0 4294967295 false) advises ≡ Some (result 0)
unfolding row_of
greatest_advice = refl

no_greater : step setup (at_advise 0 4294967296 false) advises ≡ None
unfolding row_of
no_greater = refl

too_late : step setup (at_advise 0 7 true) advises ≡ None
unfolding row_of
too_late = refl

-- if CCBs have no advice, no such call is an event
no_such_helper : step unclassed (at_advise 0 7 false) advises ≡ None
unfolding row_of
no_such_helper = refl

-- The next start tells it, once.

abbrev waits : World
waits = with_ccbs (ccb_with 40 7 Waiting ∷ []) 1

told : answer setup waits (dispatch 0) ≡ Some (ccb_advised 1 7)
told = refl

then_none : map (λ live. live.ccb.advice) (next setup waits (dispatch 0)).transport.live ≡ 0 ∷ []
then_none = refl

its_class : map (λ live. live.ccb.class) (next setup waits (dispatch 0)).transport.live ≡ 40 ∷ []
its_class = refl

-- a start of a CCB without an advice tells 0, and one of a transport without advice tells the number alone
none_told : answer setup (with_ccbs (ccb_with 40 0 Waiting ∷ []) 1) (dispatch 0) ≡ Some (ccb_advised 1 0)
none_told = refl

number_alone : answer unclassed (with_ccbs (ccb_with 0 0 Waiting ∷ []) 1) (dispatch 0) ≡ Some (ccb_given 1)
number_alone = refl

-- A CCB that waits is withdrawn: it ends with the code of REQ_ABORTED, and the others stay.

abbrev some_wait : World
some_wait = with_ccbs (ccb_in 1 5 Waiting ∷ ccb_in 2 5 Active ∷ ccb_in 3 5 InRecovery ∷ ccb_in 4 5 Waiting ∷ []) 4

withdrawn : step setup some_wait (withdraw 1)
    ≡ Some (ok, record (with_ccbs (ccb_in 2 5 Active ∷ ccb_in 3 5 InRecovery ∷ ccb_in 4 5 Waiting ∷ []) 4) { ended = record { number = 1; code = 2 } ∷ [] })
withdrawn = refl

as_its_law_says : finished_by some_wait (withdraw 1) ok ≡ record { number = 1; code = 2 } ∷ []
as_its_law_says = refl

-- one that is active, or in recovery, is not
active : step setup some_wait (withdraw 2) ≡ Some (refused NotActive, some_wait)
active = refl

recovers : step setup some_wait (withdraw 3) ≡ Some (refused NotActive, some_wait)
recovers = refl

-- nor one that is not there, or is not there any more
unknown : step setup some_wait (withdraw 5) ≡ Some (refused Unknown, some_wait)
unknown = refl

once : answer setup (next setup some_wait (withdraw 1)) (withdraw 1) ≡ Some (refused Unknown)
once = refl

-- if CCBs have no class, none is withdrawn
none_withdrawn : step unclassed some_wait (withdraw 1) ≡ Some (refused Unknown, some_wait)
none_withdrawn = refl

-- one that was advised, and waits again, may be withdrawn too
advised_one : answer setup waits (withdraw 1) ≡ Some ok
advised_one = refl

-- one record is one event
its_record : flat (Called answers.Ok (Withdraw (record { 0 = 1 })) ∷ Called (answers.Refused NotActive) (Withdraw (record { 0 = 2 })) ∷ []) ≡ (withdraw 1, ok) ∷ (withdraw 2, refused NotActive) ∷ []
its_record = refl

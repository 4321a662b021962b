-- Worked rows of CCBs: which starts next, each refusal, and which of two comes first.
use Rattle.std.proofs.Common.{◌≡◌, ℕ, true, [], ◌∷◌, Some, None, refl, replicate}
use Rattle.ccb.specs.declared.cam_status.CamStatus.TheVariants.{RequestInProgress, RequestCompleted, CommandTimeout}
use Rattle.freeze_ledger.specs.declared.freeze.Holder.TheVariants.{Guest}
use Rattle.helpers.specs.declared.limits.HelperLimits.{HelperLimits}
use Rattle.bpf_semantics.specs.MachineState.{entry}
use Rattle.ccb.specs.declared.call_refusal.CallRefusal.TheVariants.{Unknown, Limit, NotActive, Frozen, NoOpening, NothingWaits}
use Rattle.world.specs.declared.ccb_state.CcbState.TheVariants.{Waiting, Active, InRecovery}
use Rattle.ccb.specs.Places.{device}
use Rattle.world.specs.World.{World, opening}
use Rattle.world.specs.Lookups.{active_count}
use Rattle.world.specs.Event.{private, executes, refused}
use Rattle.world_laws.proofs.Rows.Words.{submit, dispatch, complete, guest_freeze, ccb_given, done, run_started}
use Rattle.world.specs.Step.{step}
use Rattle.world_laws.proofs.Rows.Worked.{answer, ccb_in, next, one_queue, outcome_of, program, running, transported, two_queues, with_ccbs, with_freezes}

-- of three CCBs the one of the lowest priority number starts first, and of two with the same priority the first submitted
abbrev three : HelperLimits → World
three l = next (two_queues l) (next (two_queues l) (next (two_queues l) (opening (two_queues l)) (submit 1 5 0)) (submit 1 3 0)) (submit 1 3 0)

lowest_first : (l : HelperLimits) → answer (two_queues l) (three l) (dispatch 1) ≡ Some (ccb_given 2)
lowest_first l = refl

then_the_next : (l : HelperLimits) → answer (two_queues l) (next (two_queues l) (three l) (dispatch 1)) (dispatch 1) ≡ Some (ccb_given 3)
then_the_next l = refl

-- queue 1 has two openings
abbrev two_started : HelperLimits → World
two_started l = next (two_queues l) (next (two_queues l) (three l) (dispatch 1)) (dispatch 1)

both_active : (l : HelperLimits) → active_count 1 (two_started l).transport.live ≡ 2
both_active l = refl

no_opening : (l : HelperLimits) → step (two_queues l) (two_started l) (dispatch 1) ≡ Some (refused NoOpening, two_started l)
no_opening l = refl

-- no CCB was submitted to queue 0
nothing_waits : (l : HelperLimits) → step (two_queues l) (two_started l) (dispatch 0) ≡ Some (refused NothingWaits, two_started l)
nothing_waits l = refl

-- a frozen queue starts nothing, whoever froze it; and that is told before that its openings are taken
abbrev frozen_too : HelperLimits → World
frozen_too l = next (two_queues l) (two_started l) (guest_freeze 1 7)

frozen_first : (l : HelperLimits) → step (two_queues l) (frozen_too l) (dispatch 1) ≡ Some (refused Frozen, frozen_too l)
frozen_first l = refl

-- that the openings are taken is told before that nothing waits
abbrev one_active : World
one_active = with_ccbs (ccb_in 1 5 Active ∷ ccb_in 2 5 Active ∷ []) 2

opening_first : (l : HelperLimits) → step (one_queue l) one_active (dispatch 0) ≡ Some (refused NoOpening, one_active)
opening_first l = refl

-- there is no queue 1, and that comes first
unknown_dispatch : (l : HelperLimits) → answer (one_queue l) (with_freezes (record { number = 1; place = device 1; holder = Guest 7 } ∷ []) 1) (dispatch 1) ≡ Some (refused Unknown)
unknown_dispatch l = refl

unknown_submit : (l : HelperLimits) → answer (one_queue l) (with_ccbs [] 4294967295) (submit 1 5 0) ≡ Some (refused Unknown)
unknown_submit l = refl

-- a queue takes 256 CCBs and no more, whatever their state
full_of_ccbs : (l : HelperLimits) → answer (one_queue l) (with_ccbs (replicate 256 (ccb_in 1 5 InRecovery)) 256) (submit 0 5 0) ≡ Some (refused Limit)
full_of_ccbs l = refl

room_for_one : (l : HelperLimits) → answer (one_queue l) (with_ccbs (replicate 255 (ccb_in 1 5 InRecovery)) 256) (submit 0 5 0) ≡ Some (ccb_given 257)
room_for_one l = refl

last_ccb : (l : HelperLimits) → answer (one_queue l) (with_ccbs [] 4294967294) (submit 0 5 0) ≡ Some (ccb_given 4294967295)
last_ccb l = refl

ccbs_used_up : (l : HelperLimits) → answer (one_queue l) (with_ccbs [] 4294967295) (submit 0 5 0) ≡ Some (refused Limit)
ccbs_used_up l = refl

-- a CCB that was not submitted, and one that waits
abbrev one_waits : World
one_waits = with_ccbs (ccb_in 1 5 Waiting ∷ []) 1

unknown_ccb : (l : HelperLimits) → step (one_queue l) one_waits (complete (outcome_of 2 CommandTimeout)) ≡ Some (refused Unknown, one_waits)
unknown_ccb l = refl

not_active : (l : HelperLimits) → step (one_queue l) one_waits (complete (outcome_of 1 CommandTimeout)) ≡ Some (refused NotActive, one_waits)
not_active l = refl

not_active_success : (l : HelperLimits) → step (one_queue l) one_waits (complete (outcome_of 1 RequestCompleted)) ≡ Some (refused NotActive, one_waits)
not_active_success l = refl

-- that run numbers are used up is told before that the CCB is not active, and after that it is not live
abbrev no_run_left : World
no_run_left = record one_waits { runs = record one_waits.runs { greatest = 4294967295 } }

limit_first : (l : HelperLimits) → step (one_queue l) no_run_left (complete (outcome_of 1 CommandTimeout)) ≡ Some (refused Limit, no_run_left)
limit_first l = refl

unknown_before_limit : (l : HelperLimits) → step (one_queue l) no_run_left (complete (outcome_of 2 CommandTimeout)) ≡ Some (refused Unknown, no_run_left)
unknown_before_limit l = refl

-- a CCB that succeeded needs no run, and is finished with its code
abbrev succeeds : World
succeeds = (running (λ r. record r { greatest = 4294967295 }) (with_ccbs (ccb_in 1 5 Active ∷ ccb_in 2 5 Waiting ∷ []) 2))

success_ends : (l : HelperLimits) → step (one_queue l) succeeds (complete (outcome_of 1 RequestCompleted)) ≡ Some (done, record succeeds { transport = record succeeds.transport { live = ccb_in 2 5 Waiting ∷ [] }; ended = record { number = 1; code = 1 } ∷ [] })
success_ends l = refl

-- 256 runs are the most
abbrev many_runs : ℕ → World
many_runs n = (running (λ r. record r { list = replicate n (record { number = 1; ccb = 7; queue = 0; controller = 0; program = program; machine = entry [] 0; out = true }) }) (with_ccbs (ccb_in 1 5 Active ∷ []) 1))

run_limit : (l : HelperLimits) → answer (one_queue l) (many_runs 256) (complete (outcome_of 1 CommandTimeout)) ≡ Some (refused Limit)
run_limit l = refl

last_run : (l : HelperLimits) → answer (one_queue l) (many_runs 255) (complete (outcome_of 1 CommandTimeout)) ≡ Some (run_started 1 1)
last_run l = refl

-- where a further freeze meets a limit, the run starts without one, and nothing was frozen
abbrev no_freeze_left : World
no_freeze_left = (transported (λ t. record t { greatest_freeze = 4294967295 }) (with_ccbs (ccb_in 1 5 Active ∷ []) 1))

freeze_limit : (l : HelperLimits) → answer (one_queue l) no_freeze_left (complete (outcome_of 1 CommandTimeout)) ≡ Some (run_started 1 0)
freeze_limit l = refl

nothing_frozen : (l : HelperLimits) → (next (one_queue l) no_freeze_left (complete (outcome_of 1 CommandTimeout))).transport.freezes ≡ []
nothing_frozen l = refl

-- a device never reports that a CCB is still in progress
still_in_progress : (l : HelperLimits) → step (one_queue l) (with_ccbs (ccb_in 1 5 Active ∷ []) 1) (complete (outcome_of 1 RequestInProgress)) ≡ None
still_in_progress l = refl

-- there is no run, so none executes anything
no_run : (l : HelperLimits) → step (one_queue l) one_waits (executes 1 private) ≡ None
no_run l = refl

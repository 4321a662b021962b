-- The effect of each kind of event: one entry each.
use Rattle.std.proofs.Common.{◌≡◌, ℕ, ◌+◌, ◌<◌, List, [], ◌∷◌, ◌++◌, Bool, true, false, not, cond, eqb, Option, Some, None, IsSome, inl, inr, refl, ap, sym, subst, ◌∙◌, arith, append-nil, slice_index}
use Rattle.std.specs.Prelude.{◌&&◌, ◌||◌}
use Rattle.std.specs.Option.{is_some}
use Rattle.std.proofs.lemmas.Bool.{cases_eq, cond-true, cond-false, eq-eqb, ne_eqb, eqb-true}
use Rattle.ccb.specs.declared.cam_status.CamStatus.TheVariants.{RequestAborted}
use Rattle.ccb.specs.Status.{code_of}
use Rattle.ccb.specs.Ccb.{advised, started, completed, requeued}
use Rattle.freeze_ledger.specs.declared.freeze.Holder.{Holder}
use Rattle.freeze_ledger.specs.declared.freeze.Holder.TheVariants.{Run, Timer, Guest}
use Rattle.freeze_ledger.specs.declared.freeze.Freeze.{Freeze}
use Rattle.ccb.specs.declared.place.Place.TheVariants.{Device}
use Rattle.ccb.specs.Places.{device}
use Rattle.freeze_ledger.specs.Freezes.{entry_of, is_due}
use Rattle.helpers.specs.declared.columns.Gives.{Gives}
use Rattle.helpers.specs.declared.columns.Gives.TheVariants.{Number, NewFreeze}
use Rattle.helpers.specs.declared.limits.HelperSet.{HelperSet}
use Rattle.helpers.specs.declared.limits.HelperSet.TheVariants.{Classes, Controllers, Queues}
use Rattle.helpers.specs.declared.table.Helper.{Helper}
use Rattle.helpers.specs.declared.table.Helper.TheVariants as helpers
use Rattle.helpers.specs.Table.{are_classed, is_there, row_of}
use Rattle.helpers.specs.declared.request.Answer.{Answer}
use Rattle.bpf_semantics.specs.Step.{answered}
use Rattle.world_calls.specs.declared.call.Call.TheVariants.{Complete, Withdraw}
use Rattle.world_calls.specs.declared.start.Start.{Start}
use Rattle.world_calls.specs.declared.trace.Version.{Version}
use Rattle.world_calls.specs.declared.trace.Version.TheVariants.{One, Three, Two}
use Rattle.world_calls.specs.Answered.{started_answer}
use Rattle.world.specs.declared.ccb_state.CcbState.{CcbState}
use Rattle.world.specs.declared.ccb_state.CcbState.TheVariants.{Waiting, Active, InRecovery}
use Rattle.world.specs.World.{Setup, class_fits, class_in, has_classes, queue_count, queue_setup, version_of, LiveCcb, EndedCcb, LiveRun, World}
use Rattle.world.specs.Lookups.{is_waiting, is_active, active_count, ccb_of, with_ccb, run_of, with_run}
use Rattle.world.specs.Told.{Told, plain, finishes, told_of}
use Rattle.world.specs.Event.{Instruction, call, Event, called, executes, instruction_of, Reply, replies, result}
use Rattle.world.specs.FreezeSteps.{is_guest, is_timer}
use Rattle.world.specs.RunSteps.{is_run}
use Rattle.world.specs.Refusals.{is_unknown}
use Rattle.world.specs.Laws.TookGave.{given_to, taken_as, taken_by}
use Rattle.world.specs.Laws.CcbLaws.{finished_by_run, finished_by}
use Rattle.world.specs.Laws.Headline.{is_step_of, is_turn_of, is_own_of}
use Rattle.world.specs.Limits.{CcbLimits, RunLimits}
use Rattle.world.proofs.Lists.Found.{leave, found_key, missing_push, at_head, put_same}
use Rattle.world.proofs.Lists.Rising.{missing_high}
use Rattle.world.proofs.Lists.Each.{all_found}
use Rattle.world.proofs.Lists.Entries.{freeze_key, handed_is_put}
use Rattle.world.proofs.Steps.Answering.{OpeningsMove, openings_stay, TablesMove, tables_stay, AnswerMove, answers_stay}
use Rattle.world_laws.proofs.Steps.Running.{Executes, pair_parts}
use Rattle.world_laws.proofs.Steps.Rules.{rule_parts}
use Rattle.world_laws.proofs.Steps.Does.{IsAmong, FreezeDeed, leaves_freezes, takes_one, gives_one_back, hands_one_over, HasItsCcb, CcbDeed, leaves_ccbs, requeues_one, ends_one, advises_one, takes_by}
use Rattle.world_laws.proofs.Steps.Calls.{Asks}
use Rattle.world_laws.proofs.Steps.Cases.{Recovers, RecoversUnfrozen, Case, refuses, submits, dispatches, finishes_one, withdraws_one, recovers_one, recovers_unfrozen, freezes_one, releases_one, reads_clock, Turns, turns_one, goes_on_one, asks_one, exits}
use Rattle.world.proofs.Steps.Moves.{KeepsLists, ccb_key, run_key, ccb_found, run_found, next_found, MayTouch, CcbMove, ccbs_stay, ccb_enters, ccb_changes, ccb_leaves, Comes, FreezeMove, freezes_stay, freeze_enters, freezes_leave, freeze_changes, Begins, tells_start, runs_stay, run_enters, run_changes, run_leaves, Effect}

-- a queue that exists is a place that does
pub device_known : (setup : Setup) (queue : ℕ) → queue < queue_count setup → is_unknown setup (device queue) ≡ false
device_known setup queue below = grind (arith, below)

-- the queue of a live CCB exists
pub known_queue : (setup : Setup) (world : World) → CcbLimits setup world → (number : ℕ) (live : LiveCcb) → ccb_of number world.transport.live ≡ Some live → live.ccb.queue.0 < queue_count setup
known_queue setup world kept number live found = all_found ccb_key (λ (x : LiveCcb). x.ccb.queue.0 < queue_count setup) number world.transport.live live kept.queues found

-- where nothing is finished nothing ended
pub none_ended : (before after : World) (event : Event) (reply : Reply) → finished_by before event reply ≡ [] → after.ended ≡ before.ended → after.ended ≡ before.ended ++ finished_by before event reply
none_ended before after event reply none e = e ∙ sym (ap (λ (l : List EndedCcb). before.ended ++ l) none ∙ append-nil before.ended)

-- an event that is no instruction is none of any run
idle_acts : (before : World) (event : Event) → ((run : ℕ) → instruction_of run event ≡ None) → (run : ℕ) (instruction : Instruction) → instruction_of run event ≡ Some instruction → IsSome (run_of run before.runs.list)
idle_acts before event idle run instruction e = absurd (let bad : None ≡ Some instruction = sym (idle run) ∙ e in cc)

-- one that is, is one of the run that executes it, which is live
pub its_instruction : (before : World) (event : Event) (instruction : Instruction) → (it : Executes before event instruction) → instruction_of it.number event ≡ Some instruction
its_instruction before event instruction it = ap (instruction_of it.number) it.event_is ∙ cond-true (eqb it.number it.number) (Some instruction) None (eq-eqb _ _ refl)

pub not_others : (before : World) (event : Event) (instruction : Instruction) (run : ℕ) → (it : Executes before event instruction) → (it.number ≡ run → ⊥) → instruction_of run event ≡ None
not_others before event instruction run it apart = ap (instruction_of run) it.event_is ∙ cond-false (eqb it.number run) (Some instruction) None (ne_eqb _ _ apart)

pub is_its_step : (before : World) (event : Event) (instruction : Instruction) → (it : Executes before event instruction) → is_step_of it.number event ≡ true
is_its_step before event instruction it = ap is_some (its_instruction before event instruction it)

-- also by the number that the run bears
pub its_own_step : (before : World) (event : Event) (instruction : Instruction) → (it : Executes before event instruction) → is_step_of it.run.number event ≡ true
its_own_step before event instruction it = subst (λ (k : ℕ). is_step_of k event ≡ true) (sym (found_key run_key it.number before.runs.list it.run it.found)) (is_its_step before event instruction it)

-- so it is the run's own event
step_is_own : (event : Event) (run : ℕ) → is_step_of run event ≡ true → is_own_of run event ≡ true
step_is_own event run its = ap (λ (b : Bool). b || is_turn_of run event) its

-- and so is what parks it or lets it go on
turn_is_own : (before : World) (event : Event) (reply : Reply) (after : World) → (it : Turns before event reply after) → is_own_of it.run.number event ≡ true
turn_is_own before event reply after it =
    subst (λ (k : ℕ). is_own_of k event ≡ true) (sym (found_key run_key it.number before.runs.list it.run it.found))
    (ap (λ (o : Option Instruction). is_some o || is_turn_of it.number event) (it.idle it.number) ∙ it.its)

executes_acts : (before : World) (event : Event) (instruction : Instruction) → Executes before event instruction → (run : ℕ) (other : Instruction) → instruction_of run event ≡ Some other → IsSome (run_of run before.runs.list)
executes_acts before event instruction it run other e =
    elim (cases_eq it.number run) [
      | inl same ↦ subst (λ (k : ℕ). IsSome (run_of k before.runs.list)) same (subst (λ (o : Option LiveRun). IsSome o) (sym it.found) refl)
      | inr apart ↦ absurd (let bad : None ≡ Some other = sym (not_others before event instruction run it apart) ∙ e in cc)
    ]

-- a CCB that waits or is active is not in recovery
idle_waits : (state : CcbState) → is_waiting state ≡ true → state ≡ InRecovery → ⊥
idle_waits state waits e = let bad : false ≡ true = sym (ap is_waiting e) ∙ waits in cc

idle_works : (state : CcbState) → is_active state ≡ true → state ≡ InRecovery → ⊥
idle_works state works e = let bad : false ≡ true = sym (ap is_active e) ∙ works in cc

-- two entries of one number are one
pub same_entry : (fs : List Freeze) (n m : ℕ) (f g : Freeze) → entry_of n fs ≡ Some f → entry_of m fs ≡ Some g → f.number ≡ g.number → f ≡ g
same_entry fs n m f g first second same =
    let numbers : n ≡ m = sym (found_key freeze_key n fs f first) ∙ (same ∙ found_key freeze_key m fs g second) in
    let both : Some f ≡ Some g = sym first ∙ (ap (λ (k : ℕ). entry_of k fs) numbers ∙ second) in cc

-- a guest is no run, and a run is no other
pub guest_is_none : (r : ℕ) (holder : Holder) → is_guest holder ≡ true → is_run r holder ≡ false
guest_is_none r (Run run) e = absurd (let bad : false ≡ true = e in cc)
guest_is_none r (Timer due) e = refl
guest_is_none r (Guest guest) e = refl

one_run : (r s : ℕ) (holder : Holder) → is_run r holder ≡ true → is_run s holder ≡ true → r ≡ s
one_run r s (Run run) p q = sym (eqb-true _ _ p) ∙ eqb-true _ _ q
one_run r s (Timer due) p q = absurd (let bad : false ≡ true = p in cc)
one_run r s (Guest guest) p q = absurd (let bad : false ≡ true = p in cc)

-- nor is a timer a run
pub timer_is_none : (r : ℕ) (holder : Holder) → is_timer holder ≡ true → is_run r holder ≡ false
timer_is_none r (Run run) e = absurd (let bad : false ≡ true = e in cc)
timer_is_none r (Timer due) e = refl
timer_is_none r (Guest guest) e = absurd (let bad : false ≡ true = e in cc)

pub run_is_owned : (r : ℕ) (holder : Holder) → is_run r holder ≡ true → is_timer holder ≡ false
run_is_owned r (Run run) e = refl
run_is_owned r (Timer due) e = absurd (let bad : false ≡ true = e in cc)
run_is_owned r (Guest guest) e = refl

due_is_none : (reading r : ℕ) (holder : Holder) → is_due reading holder ≡ true → is_run r holder ≡ false
due_is_none reading r (Run run) e = absurd (let bad : false ≡ true = e in cc)
due_is_none reading r (Timer due) e = refl
due_is_none reading r (Guest guest) e = refl

-- a run that begins is found by its number
pub begun_found : (setup : Setup) (before : World) (event : Event) (reply : Reply) (after : World) (run : LiveRun) → RunLimits setup before → Begins setup before event reply after run → run_of (before.runs.greatest + 1) after.runs.list ≡ Some run
begun_found setup before event reply after run kept it =
    let named : run.number ≡ before.runs.greatest + 1 = ap (λ (r : LiveRun). r.number) it.run_is in
    let none = missing_high run_key 0 before.runs.list before.runs.greatest (before.runs.greatest + 1) (omega arith) kept.rising in
    ap (run_of (before.runs.greatest + 1)) it.runs_is
    ∙ (missing_push run_key (before.runs.greatest + 1) before.runs.list run none ∙ at_head run_key (before.runs.greatest + 1) run [] named)

-- its freeze, and no other run's, comes with it
comes_begun : (setup : Setup) (before : World) (event : Event) (reply : Reply) (after : World) (run : LiveRun) → RunLimits setup before → Begins setup before event reply after run → Comes before event after (Run (before.runs.greatest + 1))
comes_begun setup before event reply after run kept it =
    let there = begun_found setup before event reply after run kept it in
    record {
      whose = λ other its. inl (sym (eqb-true _ _ its));
      live = λ other its.
          subst (λ (k : ℕ). IsSome (run_of k after.runs.list)) (eqb-true _ _ its) (subst (λ (o : Option LiveRun). IsSome o) (sym there) refl);
    }

-- its queue exists
known_begun : (setup : Setup) (before : World) (event : Event) (reply : Reply) (after : World) (run : LiveRun) → CcbLimits setup before → Begins setup before event reply after run → run.queue < queue_count setup
known_begun setup before event reply after run kept it =
    subst (λ (q : ℕ). q < queue_count setup) (sym (ap (λ (r : LiveRun). r.queue) it.run_is)) (known_queue setup before kept it.outcome.ccb.0 it.live it.found)

-- the run that a completion starts, with a freeze and without
pub begins_frozen : (setup : Setup) (before : World) (event : Event) (reply : Reply) (after : World) → Recovers setup before event reply after → (run : LiveRun) × Begins setup before event reply after run
begins_frozen setup before event reply after it = (
  _,
  record {
    outcome = it.fails.outcome;
    event_is = it.fails.event_is;
    completion = it.fails.completion;
    live = it.fails.live;
    found = it.fails.found;
    is_active = it.fails.is_active;
    taken = true;
    freeze = before.transport.greatest_freeze + 1;
    run_is = refl;
    reply_is = ap (λ (x : Reply × World). x.0) it.starts_is;
    live_is = ap (λ (x : Reply × World). x.1.transport.live) it.starts_is;
    runs_is = ap (λ (x : Reply × World). x.1.runs.list) it.starts_is;
    freezes_is = inr (refl, it.free, ap (λ (x : Reply × World). x.1.transport.freezes) it.starts_is);
  },
)

pub begins_unfrozen : (setup : Setup) (before : World) (event : Event) (reply : Reply) (after : World) → RecoversUnfrozen setup before event reply after → (run : LiveRun) × Begins setup before event reply after run
begins_unfrozen setup before event reply after it = (
  _,
  record {
    outcome = it.fails.outcome;
    event_is = it.fails.event_is;
    completion = it.fails.completion;
    live = it.fails.live;
    found = it.fails.found;
    is_active = it.fails.is_active;
    taken = false;
    freeze = 0;
    run_is = refl;
    reply_is = ap (λ (x : Reply × World). x.0) it.starts_is;
    live_is = ap (λ (x : Reply × World). x.1.transport.live) it.starts_is;
    runs_is = ap (λ (x : Reply × World). x.1.runs.list) it.starts_is;
    freezes_is = inl (refl, ap (λ (x : Reply × World). x.1.transport.freezes) it.starts_is);
  },
)

abbrev one_ended : ℕ → ℕ → List EndedCcb
one_ended number code = record { number = number; code = code } ∷ []

-- what is given to one run is given to no other
given_to_other : (run number freeze : ℕ) → (number ≡ run → ⊥) → given_to run number freeze ≡ []
given_to_other run number freeze apart = ap (λ (b : Bool). cond (b && not (eqb freeze 0)) (freeze ∷ []) []) (ne_eqb _ _ apart)

-- Classes and advice.

-- if CCBs have no class, a submission says none, so that its CCB has the class 0
unclassed : (has : Bool) (class : Option ℕ) → class_fits has class ≡ true → has ≡ false → class_in class ≡ 0
unclassed has None fits none = refl
unclassed has (Some class) fits none = absurd (let bad : true ≡ false = sym fits ∙ none in cc)

-- the helper that advises is there only if CCBs have a class and an advice
advises_there : (set : HelperSet) → is_there set helpers.Advise ≡ true → are_classed set ≡ true
advises_there Queues there = absurd (let bad : false ≡ true = there in cc)
advises_there Controllers there = absurd (let bad : false ≡ true = there in cc)
advises_there Classes there = refl

-- so they have, if a call advises
pub call_advises : (setup : Setup) (before : World) (event : Event) (reply : Reply) (after : World) → (it : Asks setup before event reply after) → it.request.helper ≡ helpers.Advise → has_classes setup ≡ true
call_advises setup before event reply after it is =
    advises_there setup.limits.helpers (subst (λ (h : Helper). is_there setup.limits.helpers h ≡ true) is (rule_parts setup.limits it.it.run.machine it.request it.rule).there)

-- a start that is answered tells of no run
start_tells_none : (version : Version) (start : Start) → tells_start (replies (started_answer version start)) ≡ false
start_tells_none One start = refl
start_tells_none Two start = refl
start_tells_none Three start = refl

-- Calls of helpers.

-- the run that calls goes on with the answer, and the others stand
pub call_runs : (setup : Setup) (before : World) (event : Event) (reply : Reply) (after : World) → (it : Asks setup before event reply after) → after.runs.list ≡ with_run (record it.it.run { machine = answered it.request it.given it.it.run.machine }) before.runs.list
call_runs setup before event reply after it =
    ap (λ (x : Reply × World). x.1.runs.list) it.answer ∙ ap (with_run (record it.it.run { machine = answered it.request it.given it.it.run.machine })) it.rest.runs_is

-- what it gives to a run, by its request and its answer alone
pub call_takes : (setup : Setup) (before : World) (event : Event) (reply : Reply) (after : World) → (it : Asks setup before event reply after) → (run : ℕ) (given : Answer) → it.given ≡ given → taken_by run event reply ≡ taken_by run (executes it.it.number (call (told_of it.request))) (result given.r0)
call_takes setup before event reply after it run given given_is =
    let reply_is : reply ≡ result given.r0 = ap (λ (x : Reply × World). x.0) it.answer ∙ ap (λ (a : Answer). result a.r0) given_is in
    λ i. taken_by run (it.it.event_is i) (reply_is i)

-- what is told of a call says what it finishes
finished_by_call : (setup : Setup) (before : World) (event : Event) (reply : Reply) (after : World) (told : Told) → (it : Asks setup before event reply after) → told_of it.request ≡ told → finished_by before event reply ≡ finished_by before (executes it.it.number (call told)) reply
finished_by_call setup before event reply after told it is =
    ap (λ (x : Event). finished_by before x reply) it.it.event_is ∙ ap (λ (t : Told). finished_by before (executes it.it.number (call t)) reply) is

-- the run may touch its CCB
its_ccb : (before : World) (event : Event) (instruction : Instruction) → (it : Executes before event instruction) → (its : HasItsCcb before it.run) → MayTouch before event its.live
its_ccb before event instruction it its =
    inr (record {
      number = it.number;
      run = it.run;
      found = it.found;
      its = is_its_step before event instruction it;
      ccb_is = found_key ccb_key it.run.ccb before.transport.live its.live its.found;
      fresh = its.fresh;
    })

call_ccbs : (setup : Setup) (before : World) (event : Event) (reply : Reply) (after : World) → (it : Asks setup before event reply after) → CcbDeed before it.it.run it.request it.given it.between → CcbMove setup before event reply after × (after.ended ≡ before.ended ++ finished_by before event reply)
call_ccbs setup before event reply after it (leaves_ccbs effect) =
    let live_is : after.transport.live ≡ before.transport.live = ap (λ (x : Reply × World). x.1.transport.live) it.answer ∙ effect.live_is in
    let greatest_is : after.transport.greatest_ccb ≡ before.transport.greatest_ccb = ap (λ (x : Reply × World). x.1.transport.greatest_ccb) it.answer ∙ effect.greatest_is in
    let ended_is : after.ended ≡ before.ended = ap (λ (x : Reply × World). x.1.ended) it.answer ∙ effect.ended_is in
    let none : finished_by before event reply ≡ [] = finished_by_call setup before event reply after (told_of it.request) it refl ∙ effect.ends_none it.it.number reply in
    (ccbs_stay live_is greatest_is none, none_ended before after event reply none ended_is)
call_ccbs setup before event reply after it (requeues_one effect) =
    let new : LiveCcb = record { ccb = requeued effect.its.live.ccb it.request.arguments.first; state = Waiting } in
    let live_is : after.transport.live ≡ with_ccb new before.transport.live = ap (λ (x : Reply × World). x.1.transport.live) it.answer ∙ effect.live_is in
    let greatest_is : after.transport.greatest_ccb ≡ before.transport.greatest_ccb = ap (λ (x : Reply × World). x.1.transport.greatest_ccb) it.answer ∙ effect.greatest_is in
    let ended_is : after.ended ≡ before.ended = ap (λ (x : Reply × World). x.1.ended) it.answer ∙ effect.ended_is in
    let none : finished_by before event reply ≡ [] = finished_by_call setup before event reply after (plain it.request.helper) it effect.told_is in (
      ccb_changes effect.its.live new (λ unclassed_one plain_one. plain_one) (ccb_found _ before.transport.live effect.its.live effect.its.found) refl (inl refl) (its_ccb before event _ it.it effect.its) live_is greatest_is none,
      none_ended before after event reply none ended_is,
    )
call_ccbs setup before event reply after it (ends_one effect) =
    let old : LiveCcb = effect.its.live in
    let live_is : after.transport.live ≡ leave ccb_key old.ccb.number.0 before.transport.live = ap (λ (x : Reply × World). x.1.transport.live) it.answer ∙ effect.live_is in
    let greatest_is : after.transport.greatest_ccb ≡ before.transport.greatest_ccb = ap (λ (x : Reply × World). x.1.transport.greatest_ccb) it.answer ∙ effect.greatest_is in
    let named : old.ccb.number.0 ≡ it.it.run.ccb = found_key ccb_key it.it.run.ccb before.transport.live old effect.its.found in
    let one : finished_by before event reply ≡ one_ended old.ccb.number.0 it.request.arguments.first =
    finished_by_call setup before event reply after (finishes it.request.helper it.request.arguments.first) it effect.told_is
    ∙ (ap (finished_by_run it.request.arguments.first) it.it.found ∙ ap (λ (n : ℕ). one_ended n it.request.arguments.first) (sym named)) in (
      ccb_leaves old.ccb.number.0 it.request.arguments.first old (ccb_found _ before.transport.live old effect.its.found) (its_ccb before event _ it.it effect.its) live_is greatest_is one,
      ap (λ (x : Reply × World). x.1.ended) it.answer ∙ (effect.ended_is ∙ sym (ap (λ (l : List EndedCcb). before.ended ++ l) one)),
    )
call_ccbs setup before event reply after it (advises_one effect) =
    let old : LiveCcb = effect.its.live in
    let new : LiveCcb = record old { ccb = advised old.ccb it.request.arguments.first } in
    let live_is : after.transport.live ≡ with_ccb new before.transport.live = ap (λ (x : Reply × World). x.1.transport.live) it.answer ∙ effect.live_is in
    let greatest_is : after.transport.greatest_ccb ≡ before.transport.greatest_ccb = ap (λ (x : Reply × World). x.1.transport.greatest_ccb) it.answer ∙ effect.greatest_is in
    let ended_is : after.ended ≡ before.ended = ap (λ (x : Reply × World). x.1.ended) it.answer ∙ effect.ended_is in
    let none : finished_by before event reply ≡ [] = finished_by_call setup before event reply after (plain it.request.helper) it effect.told_is in
    let classed : has_classes setup ≡ true = call_advises setup before event reply after it effect.helper_is in (
      ccb_changes old new (λ unclassed_one plain_one. absurd (let bad : true ≡ false = sym classed ∙ unclassed_one in cc)) (ccb_found _ before.transport.live old effect.its.found) refl (inr (inl refl)) (its_ccb before event _ it.it effect.its) live_is greatest_is none,
      none_ended before after event reply none ended_is,
    )

-- what the run holds goes or changes hands by its own step
its_freeze : (before : World) (event : Event) (instruction : Instruction) → (it : Executes before event instruction) → (freeze : Freeze) → is_run it.run.number freeze.holder ≡ true → (run : ℕ) → is_run run freeze.holder ≡ true → is_step_of run event ≡ true
its_freeze before event instruction it freeze its run held =
    subst (λ (k : ℕ). is_step_of k event ≡ true) (one_run it.run.number run freeze.holder its held) (its_own_step before event instruction it)

call_freezes : (setup : Setup) (before : World) (event : Event) (reply : Reply) (after : World) → KeepsLists setup before → (it : Asks setup before event reply after) → FreezeDeed setup before it.it.run it.request it.given it.between → FreezeMove setup before event after
call_freezes setup before event reply after kept it (leaves_freezes effect) =
    freezes_stay (ap (λ (x : Reply × World). x.1.transport.freezes) it.answer ∙ effect.freezes_is) (ap (λ (x : Reply × World). x.1.transport.greatest_freeze) it.answer ∙ effect.greatest_is)
call_freezes setup before event reply after kept it (takes_one effect) =
    let named : it.it.run.number ≡ it.it.number = found_key run_key it.it.number before.runs.list it.it.run it.it.found in
    let among : IsAmong setup it.it.run = (all_found run_key (λ (r : LiveRun). r.queue < queue_count setup) it.it.number before.runs.list it.it.run kept.runs.queues it.it.found, all_found run_key (λ (r : LiveRun). r.controller ≡ (queue_setup setup r.queue).controller) it.it.number before.runs.list it.it.run kept.runs.controllers it.it.found) in
    freeze_enters effect.place (Run it.it.run.number) (λ names. effect.known names among) effect.room
    (ap (λ (x : Reply × World). x.1.transport.freezes) it.answer ∙ effect.freezes_is) (ap (λ (x : Reply × World). x.1.transport.greatest_freeze) it.answer ∙ effect.greatest_is)
    (record {
      whose = λ run its. inr (subst (λ (k : ℕ). is_step_of k event ≡ true) (eqb-true _ _ its) (its_own_step before event _ it.it));
      live = λ run its.
          subst (λ (k : ℕ). IsSome (run_of k after.runs.list)) (eqb-true _ _ its)
          (subst (λ (o : Option LiveRun). IsSome o)
          (sym (ap (run_of it.it.run.number) (call_runs setup before event reply after it) ∙ put_same run_key (record it.it.run { machine = answered it.request it.given it.it.run.machine }) before.runs.list it.it.run (run_found _ before.runs.list it.it.run it.it.found)))
          refl);
    })
call_freezes setup before event reply after kept it (gives_one_back effect) =
    freezes_leave (λ (f : Freeze). eqb f.number it.request.arguments.first) (ap (λ (x : Reply × World). x.1.transport.freezes) it.answer ∙ effect.freezes_is) (ap (λ (x : Reply × World). x.1.transport.greatest_freeze) it.answer ∙ effect.greatest_is)
    (λ n f entry goes run held.
    let named : effect.freeze.number ≡ it.request.arguments.first = found_key freeze_key it.request.arguments.first before.transport.freezes effect.freeze effect.entry in
    let same = same_entry before.transport.freezes n it.request.arguments.first f effect.freeze entry effect.entry (eqb-true _ _ goes ∙ sym named) in
    its_freeze before event _ it.it f (subst (λ (x : Freeze). is_run it.it.run.number x.holder ≡ true) (sym same) effect.its) run held)
call_freezes setup before event reply after kept it (hands_one_over effect) =
    let old : Freeze = effect.freeze in
    let due : ℕ = before.transport.clock + it.request.arguments.second in
    let named : old.number ≡ it.request.arguments.first = found_key freeze_key it.request.arguments.first before.transport.freezes old effect.entry in
    freeze_changes old (record old { holder = Timer due })
    (subst (λ (n : ℕ). entry_of n before.transport.freezes ≡ Some old) (sym named) effect.entry) refl
    (ap (λ (x : Reply × World). x.1.transport.freezes) it.answer ∙ (effect.freezes_is ∙ handed_is_put it.request.arguments.first due 0 before.transport.freezes before.transport.greatest_freeze old kept.freezes.numbered effect.entry))
    (ap (λ (x : Reply × World). x.1.transport.greatest_freeze) it.answer ∙ effect.greatest_is)
    (record { owned = run_is_owned it.it.run.number old.holder effect.its; timed = refl; whose = λ run held. its_freeze before event _ it.it old effect.its run held })

-- what it is answered from
call_answers : (setup : Setup) (before : World) (event : Event) (reply : Reply) (after : World) → Asks setup before event reply after → AnswerMove before after
call_answers setup before event reply after it =
    record {
      openings = subst (OpeningsMove before.transport.openings) (sym (ap (λ (x : Reply × World). x.1.transport.openings) it.answer)) it.rest.openings;
      tables = subst (TablesMove before.runs.tables) (sym (ap (λ (x : Reply × World). x.1.runs.tables) it.answer)) it.rest.tables;
      clock = inl (ap (λ (x : Reply × World). x.1.transport.clock) it.answer ∙ it.rest.clock_is);
    }

-- what a call takes it takes for its own run
call_taken : (setup : Setup) (before : World) (event : Event) (reply : Reply) (after : World) (run : ℕ) → instruction_of run event ≡ None → (it : Asks setup before event reply after) → FreezeDeed setup before it.it.run it.request it.given it.between → taken_by run event reply ≡ []
call_taken setup before event reply after run idle it effect = by_effect effect
  where
    -- by its helper's row and its answer alone
    by_row : (gives : Gives) (given : Answer) → (row_of it.request.helper).gives ≡ gives → it.given ≡ given → taken_by run event reply ≡ taken_as gives run it.it.number given.r0
    by_row gives given gives_is given_is = call_takes setup before event reply after it run given given_is ∙ takes_by gives it.request gives_is run it.it.number given.r0

    not_own : it.it.number ≡ run → ⊥
    not_own same =
        let own : instruction_of run event ≡ Some (call (told_of it.request)) = subst (λ (n : ℕ). instruction_of n event ≡ Some (call (told_of it.request))) same (its_instruction before event _ it.it) in
        let bad : None ≡ Some (call (told_of it.request)) = sym idle ∙ own in cc

    by_effect : FreezeDeed setup before it.it.run it.request it.given it.between → taken_by run event reply ≡ []
    by_effect (leaves_freezes effect) = call_takes setup before event reply after it run it.given refl ∙ effect.taken run it.it.number
    by_effect (takes_one effect) = by_row NewFreeze _ effect.gives_is effect.given_is ∙ given_to_other run it.it.number (before.transport.greatest_freeze + 1) not_own
    by_effect (gives_one_back effect) = by_row (Number 0 254) _ effect.gives_is effect.given_is
    by_effect (hands_one_over effect) = by_row (Number 0 0) _ effect.gives_is effect.given_is

-- what each step does
pub effect_of : (setup : Setup) (before : World) (event : Event) (reply : Reply) (after : World) → KeepsLists setup before → Case setup before event reply after → Effect setup before event reply after
effect_of setup before event reply after kept (refuses it) =
    let none : finished_by before event reply ≡ [] = ap (finished_by before event) it.reply_is ∙ it.ends in
    record {
      ccbs = ccbs_stay (ap (λ (w : World). w.transport.live) it.after_is) (ap (λ (w : World). w.transport.greatest_ccb) it.after_is) none;
      ended = none_ended before after event reply none (ap (λ (w : World). w.ended) it.after_is);
      freezes = freezes_stay (ap (λ (w : World). w.transport.freezes) it.after_is) (ap (λ (w : World). w.transport.greatest_freeze) it.after_is);
      runs = runs_stay (ap (λ (w : World). w.runs.list) it.after_is) (ap (λ (w : World). w.runs.greatest) it.after_is) (ap tells_start it.reply_is);
      answers = answers_stay before after (ap (λ (w : World). w.transport.openings) it.after_is) (ap (λ (w : World). w.runs.tables) it.after_is) (ap (λ (w : World). w.transport.clock) it.after_is);
      taken = λ run given idle. ap (taken_by run event) it.reply_is ∙ it.taken run;
      acts = idle_acts before event it.idle;
    }
effect_of setup before event reply after kept (submits it) =
    let none : finished_by before event reply ≡ [] = ap (λ (x : Event). finished_by before x reply) it.event_is in
    record {
      ccbs = ccb_enters it.queue it.priority it.retries (class_in it.class) (unclassed (has_classes setup) it.class it.fits) it.known it.room (ap (λ (w : World). w.transport.live) it.after_is) (ap (λ (w : World). w.transport.greatest_ccb) it.after_is) none;
      ended = none_ended before after event reply none (ap (λ (w : World). w.ended) it.after_is);
      freezes = freezes_stay (ap (λ (w : World). w.transport.freezes) it.after_is) (ap (λ (w : World). w.transport.greatest_freeze) it.after_is);
      runs = runs_stay (ap (λ (w : World). w.runs.list) it.after_is) (ap (λ (w : World). w.runs.greatest) it.after_is) (ap tells_start it.reply_is);
      answers = answers_stay before after (ap (λ (w : World). w.transport.openings) it.after_is) (ap (λ (w : World). w.runs.tables) it.after_is) (ap (λ (w : World). w.transport.clock) it.after_is);
      taken = λ run given idle. λ i. taken_by run (it.event_is i) (it.reply_is i);
      acts = idle_acts before event (λ run. ap (instruction_of run) it.event_is);
    }
effect_of setup before event reply after kept (dispatches it) =
    let none : finished_by before event reply ≡ [] = ap (λ (x : Event). finished_by before x reply) it.event_is in
    let next = next_found it.queue.0 before.transport.live before.transport.greatest_ccb it.next kept.ccbs.rising it.next_is in
    record {
      ccbs = ccb_changes it.next (record { ccb = started it.next.ccb; state = Active }) (λ unclassed_one plain_one. (plain_one.0, refl)) next.found refl
          (inr (inr (subst (λ (q : ℕ). active_count q before.transport.live < slice_index before.transport.openings q) (sym next.queue_is) it.opening)))
          (inl (idle_waits it.next.state next.waits)) (ap (λ (w : World). w.transport.live) it.after_is) (ap (λ (w : World). w.transport.greatest_ccb) it.after_is) none;
      ended = none_ended before after event reply none (ap (λ (w : World). w.ended) it.after_is);
      freezes = freezes_stay (ap (λ (w : World). w.transport.freezes) it.after_is) (ap (λ (w : World). w.transport.greatest_freeze) it.after_is);
      runs = runs_stay (ap (λ (w : World). w.runs.list) it.after_is) (ap (λ (w : World). w.runs.greatest) it.after_is) (ap tells_start it.reply_is ∙ start_tells_none (version_of setup) (record { ccb = it.next.ccb.number; advice = it.next.ccb.advice }));
      answers = answers_stay before after (ap (λ (w : World). w.transport.openings) it.after_is) (ap (λ (w : World). w.runs.tables) it.after_is) (ap (λ (w : World). w.transport.clock) it.after_is);
      taken = λ run given idle. λ i. taken_by run (it.event_is i) (it.reply_is i);
      acts = idle_acts before event (λ run. ap (instruction_of run) it.event_is);
    }
effect_of setup before event reply after kept (finishes_one it) =
    let named : it.live.ccb.number.0 ≡ it.outcome.ccb.0 = found_key ccb_key it.outcome.ccb.0 before.transport.live it.live it.found in
    let by : finished_by before event reply ≡ one_ended it.outcome.ccb.0 (code_of it.outcome.status) =
    ap (λ (x : Event). finished_by before x reply) it.event_is ∙ ap (finished_by before (called (Complete it.outcome))) it.reply_is in
    let one : finished_by before event reply ≡ one_ended it.live.ccb.number.0 (code_of it.outcome.status) = by ∙ ap (λ (n : ℕ). one_ended n (code_of it.outcome.status)) (sym named) in
    record {
      ccbs = ccb_leaves it.live.ccb.number.0 (code_of it.outcome.status) it.live (ccb_found _ before.transport.live it.live it.found) (inl (idle_works it.live.state it.is_active)) (ap (λ (w : World). w.transport.live) it.after_is) (ap (λ (w : World). w.transport.greatest_ccb) it.after_is) one;
      ended = ap (λ (w : World). w.ended) it.after_is ∙ sym (ap (λ (l : List EndedCcb). before.ended ++ l) one);
      freezes = freezes_stay (ap (λ (w : World). w.transport.freezes) it.after_is) (ap (λ (w : World). w.transport.greatest_freeze) it.after_is);
      runs = runs_stay (ap (λ (w : World). w.runs.list) it.after_is) (ap (λ (w : World). w.runs.greatest) it.after_is) (ap tells_start it.reply_is);
      answers = answers_stay before after (ap (λ (w : World). w.transport.openings) it.after_is) (ap (λ (w : World). w.runs.tables) it.after_is) (ap (λ (w : World). w.transport.clock) it.after_is);
      taken = λ run given idle. λ i. taken_by run (it.event_is i) (it.reply_is i);
      acts = idle_acts before event (λ run. ap (instruction_of run) it.event_is);
    }
effect_of setup before event reply after kept (withdraws_one it) =
    let named : it.live.ccb.number.0 ≡ it.ccb.0 = found_key ccb_key it.ccb.0 before.transport.live it.live it.found in
    let by : finished_by before event reply ≡ one_ended it.ccb.0 (code_of RequestAborted) =
    ap (λ (x : Event). finished_by before x reply) it.event_is ∙ ap (finished_by before (called (Withdraw it.ccb))) it.reply_is in
    let one : finished_by before event reply ≡ one_ended it.live.ccb.number.0 (code_of RequestAborted) = by ∙ ap (λ (n : ℕ). one_ended n (code_of RequestAborted)) (sym named) in
    record {
      ccbs = ccb_leaves it.live.ccb.number.0 (code_of RequestAborted) it.live (ccb_found _ before.transport.live it.live it.found) (inl (idle_waits it.live.state it.waits)) (ap (λ (w : World). w.transport.live) it.after_is) (ap (λ (w : World). w.transport.greatest_ccb) it.after_is) one;
      ended = ap (λ (w : World). w.ended) it.after_is ∙ sym (ap (λ (l : List EndedCcb). before.ended ++ l) one);
      freezes = freezes_stay (ap (λ (w : World). w.transport.freezes) it.after_is) (ap (λ (w : World). w.transport.greatest_freeze) it.after_is);
      runs = runs_stay (ap (λ (w : World). w.runs.list) it.after_is) (ap (λ (w : World). w.runs.greatest) it.after_is) (ap tells_start it.reply_is);
      answers = answers_stay before after (ap (λ (w : World). w.transport.openings) it.after_is) (ap (λ (w : World). w.runs.tables) it.after_is) (ap (λ (w : World). w.transport.clock) it.after_is);
      taken = λ run given idle. λ i. taken_by run (it.event_is i) (it.reply_is i);
      acts = idle_acts before event (λ run. ap (instruction_of run) it.event_is);
    }
effect_of setup before event reply after kept (recovers_one it) =
    let parts = pair_parts _ _ it.starts_is in
    let begun = begins_frozen setup before event reply after it in
    let known = known_queue setup before kept.ccbs _ it.fails.live it.fails.found in
    let none : finished_by before event reply ≡ [] =
    ap (λ (x : Event). finished_by before x reply) it.fails.event_is ∙ ap (finished_by before (called (Complete it.fails.outcome))) parts.0 in
    record {
      ccbs = ccb_changes it.fails.live (record { ccb = completed it.fails.live.ccb it.fails.outcome true; state = InRecovery }) (λ unclassed_one plain_one. plain_one)
          (ccb_found _ before.transport.live it.fails.live it.fails.found) refl (inl refl) (inl (idle_works it.fails.live.state it.fails.is_active))
          (ap (λ (w : World). w.transport.live) parts.1) (ap (λ (w : World). w.transport.greatest_ccb) parts.1) none;
      ended = none_ended before after event reply none (ap (λ (w : World). w.ended) parts.1);
      freezes = freeze_enters (Device it.fails.live.ccb.queue) (Run (before.runs.greatest + 1)) (λ agreed. device_known setup it.fails.live.ccb.queue.0 known) it.free (ap (λ (w : World). w.transport.freezes) parts.1) (ap (λ (w : World). w.transport.greatest_freeze) parts.1) (comes_begun setup before event reply after begun.0 kept.runs begun.1);
      runs = run_enters begun.0 begun.1 (known_begun setup before event reply after begun.0 kept.ccbs begun.1) it.fails.room (ap (λ (w : World). w.runs.greatest) parts.1);
      answers = answers_stay before after (ap (λ (w : World). w.transport.openings) parts.1) (ap (λ (w : World). w.runs.tables) parts.1) (ap (λ (w : World). w.transport.clock) parts.1);
      taken = λ run given idle. (λ i. taken_by run (it.fails.event_is i) (parts.0 i)) ∙ given_to_other run (before.runs.greatest + 1) (before.transport.greatest_freeze + 1) (λ e. omega (arith, e, given));
      acts = idle_acts before event (λ run. ap (instruction_of run) it.fails.event_is);
    }
effect_of setup before event reply after kept (recovers_unfrozen it) =
    let parts = pair_parts _ _ it.starts_is in
    let begun = begins_unfrozen setup before event reply after it in
    let known = known_queue setup before kept.ccbs _ it.fails.live it.fails.found in
    let none : finished_by before event reply ≡ [] =
    ap (λ (x : Event). finished_by before x reply) it.fails.event_is ∙ ap (finished_by before (called (Complete it.fails.outcome))) parts.0 in
    record {
      ccbs = ccb_changes it.fails.live (record { ccb = completed it.fails.live.ccb it.fails.outcome false; state = InRecovery }) (λ unclassed_one plain_one. plain_one)
          (ccb_found _ before.transport.live it.fails.live it.fails.found) refl (inl refl) (inl (idle_works it.fails.live.state it.fails.is_active))
          (ap (λ (w : World). w.transport.live) parts.1) (ap (λ (w : World). w.transport.greatest_ccb) parts.1) none;
      ended = none_ended before after event reply none (ap (λ (w : World). w.ended) parts.1);
      freezes = freezes_stay (ap (λ (w : World). w.transport.freezes) parts.1) (ap (λ (w : World). w.transport.greatest_freeze) parts.1);
      runs = run_enters begun.0 begun.1 (known_begun setup before event reply after begun.0 kept.ccbs begun.1) it.fails.room (ap (λ (w : World). w.runs.greatest) parts.1);
      answers = answers_stay before after (ap (λ (w : World). w.transport.openings) parts.1) (ap (λ (w : World). w.runs.tables) parts.1) (ap (λ (w : World). w.transport.clock) parts.1);
      taken = λ run given idle. (λ i. taken_by run (it.fails.event_is i) (parts.0 i)) ∙ given_to_other run (before.runs.greatest + 1) 0 (λ e. omega (arith, e, given));
      acts = idle_acts before event (λ run. ap (instruction_of run) it.fails.event_is);
    }
effect_of setup before event reply after kept (freezes_one it) =
    let none : finished_by before event reply ≡ [] = ap (λ (x : Event). finished_by before x reply) it.event_is in
    record {
      ccbs = ccbs_stay (ap (λ (w : World). w.transport.live) it.after_is) (ap (λ (w : World). w.transport.greatest_ccb) it.after_is) none;
      ended = none_ended before after event reply none (ap (λ (w : World). w.ended) it.after_is);
      freezes = freeze_enters it.place (Guest it.guest) (λ agreed. it.known) it.room (ap (λ (w : World). w.transport.freezes) it.after_is) (ap (λ (w : World). w.transport.greatest_freeze) it.after_is)
          (record { whose = λ run its. absurd (let bad : false ≡ true = its in cc); live = λ run its. absurd (let bad : false ≡ true = its in cc) });
      runs = runs_stay (ap (λ (w : World). w.runs.list) it.after_is) (ap (λ (w : World). w.runs.greatest) it.after_is) (ap tells_start it.reply_is);
      answers = answers_stay before after (ap (λ (w : World). w.transport.openings) it.after_is) (ap (λ (w : World). w.runs.tables) it.after_is) (ap (λ (w : World). w.transport.clock) it.after_is);
      taken = λ run given idle. λ i. taken_by run (it.event_is i) (it.reply_is i);
      acts = idle_acts before event (λ run. ap (instruction_of run) it.event_is);
    }
effect_of setup before event reply after kept (releases_one it) =
    let none : finished_by before event reply ≡ [] = ap (λ (x : Event). finished_by before x reply) it.event_is in
    record {
      ccbs = ccbs_stay (ap (λ (w : World). w.transport.live) it.after_is) (ap (λ (w : World). w.transport.greatest_ccb) it.after_is) none;
      ended = none_ended before after event reply none (ap (λ (w : World). w.ended) it.after_is);
      freezes = freezes_leave (λ (f : Freeze). eqb f.number it.number) (ap (λ (w : World). w.transport.freezes) it.after_is) (ap (λ (w : World). w.transport.greatest_freeze) it.after_is)
          (λ n f entry goes run its.
          let same = same_entry before.transport.freezes n it.number f it.freeze entry it.entry (eqb-true _ _ goes ∙ sym (found_key freeze_key it.number before.transport.freezes it.freeze it.entry)) in
          let other : is_run run f.holder ≡ false = guest_is_none run f.holder (subst (λ (x : Freeze). is_guest x.holder ≡ true) (sym same) it.guests) in
          absurd (let bad : false ≡ true = sym other ∙ its in cc));
      runs = runs_stay (ap (λ (w : World). w.runs.list) it.after_is) (ap (λ (w : World). w.runs.greatest) it.after_is) (ap tells_start it.reply_is);
      answers = answers_stay before after (ap (λ (w : World). w.transport.openings) it.after_is) (ap (λ (w : World). w.runs.tables) it.after_is) (ap (λ (w : World). w.transport.clock) it.after_is);
      taken = λ run given idle. λ i. taken_by run (it.event_is i) (it.reply_is i);
      acts = idle_acts before event (λ run. ap (instruction_of run) it.event_is);
    }
effect_of setup before event reply after kept (reads_clock it) =
    let none : finished_by before event reply ≡ [] = ap (λ (x : Event). finished_by before x reply) it.event_is in
    record {
      ccbs = ccbs_stay (ap (λ (w : World). w.transport.live) it.after_is) (ap (λ (w : World). w.transport.greatest_ccb) it.after_is) none;
      ended = none_ended before after event reply none (ap (λ (w : World). w.ended) it.after_is);
      freezes = freezes_leave (λ (f : Freeze). is_due it.reading f.holder) (ap (λ (w : World). w.transport.freezes) it.after_is) (ap (λ (w : World). w.transport.greatest_freeze) it.after_is)
          (λ n f entry goes run its. absurd (let bad : false ≡ true = sym (due_is_none it.reading run f.holder goes) ∙ its in cc));
      runs = runs_stay (ap (λ (w : World). w.runs.list) it.after_is) (ap (λ (w : World). w.runs.greatest) it.after_is) (ap tells_start it.reply_is);
      answers = record {
        openings = openings_stay (ap (λ (w : World). w.transport.openings) it.after_is);
        tables = tables_stay (ap (λ (w : World). w.runs.tables) it.after_is);
        clock = let is : after.transport.clock ≡ it.reading = ap (λ (w : World). w.transport.clock) it.after_is in inr (rw is it.on, rw is it.within);
      };
      taken = λ run given idle. λ i. taken_by run (it.event_is i) (it.reply_is i);
      acts = idle_acts before event (λ run. ap (instruction_of run) it.event_is);
    }
effect_of setup before event reply after kept (turns_one it) =
    let none : finished_by before event reply ≡ [] = ap (finished_by before event) it.reply_is ∙ it.ends in
    record {
      ccbs = ccbs_stay (ap (λ (w : World). w.transport.live) it.after_is) (ap (λ (w : World). w.transport.greatest_ccb) it.after_is) none;
      ended = none_ended before after event reply none (ap (λ (w : World). w.ended) it.after_is);
      freezes = freezes_stay (ap (λ (w : World). w.transport.freezes) it.after_is) (ap (λ (w : World). w.transport.greatest_freeze) it.after_is);
      runs = run_changes it.run (record it.run { out = it.out }) (run_found _ before.runs.list it.run it.found) refl refl refl (ap (λ (w : World). w.runs.list) it.after_is) (ap (λ (w : World). w.runs.greatest) it.after_is) (ap tells_start it.reply_is) (turn_is_own before event reply after it);
      answers = answers_stay before after (ap (λ (w : World). w.transport.openings) it.after_is) (ap (λ (w : World). w.runs.tables) it.after_is) (ap (λ (w : World). w.transport.clock) it.after_is);
      taken = λ run given idle. ap (taken_by run event) it.reply_is ∙ it.taken run;
      acts = idle_acts before event it.idle;
    }
effect_of setup before event reply after kept (goes_on_one it) =
    let none : finished_by before event reply ≡ [] = ap (λ (x : Event). finished_by before x reply) it.it.event_is in
    record {
      ccbs = ccbs_stay (ap (λ (w : World). w.transport.live) it.after_is) (ap (λ (w : World). w.transport.greatest_ccb) it.after_is) none;
      ended = none_ended before after event reply none (ap (λ (w : World). w.ended) it.after_is);
      freezes = freezes_stay (ap (λ (w : World). w.transport.freezes) it.after_is) (ap (λ (w : World). w.transport.greatest_freeze) it.after_is);
      runs = run_changes it.it.run (record it.it.run { machine = it.machine }) (run_found _ before.runs.list it.it.run it.it.found) refl refl refl (ap (λ (w : World). w.runs.list) it.after_is) (ap (λ (w : World). w.runs.greatest) it.after_is) (ap tells_start it.reply_is) (step_is_own event _ (its_own_step before event _ it.it));
      answers = answers_stay before after (ap (λ (w : World). w.transport.openings) it.after_is) (ap (λ (w : World). w.runs.tables) it.after_is) (ap (λ (w : World). w.transport.clock) it.after_is);
      taken = λ run given idle. λ i. taken_by run (it.it.event_is i) (it.reply_is i);
      acts = executes_acts before event _ it.it;
    }
effect_of setup before event reply after kept (asks_one it) =
    let parts = pair_parts _ _ it.answer in
    let ccbs = call_ccbs setup before event reply after it it.ccbs in
    record {
      ccbs = ccbs.0;
      ended = ccbs.1;
      freezes = call_freezes setup before event reply after kept it it.freezes;
      runs = run_changes it.it.run (record it.it.run { machine = answered it.request it.given it.it.run.machine }) (run_found _ before.runs.list it.it.run it.it.found) refl refl refl (call_runs setup before event reply after it) (ap (λ (w : World). w.runs.greatest) parts.1 ∙ it.rest.greatest_is) (ap tells_start parts.0) (step_is_own event _ (its_own_step before event _ it.it));
      answers = call_answers setup before event reply after it;
      taken = λ run given idle. call_taken setup before event reply after run idle it it.freezes;
      acts = executes_acts before event _ it.it;
    }
effect_of setup before event reply after kept (exits it) =
    let none : finished_by before event reply ≡ [] = ap (λ (x : Event). finished_by before x reply) it.it.event_is in
    record {
      ccbs = ccbs_stay (ap (λ (w : World). w.transport.live) it.after_is) (ap (λ (w : World). w.transport.greatest_ccb) it.after_is) none;
      ended = none_ended before after event reply none (ap (λ (w : World). w.ended) it.after_is);
      freezes = freezes_stay (ap (λ (w : World). w.transport.freezes) it.after_is) (ap (λ (w : World). w.transport.greatest_freeze) it.after_is);
      runs = run_leaves it.it.run (run_found _ before.runs.list it.it.run it.it.found) (ap (λ (w : World). w.runs.list) it.after_is) (ap (λ (w : World). w.runs.greatest) it.after_is) (ap tells_start it.reply_is) (step_is_own event _ (its_own_step before event _ it.it));
      answers = answers_stay before after (ap (λ (w : World). w.transport.openings) it.after_is) (ap (λ (w : World). w.runs.tables) it.after_is) (ap (λ (w : World). w.transport.clock) it.after_is);
      taken = λ run given idle. λ i. taken_by run (it.it.event_is i) (it.reply_is i);
      acts = executes_acts before event _ it.it;
    }

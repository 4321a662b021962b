-- The cases of a step: what holds before it, what is answered, and what is after it. A proof about steps goes by these.
use Rattle.std.proofs.Common.{◌≡◌, ℕ, ◌+◌, ◌<◌, ◌≤◌, [], ◌∷◌, ◌++◌, length, Bool, true, false, not, Option, Some, None, inl, inr, refl, ap, sym, ◌∙◌, arith}
use Rattle.std.specs.Prelude.{◌&&◌, slice_index}
use Rattle.std.proofs.lemmas.Bool.{cases_Bool, cond-true, cond-false, eq-eqb, leb-false, ltb-false, not-false}
use Rattle.std.specs.Option.{option_map}
use Rattle.ccb.specs.declared.CcbId.{CcbId}
use Rattle.ccb.specs.declared.QueueId.{QueueId}
use Rattle.ccb.specs.declared.cam_status.CamStatus.TheVariants.{RequestAborted}
use Rattle.ccb.specs.Completion.{Outcome}
use Rattle.ccb.specs.Ccb.{submitted, started, completed}
use Rattle.freeze_ledger.specs.declared.freeze.Holder.TheVariants.{Run, Guest}
use Rattle.freeze_ledger.specs.declared.freeze.Freeze.{Freeze}
use Rattle.ccb.specs.declared.place.Place.{Place}
use Rattle.ccb.specs.declared.place.Place.TheVariants.{Device}
use Rattle.freeze_ledger.specs.Freezes.{frozen, meets_limit, entry_of, without, due_at}
use Rattle.world_calls.specs.declared.call.Call.{Call}
use Rattle.world_calls.specs.declared.call.Call.TheVariants.{Submit, Dispatch, Complete, Withdraw, GuestFreeze, GuestRelease, Clock, Park, Resume}
use Rattle.world_calls.specs.declared.call_answer.CallAnswer.TheVariants as answers
use Rattle.world_calls.specs.Answered.{started_answer}
use Rattle.ccb.specs.declared.call_refusal.CallRefusal.{CallRefusal}
use Rattle.ccb.specs.declared.call_refusal.CallRefusal.TheVariants.{Unknown, Limit, NotActive, GoesBack, Frozen, NoOpening}
use Rattle.world.specs.declared.ccb_state.CcbState.TheVariants.{Waiting, Active}
use Rattle.world.specs.Capacities.{last_reading}
use Rattle.world.specs.World.{Setup, class_fits, class_in, has_classes, queue_count, version_of, LiveCcb, LiveRun, World}
use Rattle.world.specs.Lookups.{is_active, is_waiting, active_count, ccb_of, with_ccb, next_waiting, run_of}
use Rattle.world.specs.Event.{private, call, exit, Event, called, executes, instruction_of, Reply, replies, refused}
use Rattle.world.specs.FreezeSteps.{frozen_with, is_guest, froze, thawed, guest_releases, clock_at}
use Rattle.world.specs.CcbSteps.{ccb_meets_limit, starts, is_success, run_meets_limit, finishes, run_starts, completes, withdraws, is_completion}
use Rattle.world.specs.Refusals.{is_unknown, waits, works, refusals_of}
use Rattle.world.specs.RunSteps.{ends}
use Rattle.world.specs.ParkSteps.{with_out, parks, resumes}
use Rattle.world.specs.Step.{WorldStep}
use Rattle.world.specs.Laws.FreezeLaws.{MovesCounts}
use Rattle.world.specs.Laws.CcbLaws.{finished_by}
use Rattle.world.specs.Laws.TookGave.{taken_by}
use Rattle.world.specs.Laws.Headline.{is_turn_of}
use Rattle.world.proofs.Lists.Found.{found_key}
use Rattle.world.proofs.Lists.Entries.{freeze_key}
use Rattle.world_laws.proofs.Steps.Refusing.{by_refusals, none_of}
use Rattle.world_laws.proofs.Steps.Running.{some_is, StepParts, Exits, private_parts, exit_parts}
use Rattle.world_laws.proofs.Steps.Calls.{Asks, asks_of}

-- the call is refused: it is no run's step, changes no count, finishes nothing and gives no run a freeze
pub record Refuses (before : World) (event : Event) (reply : Reply) (after : World) : Type 0 where
  pub refusal : CallRefusal
  pub idle : (number : ℕ) → instruction_of number event ≡ None
  pub moves : MovesCounts before event (refused refusal) before
  pub ends : finished_by before event (refused refusal) ≡ []
  pub taken : (run : ℕ) → taken_by run event (refused refusal) ≡ []
  pub reply_is : reply ≡ refused refusal
  pub after_is : after ≡ before

-- a CCB waits under a new number
pub record Submits (setup : Setup) (before : World) (event : Event) (reply : Reply) (after : World) : Type 0 where
  pub queue : QueueId
  pub priority : ℕ
  pub retries : ℕ
  pub class : Option ℕ
  pub fits : class_fits (has_classes setup) class ≡ true
  pub event_is : event ≡ called (Submit queue priority retries class)
  pub known : queue.0 < queue_count setup
  pub room : ccb_meets_limit queue.0 before ≡ false
  pub reply_is : reply ≡ replies (answers.Ccb (record { 0 = before.transport.greatest_ccb + 1 }))
  pub after_is : after ≡ record before { transport = record before.transport { live = before.transport.live ++ record { ccb = submitted (record { 0 = before.transport.greatest_ccb + 1 }) queue priority retries (class_in class); state = Waiting } ∷ []; greatest_ccb = before.transport.greatest_ccb + 1 } }

-- a CCB that waits starts, and what was advised for it is told, if CCBs have an advice
pub record Dispatches (setup : Setup) (before : World) (event : Event) (reply : Reply) (after : World) : Type 0 where
  pub queue : QueueId
  pub event_is : event ≡ called (Dispatch queue)
  pub known : queue.0 < queue_count setup
  pub thawed : frozen (Device queue) before.transport.freezes ≡ 0
  pub opening : active_count queue.0 before.transport.live < slice_index before.transport.openings queue.0
  pub next : LiveCcb
  pub next_is : next_waiting queue.0 before.transport.live ≡ Some next
  pub reply_is : reply ≡ replies (started_answer (version_of setup) (record { ccb = next.ccb.number; advice = next.ccb.advice }))
  pub after_is : after ≡ record before { transport = record before.transport { live = with_ccb (record { ccb = started next.ccb; state = Active }) before.transport.live } }

-- an active CCB is finished
pub record Finishes (before : World) (event : Event) (reply : Reply) (after : World) : Type 0 where
  pub outcome : Outcome
  pub event_is : event ≡ called (Complete outcome)
  pub live : LiveCcb
  pub found : ccb_of outcome.ccb.0 before.transport.live ≡ Some live
  pub is_active : is_active live.state ≡ true
  pub success : is_success outcome.status ≡ true
  pub reply_is : reply ≡ replies answers.Done
  pub after_is : after ≡ finishes before live.ccb outcome.status

-- a CCB that waits is withdrawn
pub record Withdraws (setup : Setup) (before : World) (event : Event) (reply : Reply) (after : World) : Type 0 where
  pub ccb : CcbId
  pub event_is : event ≡ called (Withdraw ccb)
  pub classes : has_classes setup ≡ true
  pub live : LiveCcb
  pub found : ccb_of ccb.0 before.transport.live ≡ Some live
  pub waits : is_waiting live.state ≡ true
  pub reply_is : reply ≡ replies answers.Ok
  pub after_is : after ≡ finishes before live.ccb RequestAborted

-- an active CCB failed, and a run starts
pub record Fails (before : World) (event : Event) : Type 0 where
  pub outcome : Outcome
  pub event_is : event ≡ called (Complete outcome)
  pub completion : is_completion outcome ≡ true
  pub live : LiveCcb
  pub found : ccb_of outcome.ccb.0 before.transport.live ≡ Some live
  pub is_active : is_active live.state ≡ true
  pub failure : is_success outcome.status ≡ false
  pub room : run_meets_limit before ≡ false

-- with a freeze
pub record Recovers (setup : Setup) (before : World) (event : Event) (reply : Reply) (after : World) : Type 0 where
  pub fails : Fails before event
  pub free : meets_limit (Device fails.live.ccb.queue) before.transport.freezes before.transport.greatest_freeze ≡ false
  pub starts_is : (reply, after) ≡ run_starts setup (froze before (Device fails.live.ccb.queue) (Run (before.runs.greatest + 1))) (completed fails.live.ccb fails.outcome true) (before.transport.greatest_freeze + 1)

-- without one
pub record RecoversUnfrozen (setup : Setup) (before : World) (event : Event) (reply : Reply) (after : World) : Type 0 where
  pub fails : Fails before event
  pub full : meets_limit (Device fails.live.ccb.queue) before.transport.freezes before.transport.greatest_freeze ≡ true
  pub starts_is : (reply, after) ≡ run_starts setup before (completed fails.live.ccb fails.outcome false) 0

-- a guest freezes a place
pub record Freezes (setup : Setup) (before : World) (event : Event) (reply : Reply) (after : World) : Type 0 where
  pub place : Place
  pub guest : ℕ
  pub event_is : event ≡ called (GuestFreeze place guest)
  pub known : is_unknown setup place ≡ false
  pub room : meets_limit place before.transport.freezes before.transport.greatest_freeze ≡ false
  pub reply_is : reply ≡ replies (answers.Freeze (before.transport.greatest_freeze + 1))
  pub after_is : after ≡ froze before place (Guest guest)

-- a guest's freeze of that number goes
pub record Releases (before : World) (event : Event) (reply : Reply) (after : World) : Type 0 where
  pub number : ℕ
  pub event_is : event ≡ called (GuestRelease number)
  pub freeze : Freeze
  pub entry : entry_of number before.transport.freezes ≡ Some freeze
  pub guests : is_guest freeze.holder ≡ true
  pub reply_is : reply ≡ replies (answers.Left (frozen_with freeze (without number before.transport.freezes)))
  pub after_is : after ≡ thawed before number

-- the clock is read: the freezes whose timers are due go
pub record ReadsClock (before : World) (event : Event) (reply : Reply) (after : World) : Type 0 where
  pub reading : ℕ
  pub event_is : event ≡ called (Clock reading)
  pub within : reading ≤ last_reading
  pub on : before.transport.clock ≤ reading
  pub reply_is : reply ≡ replies (answers.Removed (length (due_at reading before.transport.freezes)))
  pub after_is : after ≡ clock_at before reading

-- a run is parked, or out again
pub record Turns (before : World) (event : Event) (reply : Reply) (after : World) : Type 0 where
  pub number : ℕ
  pub run : LiveRun
  pub out : Bool
  pub found : run_of number before.runs.list ≡ Some run
  pub its : is_turn_of number event ≡ true
  pub idle : (other : ℕ) → instruction_of other event ≡ None
  pub moves : (later : World) → later.transport.freezes ≡ before.transport.freezes → MovesCounts before event (replies answers.Ok) later
  pub ends : finished_by before event (replies answers.Ok) ≡ []
  pub taken : (other : ℕ) → taken_by other event (replies answers.Ok) ≡ []
  pub reply_is : reply ≡ replies answers.Ok
  pub after_is : after ≡ with_out before run out

-- all cases
pub data Case (setup : Setup) (before : World) (event : Event) (reply : Reply) (after : World) : Type 0 where
  refuses : Refuses before event reply after → Case setup before event reply after
  submits : Submits setup before event reply after → Case setup before event reply after
  dispatches : Dispatches setup before event reply after → Case setup before event reply after
  finishes_one : Finishes before event reply after → Case setup before event reply after
  withdraws_one : Withdraws setup before event reply after → Case setup before event reply after
  recovers_one : Recovers setup before event reply after → Case setup before event reply after
  recovers_unfrozen : RecoversUnfrozen setup before event reply after → Case setup before event reply after
  freezes_one : Freezes setup before event reply after → Case setup before event reply after
  releases_one : Releases before event reply after → Case setup before event reply after
  reads_clock : ReadsClock before event reply after → Case setup before event reply after
  turns_one : Turns before event reply after → Case setup before event reply after
  goes_on_one : StepParts before event reply after → Case setup before event reply after
  asks_one : Asks setup before event reply after → Case setup before event reply after
  exits : Exits before event reply after → Case setup before event reply after

refused_case : (setup : Setup) (before : World) (event : Event) (reply : Reply) (after : World) (refusal : CallRefusal) → ((number : ℕ) → instruction_of number event ≡ None) → MovesCounts before event (refused refusal) before → finished_by before event (refused refusal) ≡ [] → ((run : ℕ) → taken_by run event (refused refusal) ≡ []) → ◌≡◌ {A = Reply × World} (reply, after) (refused refusal, before) → Case setup before event reply after
refused_case setup before event reply after refusal idle moves ends taken e =
    refuses (record { refusal = refusal; idle = idle; moves = moves; ends = ends; taken = taken; reply_is = ap (λ (x : Reply × World). x.0) e; after_is = ap (λ (x : Reply × World). x.1) e })

-- a CCB that waits
starts_next : (setup : Setup) (before : World) (queue : QueueId) (reply : Reply) (after : World) (o : Option LiveCcb) → next_waiting queue.0 before.transport.live ≡ o → queue.0 < queue_count setup → frozen (Device queue) before.transport.freezes ≡ 0 → active_count queue.0 before.transport.live < slice_index before.transport.openings queue.0 → option_map (starts setup before) o ≡ Some (reply, after) → Case setup before (called (Dispatch queue)) reply after
starts_next setup before queue reply after None next_is known cold free e = absurd cc
starts_next setup before queue reply after (Some next) next_is known cold free e =
    let last = some_is _ _ e in
    dispatches (record {
      queue = queue;
      event_is = refl;
      known = known;
      thawed = cold;
      opening = free;
      next = next;
      next_is = next_is;
      reply_is = ap (λ (x : Reply × World). x.0) last;
      after_is = ap (λ (x : Reply × World). x.1) last;
    })

-- a CCB that is active: finished or in recovery
completes_one : (setup : Setup) (before : World) (outcome : Outcome) (reply : Reply) (after : World) → is_completion outcome ≡ true → (o : Option LiveCcb) → ccb_of outcome.ccb.0 before.transport.live ≡ o → (not (is_success outcome.status) && run_meets_limit before) ≡ false → not (works o) ≡ false → option_map (completes setup before outcome) o ≡ Some (reply, after) → Case setup before (called (Complete outcome)) reply after
completes_one setup before outcome reply after good None found room busy e = absurd cc
completes_one setup before outcome reply after good (Some live) found room busy e =
    let third = some_is _ _ e in
    elim (cases_Bool (is_success outcome.status)) [
      | inl success ↦
          let last = third ∙ cond-true (is_success outcome.status) _ _ success in
          finishes_one (record {
            outcome = outcome;
            event_is = refl;
            live = live;
            found = found;
            is_active = not-false _ busy;
            success = success;
            reply_is = ap (λ (x : Reply × World). x.0) last;
            after_is = ap (λ (x : Reply × World). x.1) last;
          })
      | inr failure ↦
          let fourth = third ∙ cond-false (is_success outcome.status) _ _ failure in
          let roomy : run_meets_limit before ≡ false =
          sym (ap (λ (b : Bool). not b && run_meets_limit before) failure) ∙ room in
          let fails : Fails before (called (Complete outcome)) = record {
            outcome = outcome;
            event_is = refl;
            completion = good;
            live = live;
            found = found;
            is_active = not-false _ busy;
            failure = failure;
            room = roomy;
          } in
          elim (cases_Bool (meets_limit (Device live.ccb.queue) before.transport.freezes before.transport.greatest_freeze)) [
            | inl full ↦ recovers_unfrozen (record { fails = fails; full = full; starts_is = fourth ∙ cond-true (meets_limit (Device live.ccb.queue) before.transport.freezes before.transport.greatest_freeze) _ _ full })
            | inr free ↦ recovers_one (record { fails = fails; free = free; starts_is = fourth ∙ cond-false (meets_limit (Device live.ccb.queue) before.transport.freezes before.transport.greatest_freeze) _ _ free })
          ]
    ]

-- a CCB that the host wants no more
withdraws_found : (setup : Setup) (before : World) (ccb : CcbId) (reply : Reply) (after : World) (o : Option LiveCcb) → ccb_of ccb.0 before.transport.live ≡ o → not (has_classes setup) ≡ false → not (waits o) ≡ false → option_map (withdraws before) o ≡ Some (reply, after) → Case setup before (called (Withdraw ccb)) reply after
withdraws_found setup before ccb reply after None found has idle e = absurd cc
withdraws_found setup before ccb reply after (Some live) found has idle e =
    let last = some_is _ _ e in
    withdraws_one (record {
      ccb = ccb;
      event_is = refl;
      classes = not-false _ has;
      live = live;
      found = found;
      waits = not-false _ idle;
      reply_is = ap (λ (x : Reply × World). x.0) last;
      after_is = ap (λ (x : Reply × World). x.1) last;
    })

guest_release_found : (before : World) (number : ℕ) (reply : Reply) (after : World) (o : Option Freeze) → entry_of number before.transport.freezes ≡ o → guest_releases before o ≡ Some (reply, after) → Releases before (called (GuestRelease number)) reply after
guest_release_found before number reply after None entry e = absurd cc
guest_release_found before number reply after (Some f) entry e =
    elim (cases_Bool (is_guest f.holder)) [
      | inl guests ↦
          let named : f.number ≡ number = found_key freeze_key number before.transport.freezes f entry in
          let last : ◌≡◌ {A = Reply × World} (reply, after) (replies (answers.Left (frozen_with f (without number before.transport.freezes))), thawed before number) =
          some_is _ _ (sym (cond-true (is_guest f.holder) _ _ guests) ∙ e) ∙ ap (λ (n : ℕ). let x : Reply × World = (replies (answers.Left (frozen_with f (without n before.transport.freezes))), thawed before n) in x) named in
          record {
            number = number;
            event_is = refl;
            freeze = f;
            entry = entry;
            guests = guests;
            reply_is = ap (λ (x : Reply × World). x.0) last;
            after_is = ap (λ (x : Reply × World). x.1) last;
          }
      | inr other ↦ let none = sym (cond-false (is_guest f.holder) _ _ other) ∙ e in absurd cc
    ]

-- a guest's release
pub guest_release_parts : (setup : Setup) (before : World) (number : ℕ) (reply : Reply) (after : World) → WorldStep setup before (called (GuestRelease number)) reply after → Releases before (called (GuestRelease number)) reply after
guest_release_parts setup before number reply after e = guest_release_found before number reply after (entry_of number before.transport.freezes) refl e

parks_one : (setup : Setup) (before : World) (number : ℕ) (reply : Reply) (after : World) (o : Option LiveRun) → run_of number before.runs.list ≡ o → parks before o ≡ Some (reply, after) → Case setup before (called (Park number)) reply after
parks_one setup before number reply after None found e = absurd cc
parks_one setup before number reply after (Some run) found e =
    elim (cases_Bool run.out) [
      | inl out ↦
          let last = some_is _ _ (sym (cond-true run.out _ _ out) ∙ e) in
          turns_one (record {
            number = number;
            run = run;
            out = false;
            found = found;
            its = eq-eqb number number refl;
            idle = λ other. refl;
            moves = λ later same. same;
            ends = refl;
            taken = λ other. refl;
            reply_is = ap (λ (x : Reply × World). x.0) last;
            after_is = ap (λ (x : Reply × World). x.1) last;
          })
      | inr parked ↦ let none = sym (cond-false run.out _ _ parked) ∙ e in absurd cc
    ]

resumes_one : (setup : Setup) (before : World) (number : ℕ) (reply : Reply) (after : World) (o : Option LiveRun) → run_of number before.runs.list ≡ o → option_map (resumes before) o ≡ Some (reply, after) → Case setup before (called (Resume number)) reply after
resumes_one setup before number reply after None found e = absurd cc
resumes_one setup before number reply after (Some run) found e =
    let last = some_is _ _ e in
    turns_one (record {
      number = number;
      run = run;
      out = true;
      found = found;
      its = eq-eqb number number refl;
      idle = λ other. refl;
      moves = λ later same. same;
      ends = refl;
      taken = λ other. refl;
      reply_is = ap (λ (x : Reply × World). x.0) last;
      after_is = ap (λ (x : Reply × World). x.1) last;
    })

-- A call is refused, or does what it does.
call_case : (setup : Setup) (before : World) (its : Call) (reply : Reply) (after : World) → WorldStep setup before (called its) reply after → Case setup before (called its) reply after
call_case setup before (Submit queue priority retries class) reply after e =
    elim (cases_Bool (class_fits (has_classes setup) class)) [
      | inl fits ↦
          elim (by_refusals (refusals_of setup before (Submit queue priority retries class)) before _ reply after (sym (cond-true (class_fits (has_classes setup) class) _ _ fits) ∙ e)) [
            | inl it ↦ refused_case setup before (called (Submit queue priority retries class)) reply after it.refusal (λ n. refl) refl refl (λ n. refl) it.is
            | inr goes ↦
                let tests = refusals_of setup before (Submit queue priority retries class) in
                let last = some_is _ _ goes.1 in
                submits (record {
                  queue = queue;
                  priority = priority;
                  retries = retries;
                  class = class;
                  fits = fits;
                  event_is = refl;
                  known = leb-false _ _ (none_of Unknown tests goes.0);
                  room = none_of Limit tests goes.0;
                  reply_is = ap (λ (x : Reply × World). x.0) last;
                  after_is = ap (λ (x : Reply × World). x.1) last;
                })
          ]
      | inr unfit ↦ let none = sym (cond-false (class_fits (has_classes setup) class) _ _ unfit) ∙ e in absurd cc
    ]
call_case setup before (Dispatch queue) reply after e =
    elim (by_refusals (refusals_of setup before (Dispatch queue)) before _ reply after e) [
      | inl it ↦ refused_case setup before (called (Dispatch queue)) reply after it.refusal (λ n. refl) refl refl (λ n. refl) it.is
      | inr goes ↦
          let tests = refusals_of setup before (Dispatch queue) in
          starts_next setup before queue reply after (next_waiting queue.0 before.transport.live) refl (leb-false _ _ (none_of Unknown tests goes.0))
          (let none = ltb-false _ _ (none_of Frozen tests goes.0) in omega (arith, none)) (leb-false _ _ (none_of NoOpening tests goes.0)) goes.1
    ]
call_case setup before (Complete outcome) reply after e =
    elim (cases_Bool (is_completion outcome)) [
      | inl good ↦
          elim (by_refusals (refusals_of setup before (Complete outcome)) before _ reply after (sym (cond-true (is_completion outcome) _ _ good) ∙ e)) [
            | inl it ↦ refused_case setup before (called (Complete outcome)) reply after it.refusal (λ n. refl) refl refl (λ n. refl) it.is
            | inr goes ↦
                let tests = refusals_of setup before (Complete outcome) in
                completes_one setup before outcome reply after good (ccb_of outcome.ccb.0 before.transport.live) refl (none_of Limit tests goes.0) (none_of NotActive tests goes.0) goes.1
          ]
      | inr bad ↦ let none = sym (cond-false (is_completion outcome) _ _ bad) ∙ e in absurd cc
    ]
call_case setup before (Withdraw ccb) reply after e =
    elim (by_refusals (refusals_of setup before (Withdraw ccb)) before _ reply after e) [
      | inl it ↦ refused_case setup before (called (Withdraw ccb)) reply after it.refusal (λ n. refl) refl refl (λ n. refl) it.is
      | inr goes ↦
          let tests = refusals_of setup before (Withdraw ccb) in
          withdraws_found setup before ccb reply after (ccb_of ccb.0 before.transport.live) refl (none_of Unknown tests goes.0) (none_of NotActive tests goes.0) goes.1
    ]
call_case setup before (GuestFreeze place guest) reply after e =
    elim (by_refusals (refusals_of setup before (GuestFreeze place guest)) before _ reply after e) [
      | inl it ↦ refused_case setup before (called (GuestFreeze place guest)) reply after it.refusal (λ n. refl) refl refl (λ n. refl) it.is
      | inr goes ↦
          let tests = refusals_of setup before (GuestFreeze place guest) in
          let last = some_is _ _ goes.1 in
          freezes_one (record {
            place = place;
            guest = guest;
            event_is = refl;
            known = none_of Unknown tests goes.0;
            room = none_of Limit tests goes.0;
            reply_is = ap (λ (x : Reply × World). x.0) last;
            after_is = ap (λ (x : Reply × World). x.1) last;
          })
    ]
call_case setup before (GuestRelease number) reply after e = releases_one (guest_release_parts setup before number reply after e)
call_case setup before (Clock reading) reply after e =
    elim (by_refusals (refusals_of setup before (Clock reading)) before _ reply after e) [
      | inl it ↦ refused_case setup before (called (Clock reading)) reply after it.refusal (λ n. refl) refl refl (λ n. refl) it.is
      | inr goes ↦
          let tests = refusals_of setup before (Clock reading) in
          let last = some_is _ _ goes.1 in
          reads_clock (record {
            reading = reading;
            event_is = refl;
            within = ltb-false _ _ (none_of Limit tests goes.0);
            on = ltb-false _ _ (none_of GoesBack tests goes.0);
            reply_is = ap (λ (x : Reply × World). x.0) last;
            after_is = ap (λ (x : Reply × World). x.1) last;
          })
    ]
call_case setup before (Park number) reply after e = parks_one setup before number reply after (run_of number before.runs.list) refl e
call_case setup before (Resume number) reply after e =
    elim (by_refusals (refusals_of setup before (Resume number)) before _ reply after e) [
      | inl it ↦ refused_case setup before (called (Resume number)) reply after it.refusal (λ n. refl) refl refl (λ n. refl) it.is
      | inr goes ↦ resumes_one setup before number reply after (run_of number before.runs.list) refl goes.1
    ]

pub case_of : (setup : Setup) (before : World) (event : Event) (reply : Reply) (after : World) → WorldStep setup before event reply after → Case setup before event reply after
case_of setup before (called its) reply after e = call_case setup before its reply after e
case_of setup before (executes number private) reply after e = goes_on_one (private_parts setup before number reply after e)
case_of setup before (executes number (call told)) reply after e = asks_one (asks_of setup before number told reply after e)
case_of setup before (executes number exit) reply after e = exits (exit_parts setup before number reply after e)

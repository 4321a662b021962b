-- What the arms make of an engine's parts is what the world does: from what the tables tell of their steps.
use Rattle.std.proofs.Common.{◌≡◌, ℕ, ◌+◌, List, [], ◌∷◌, ◌++◌, Bool, true, false, not, length, Option, Result, Ok, Err, Some, None, refl, ap, sym, subst, ◌∙◌}
use Rattle.std.specs.Borrow.{Bor}
use Rattle.std.specs.Prelude.{Contains, OnErr, OnOk, if◌then◌else◌, is_none}
use Rattle.std.specs.Option.{option_map}
use Rattle.std.proofs.lemmas.List.Elements.{Contains-push}
use Rattle.freeze_ledger.specs.Freezes.{not_due_at, without}
use Rattle.ccb.specs.declared.CcbId.{CcbId}
use Rattle.ccb.specs.declared.QueueId.{QueueId}
use Rattle.ccb.specs.declared.ccb.Ccb.{Ccb}
use Rattle.ccb.specs.declared.completion.Completion.{Completion}
use Rattle.freeze_ledger.specs.declared.freeze.Freeze.{Freeze}
use Rattle.freeze_ledger.specs.declared.freeze.Holder.TheVariants.{Guest}
use Rattle.ccb.specs.declared.place.Place.{Place}
use Rattle.engine_runs.specs.RunsState.{RunsState}
use Rattle.engine_core.specs.RunState.{RunState, StoppedState, IsOutUnder}
use Rattle.engine_runs.specs.Admits.{IsOutWith}
use Rattle.world_calls.specs.declared.call.Call.{Call}
use Rattle.world_calls.specs.declared.call.Call.TheVariants as its
use Rattle.world_calls.specs.declared.call_answer.CallAnswer.{CallAnswer}
use Rattle.world_calls.specs.declared.call_answer.CallAnswer.TheVariants as answers
use Rattle.ccb.specs.declared.call_refusal.CallRefusal.{CallRefusal}
use Rattle.ccb.specs.declared.call_refusal.CallRefusal.TheVariants.{NotActive, Unknown}
use Rattle.world_calls.specs.declared.record.Record.{Record}
use Rattle.world_calls.specs.declared.record.Record.TheVariants.{Called, Advance as AdvanceRecord}
use Rattle.world_calls.specs.declared.record.StoppedAt.{StoppedAt}
use Rattle.world_calls.specs.declared.start.Start.{Start}
use Rattle.world_calls.specs.declared.trace.Version.{Version}
use Rattle.world_calls.specs.declared.trace.Version.TheVariants.{One, Three, Two}
use Rattle.world_calls.specs.Answered.{ccb_answer, removed_answer, start_answer, started_answer}
use Rattle.world.specs.World.{LiveCcb, Transport, Setup, LiveRun, World, class_fits, class_kept, has_classes, queue_count, version_of}
use Rattle.world.specs.Lookups.{ccb_of, is_waiting, run_of}
use Rattle.world.specs.Event.{replies, refused}
use Rattle.ccb.specs.declared.cam_status.CamStatus.TheVariants.{RequestAborted}
use Rattle.world.specs.CcbSteps.{finishes, withdraws}
use Rattle.world.specs.FreezeSteps.{is_guest}
use Rattle.world.specs.declared.ccb_state.CcbState.{CcbState}
use Rattle.world.specs.declared.ccb_state.CcbState.TheVariants.{Active, InRecovery, Waiting}
use Rattle.world.specs.Refusals.{waits}
use Rattle.world.specs.Step.{is_call, step_call}
use Rattle.world.proofs.Lists.Found.{found_key, leave}
use Rattle.world.proofs.Steps.Moves.{ccb_key}
use Rattle.engine_core.specs.declared.event.Event.TheVariants.{Withdraw, Submit, Dispatch, Complete, Advance, Clock, GuestFreeze, GuestRelease, Park, Resume}
use Rattle.engine_core.specs.declared.reply.Success.{Success as TheGiven}
use Rattle.engine_core.specs.declared.reply.Success.TheVariants as given
use Rattle.engine_core.specs.declared.reply.Reply.TheVariants.{Success, Refused}
use Rattle.engine_core.specs.declared.answers.AdvanceAnswer.{AdvanceAnswer}
use Rattle.engine_core.specs.declared.answers.AdvanceAnswer.TheVariants as advances
use Rattle.engine_core.specs.Answers.{r0_of, stopped_at}
use Rattle.engine_core.specs.EngineState.{world_of}
use Rattle.engine_core.specs.Invariant.{HistoryHasRoom, HoldEntries, KeepsEngine}
use Rattle.engine_core.specs.Performing.{IsPlaced, Performs, world_with}
use Rattle.engine_core.specs.Replies.{IsAdvanced, IsGiven, IsStart, answer_of, ccb_reply, given_start, removed_reply, r0_given, given_advanced, start_reply}
use Rattle.engine_core.specs.Withdrawing.{IsRefusedWithdrawal, MayWithdraw}
use Rattle.engine_core.specs.TakingOver.{Becomes, LeadsBy}
use Rattle.engine_core.proofs.Going.{goes_out, is_admitted}
use Rattle.engine_core.proofs.OneMore.{once, by_transport}
use Rattle.engine_core.proofs.Holding.{guest_froze, guest_released, its_entry, run_changed, same_freezes, timers_released}
use Rattle.engine_core.proofs.Parking.{with_out_run, parks_run, resumes_run, resumes_none, room_left}
use Rattle.engine_core.proofs.Recording.{kept_sound}

-- a call that is about the transport alone, and the tokens with it
abbrev StepsOf : Setup → Transport → Transport → Call → CallAnswer → Type 0
StepsOf setup transport more call answer = (world : World) → queue_count setup ≡ length transport.openings → step_call setup (record world { transport = transport }) call ≡ Some (replies answer, record world { transport = more })

-- in each setup
abbrev Steps : Transport → Transport → Call → CallAnswer → Type 0
Steps transport more call answer = (setup : Setup) → StepsOf setup transport more call answer

-- a submission may be asked with the class that is recorded
pub may_submit : (setup : Setup) (queue : QueueId) (priority retries class : ℕ) → is_call setup (its.Submit queue priority retries (class_kept setup class)) ≡ true
may_submit setup queue priority retries class = fits (has_classes setup)
  where
    fits : (has : Bool) → class_fits has (if has then Some class else None) ≡ true
    fits true = refl
    fits false = refl

pub submits : (setup : Setup) (queue : QueueId) (priority retries class : ℕ) (transport more : Transport) (answer : Result CcbId CallRefusal) → StepsOf setup transport more (its.Submit queue priority retries (class_kept setup class)) (ccb_answer answer) → more.freezes ≡ transport.freezes → (runs : RunsState) → Performs setup (Submit queue priority retries class) transport runs more runs (ccb_reply answer) (Called (ccb_answer answer) (its.Submit queue priority retries (class_kept setup class)))
submits setup queue priority retries class transport more (Ok ccb) step same runs = record {
  is = refl;
  fits = tt;
  leads = λ history kept. by_transport setup history transport more runs _ _ step kept;
  tokens = λ history kept. same_freezes transport.freezes more.freezes runs kept.tokens same;
  gives = λ before after. tt;
  room = tt;
}
submits setup queue priority retries class transport more (Err refusal) step same runs = record {
  is = refl;
  fits = refl;
  leads = λ history kept. by_transport setup history transport more runs _ _ step kept;
  tokens = λ history kept. same_freezes transport.freezes more.freezes runs kept.tokens same;
  gives = λ before after. tt;
  room = tt;
}

-- what a start gives is what its record answers
pub start_told : (version : Version) (start : Start) → answer_of (given_start version start) ≡ started_answer version start
start_told One start = refl
start_told Two start = refl
start_told Three start = refl

pub start_fits : (version : Version) (start : Start) → IsStart (given_start version start)
start_fits One start = tt
start_fits Two start = tt
start_fits Three start = tt

pub dispatches : (setup : Setup) (queue : QueueId) (transport more : Transport) (answer : Result Start CallRefusal) → StepsOf setup transport more (its.Dispatch queue) (start_answer (version_of setup) answer) → more.freezes ≡ transport.freezes → (runs : RunsState) → Performs setup (Dispatch queue) transport runs more runs (start_reply (version_of setup) answer) (Called (start_answer (version_of setup) answer) (its.Dispatch queue))
dispatches setup queue transport more (Ok start) step same runs = record {
  is = ap (λ (a : CallAnswer). Some (Called a (its.Dispatch queue))) (start_told (version_of setup) start);
  fits = start_fits (version_of setup) start;
  leads = λ history kept. by_transport setup history transport more runs _ _ step kept;
  tokens = λ history kept. same_freezes transport.freezes more.freezes runs kept.tokens same;
  gives = λ before after. gives_start setup (world_with transport runs before) queue (world_with more runs after) (version_of setup) start;
  room = tt;
}
  where
    gives_start : (setup : Setup) (before : World) (queue : QueueId) (after : World) (version : Version) (start : Start) → IsGiven setup before (Dispatch queue) after (given_start version start)
    gives_start setup before queue after One start = tt
    gives_start setup before queue after Two start = tt
    gives_start setup before queue after Three start = tt
dispatches setup queue transport more (Err refusal) step same runs = record {
  is = refl;
  fits = refl;
  leads = λ history kept. by_transport setup history transport more runs _ _ step kept;
  tokens = λ history kept. same_freezes transport.freezes more.freezes runs kept.tokens same;
  gives = λ before after. tt;
  room = tt;
}

-- Withdrawals: each of its three refusals, and a CCB that is gone.

pub no_classes : (setup : Setup) (world : World) (ccb : CcbId) → has_classes setup ≡ false → IsRefusedWithdrawal setup ccb Unknown world
no_classes setup world ccb without = rw without refl

pub none_to_withdraw : (setup : Setup) (world : World) (ccb : CcbId) → ccb_of ccb.0 world.transport.live ≡ None → IsRefusedWithdrawal setup ccb Unknown world
none_to_withdraw setup world ccb none = by (has_classes setup)
  where
    by : (has : Bool) → (if not has then Some (refused Unknown, world) else (if is_none (ccb_of ccb.0 world.transport.live) then Some (refused Unknown, world) else (if not (waits (ccb_of ccb.0 world.transport.live)) then Some (refused NotActive, world) else option_map (withdraws world) (ccb_of ccb.0 world.transport.live)))) ≡ Some (refused Unknown, world)
    by true = rw none refl
    by false = refl

pub waiting_is : (s : CcbState) → is_waiting s ≡ true → s ≡ Waiting
waiting_is Waiting waits = refl
waiting_is Active waits = absurd (let bad : false ≡ true = waits in cc)
waiting_is InRecovery waits = absurd (let bad : false ≡ true = waits in cc)

pub works_still : (setup : Setup) (world : World) (ccb : CcbId) (live : LiveCcb) → has_classes setup ≡ true → ccb_of ccb.0 world.transport.live ≡ Some live → is_waiting live.state ≡ false → IsRefusedWithdrawal setup ccb NotActive world
works_still setup world ccb live has found not_waiting = rw (has, found, not_waiting) refl

pub refuses_withdrawal : (setup : Setup) (transport : Transport) (runs : RunsState) (ccb : CcbId) (refusal : CallRefusal) → ((world : World) → IsRefusedWithdrawal setup ccb refusal (record world { transport = transport })) → Performs setup (Withdraw ccb) transport runs transport runs (Refused refusal) (Called (answers.Refused refusal) (its.Withdraw ccb))
refuses_withdrawal setup transport runs ccb refusal step = record {
  is = refl;
  fits = refl;
  leads = λ history kept. by_transport setup history transport transport runs _ _ (λ world count. step world) kept;
  tokens = λ history kept. kept.tokens;
  gives = λ before later. tt;
  room = tt;
}

pub withdraws_ccb : (setup : Setup) (ccb : CcbId) (transport more : Transport) (runs : RunsState) → MayWithdraw setup ccb transport → more ≡ record transport { live = leave ccb_key ccb.0 transport.live } → Performs setup (Withdraw ccb) transport runs more runs (Success given.Withdrawn) (Called answers.Ok (its.Withdraw ccb))
withdraws_ccb setup ccb transport more runs may fewer =
    let live : LiveCcb = may.1.0 in
    let number : live.ccb.number.0 ≡ ccb.0 = found_key ccb_key ccb.0 transport.live live may.1.1 in
    record {
      is = refl;
      fits = tt;
      leads = λ history kept.
          let before : World = world_of setup history transport runs.runs in
          let end : World = finishes before live.ccb RequestAborted in
          let step : step_call setup before (its.Withdraw ccb) ≡ Some (replies answers.Ok, end) = rw (may.0, may.1.1, may.1.2) refl in
          let gone : more ≡ record transport { live = leave ccb_key live.ccb.number.0 transport.live } = fewer ∙ ap (λ (n : ℕ). record transport { live = leave ccb_key n transport.live }) (sym number) in
          once setup before end _ _ more runs.runs step (sym (ap (λ (m : Transport). record end { transport = m; runs = runs.runs }) gone));
      tokens = λ history kept. same_freezes transport.freezes more.freezes runs kept.tokens (ap (λ (m : Transport). m.freezes) fewer);
      gives = λ before later. tt;
      room = tt;
    }

pub reads : (reading : ℕ) (transport more : Transport) (answer : Result ℕ CallRefusal) → Steps transport more (its.Clock reading) (removed_answer answer) → OnOk answer (more.freezes ≡ not_due_at reading transport.freezes) → OnErr answer (more ≡ transport) → (setup : Setup) (runs : RunsState) → Performs setup (Clock reading) transport runs more runs (removed_reply answer) (Called (removed_answer answer) (its.Clock reading))
reads reading transport more (Ok count) step removed same setup runs = record {
  is = refl;
  fits = tt;
  leads = λ history kept. by_transport setup history transport more runs _ _ (step setup) kept;
  tokens = λ history kept. timers_released transport.freezes more.freezes transport.greatest_freeze reading runs kept.tokens (kept_sound setup history transport runs kept).kept.freezes.numbered removed;
  gives = λ before after. tt;
  room = tt;
}
reads reading transport more (Err refusal) step removed same setup runs = record {
  is = refl;
  fits = refl;
  leads = λ history kept. by_transport setup history transport more runs _ _ (step setup) kept;
  tokens = λ history kept. same_freezes transport.freezes more.freezes runs kept.tokens (ap (λ (m : Transport). m.freezes) same);
  gives = λ before after. tt;
  room = tt;
}

pub freezes : (setup : Setup) (place : Place) (guest : ℕ) (transport more : Transport) (token : Freeze) (number : ℕ) → number ≡ token.number → (token.place ≡ place) × (token.holder ≡ Guest guest) × (more.freezes ≡ transport.freezes ++ token ∷ []) → StepsOf setup transport more (its.GuestFreeze place guest) (answers.Freeze token.number) → (runs : RunsState) → Performs setup (GuestFreeze place guest) transport runs more runs (Success (given.Freeze token)) (Called (answers.Freeze number) (its.GuestFreeze place guest))
freezes setup place guest transport more token number named is step runs =
    let guests : is_guest token.holder ≡ true = ap is_guest is.1 in
    subst (λ (n : ℕ). Performs setup (GuestFreeze place guest) transport runs more runs (Success (given.Freeze token)) (Called (answers.Freeze n) (its.GuestFreeze place guest))) (sym named) (record {
      is = refl;
      fits = tt;
      leads = λ history kept. by_transport setup history transport more runs _ _ step kept;
      tokens = λ history kept. guest_froze transport.freezes more.freezes token runs kept.tokens guests is.2;
      gives = λ before later. ((subst (λ (fs : List Freeze). Contains fs token) (sym is.2) (Contains-push transport.freezes token), guests), is.0, is.1);
      room = tt;
    })

pub refuses_freeze : (setup : Setup) (place : Place) (guest : ℕ) (transport more : Transport) (refusal : CallRefusal) → more ≡ transport → StepsOf setup transport more (its.GuestFreeze place guest) (answers.Refused refusal) → (runs : RunsState) → Performs setup (GuestFreeze place guest) transport runs more runs (Refused refusal) (Called (answers.Refused refusal) (its.GuestFreeze place guest))
refuses_freeze setup place guest transport more refusal same step runs = record {
  is = refl;
  fits = refl;
  leads = λ history kept. by_transport setup history transport more runs _ _ step kept;
  tokens = λ history kept. same_freezes transport.freezes more.freezes runs kept.tokens (ap (λ (m : Transport). m.freezes) same);
  gives = λ before later. tt;
  room = tt;
}

pub releases : (token : Freeze) (transport more : Transport) (number count : ℕ) → number ≡ token.number → Contains transport.freezes token → is_guest token.holder ≡ true → more.freezes ≡ without token.number transport.freezes → Steps transport more (its.GuestRelease token.number) (answers.Left count) → (setup : Setup) (runs : RunsState) → Performs setup (GuestRelease token) transport runs more runs (Success (given.Left count)) (Called (answers.Left count) (its.GuestRelease number))
releases token transport more number count named there guests fewer step setup runs =
    subst (λ (n : ℕ). Performs setup (GuestRelease token) transport runs more runs (Success (given.Left count)) (Called (answers.Left count) (its.GuestRelease n))) (sym named) (record {
      is = refl;
      fits = tt;
      leads = λ history kept. by_transport setup history transport more runs _ _ (step setup) kept;
      tokens = λ history kept.
          let numbered = (kept_sound setup history transport runs kept).kept.freezes.numbered in
          guest_released transport.freezes more.freezes transport.greatest_freeze token runs kept.tokens numbered (its_entry transport.freezes transport.greatest_freeze token numbered there) guests fewer;
      gives = λ before later. tt;
      room = tt;
    })

pub refuses_completion : (setup : Setup) (transport : Transport) (runs : RunsState) (completion : Bor Completion) (refusal : CallRefusal) → ((world : World) → step_call setup (record world { transport = transport; runs = runs.runs }) (its.Complete completion.now) ≡ Some (refused refusal, record world { transport = transport; runs = runs.runs })) → Performs setup (Complete completion) transport runs transport runs (Refused refusal) (Called (answers.Refused refusal) (its.Complete completion.now))
refuses_completion setup transport runs completion refusal step = record {
  is = refl;
  fits = refl;
  leads = λ history kept.
      let before : World = world_of setup history transport runs.runs in
      once setup before before _ _ transport runs.runs (step before) refl;
  tokens = λ history kept. kept.tokens;
  gives = λ before later. tt;
  room = tt;
}

pub finishes_ccb : (setup : Setup) (transport more : Transport) (runs : RunsState) (completion : Bor Completion) (ccb : Ccb) → more ≡ record transport { live = leave ccb_key ccb.number.0 transport.live } → ((world : World) → step_call setup (record world { transport = transport; runs = runs.runs }) (its.Complete completion.now) ≡ Some (replies answers.Done, finishes (record world { transport = transport; runs = runs.runs }) ccb completion.now.status)) → Performs setup (Complete completion) transport runs more runs (Success given.Done) (Called answers.Done (its.Complete completion.now))
finishes_ccb setup transport more runs completion ccb fewer step = record {
  is = refl;
  fits = tt;
  leads = λ history kept.
      let before : World = world_of setup history transport runs.runs in
      let end : World = finishes before ccb completion.now.status in
      once setup before end _ _ more runs.runs (step before) (sym (ap (λ (m : Transport). record end { transport = m; runs = runs.runs }) fewer));
  tokens = λ history kept. same_freezes transport.freezes more.freezes runs kept.tokens (ap (λ (m : Transport). m.freezes) fewer);
  gives = λ before later. tt;
  room = tt;
}

pub starts_run : (setup : Setup) (transport more : Transport) (runs after : RunsState) (completion : Bor Completion) (run : RunState) (number freeze : ℕ) → number ≡ run.number → HoldEntries more.freezes after → ((world : World) → step_call setup (record world { transport = transport; runs = runs.runs }) (its.Complete completion.now) ≡ Some (replies (answers.Started run.number freeze), record world { transport = more; runs = after.runs })) → ((world : World) → IsOutUnder setup (record world { runs = after.runs }) run) → Performs setup (Complete completion) transport runs more after (Success (given.Started run freeze)) (Called (answers.Started number freeze) (its.Complete completion.now))
starts_run setup transport more runs after completion run number freeze named holds step out =
    subst (λ (n : ℕ). Performs setup (Complete completion) transport runs more after (Success (given.Started run freeze)) (Called (answers.Started n freeze) (its.Complete completion.now))) (sym named) (record {
      is = refl;
      fits = tt;
      leads = λ history kept.
          let before : World = world_of setup history transport runs.runs in
          once setup before (record before { transport = more; runs = after.runs }) _ _ more after.runs (step before) refl;
      tokens = λ history kept. holds;
      gives = λ before later. out (record later { transport = more });
      room = tt;
    })

-- a run that is parked
pub parks_it : (setup : Setup) (history : List Record) (transport : Transport) (runs after : RunsState) (run : RunState) (it : LiveRun) (number : ℕ) → number ≡ run.number → KeepsEngine setup history transport runs → run_of run.number runs.runs.list ≡ Some it → it.out ≡ true → after ≡ with_out_run it false runs → Performs setup (Park run) transport runs transport after (Success given.Parked) (Called answers.Ok (its.Park number))
parks_it setup history transport runs after run it number named kept found out same =
    subst (λ (n : ℕ). Performs setup (Park run) transport runs transport after (Success given.Parked) (Called answers.Ok (its.Park n))) (sym named) (record {
      is = refl;
      fits = tt;
      leads = λ past its_kept. parks_run setup past transport runs after run.number it found out same;
      tokens = λ past its_kept. run_changed transport.freezes runs after (record it { out = false }) its_kept.tokens same;
      gives = λ before later. tt;
      room = λ records capacity room.
          let rising = (kept_sound setup history transport runs kept).kept.runs.rising in
          subst (λ (r : RunsState). HistoryHasRoom (records + 1) capacity r.runs.list) (sym same) (room_left records capacity run.number _ runs.runs.list it rising room found out);
    })

-- one that goes on, and none that does
pub resumes_it : (setup : Setup) (transport : Transport) (runs after : RunsState) (number : ℕ) (it : LiveRun) (again : RunState) → run_of number runs.runs.list ≡ Some it → it.out ≡ false → after ≡ with_out_run it true runs → again.number ≡ number → ((world : World) → IsOutUnder setup (record world { runs = after.runs }) again) → Performs setup (Resume number) transport runs transport after (Success (given.Resumed again)) (Called answers.Ok (its.Resume number))
resumes_it setup transport runs after number it again found out same named under = record {
  is = refl;
  fits = tt;
  leads = λ history kept. resumes_run setup history transport runs after number it found out same;
  tokens = λ history kept. run_changed transport.freezes runs after (record it { out = true }) kept.tokens same;
  gives = λ before later. (named, under (record later { transport = transport }));
  room = tt;
}

pub resumes_nothing : (setup : Setup) (transport : Transport) (runs : RunsState) (number : ℕ) → ((it : LiveRun) → run_of number runs.runs.list ≡ Some it → it.out ≡ true) → Performs setup (Resume number) transport runs transport runs (Refused Unknown) (Called (answers.Refused Unknown) (its.Resume number))
resumes_nothing setup transport runs number none = record {
  is = refl;
  fits = refl;
  leads = λ history kept. resumes_none setup history transport runs number none;
  tokens = λ history kept. kept.tokens;
  gives = λ before later. tt;
  room = tt;
}

-- what a run did is taken over
pub takes_over : (setup : Setup) (transport more : Transport) (runs after : RunsState) (run : StoppedState) (place number steps : ℕ) (stop : StoppedAt) (r0 : ℕ) (what : TheGiven) → number ≡ run.number → steps ≡ run.segment.steps → stop ≡ stopped_at run.segment.stop → HoldEntries more.freezes after → r0_given what ≡ r0 → IsAdvanced what → IsOutWith runs.runs.list run.number run.segment.program.program run.segment.from → IsPlaced runs.runs.list run.number place → LeadsBy (stopped_at run.segment.stop) r0 place run.segment transport runs more after
    → ((before later : World) → IsGiven setup (world_with transport runs before) (Advance run) (world_with more after later) what) → Performs setup (Advance run) transport runs more after (Success what) (AdvanceRecord number steps stop r0)
takes_over setup transport more runs after run place number steps stop r0 what named counted stopped holds told may out at leads gives =
    rw (named, counted, stopped, ← told) (record {
      is = refl;
      fits = may;
      leads = λ history kept. rw told (leads run.number (is_admitted setup history transport runs run.number place run.segment kept out at) setup history kept);
      tokens = λ history kept. holds;
      gives = gives;
      room = tt;
    })

-- what becomes of it is what is given
pub given_so : (setup : Setup) (transport more : Transport) (runs after : RunsState) (run : StoppedState) (place : ℕ) (answer : AdvanceAnswer) → IsOutWith runs.runs.list run.number run.segment.program.program run.segment.from → IsPlaced runs.runs.list run.number place → Becomes run answer runs.runs.list after.runs.list place → (before later : World) → IsGiven setup (world_with transport runs before) (Advance run) (world_with more after later) (given_advanced answer)
given_so setup transport more runs after run place (advances.Goes again r0) out at goes before later = goes_out setup (world_with transport runs before) (world_with more after later) run place again out at goes
given_so setup transport more runs after run place (advances.Ended r0) out at ends before later = ends

-- an advance gives what it may
pub gives_advanced : (answer : AdvanceAnswer) → IsAdvanced (given_advanced answer)
gives_advanced (advances.Goes again r0) = tt
gives_advanced (advances.Ended r0) = tt

-- R0 of what an advance gives
pub r0_same : (answer : AdvanceAnswer) → r0_given (given_advanced answer) ≡ r0_of answer
r0_same (advances.Goes run r0) = refl
r0_same (advances.Ended r0) = refl

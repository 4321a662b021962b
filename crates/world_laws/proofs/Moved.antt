-- Private instructions move: a change of one run's machine and an event that is none of that run's do not mind each other.
use Rattle.std.proofs.Common.{◌≡◌, ℕ, ◌+◌, List, [], ◌∷◌, ◌++◌, Bool, true, false, cond, eqb, Option, Some, None, refl, ap, sym, subst, ◌∙◌}
use Rattle.std.specs.Prelude.{not, ◌||◌, ◌&&◌, nat_le}
use Rattle.std.specs.Option.{is_some, is_none, option_map, option_and_then}
use Rattle.std.specs.List.{list_all}
use Rattle.std.proofs.lemmas.Bool.{cond-true, eq-eqb, and_parts, or_parts, not-true}
use Rattle.ccb.specs.declared.cam_status.CamStatus.TheVariants.{RequestAborted}
use Rattle.ccb.specs.declared.ccb.Ccb.{Ccb}
use Rattle.ccb.specs.Completion.{Outcome}
use Rattle.ccb.specs.Ccb.{completed}
use Rattle.helpers.specs.declared.limits.HelperLimits.{HelperLimits}
use Rattle.helpers.specs.declared.request.Request.{Request}
use Rattle.freeze_ledger.specs.declared.freeze.Freeze.{Freeze}
use Rattle.freeze_ledger.specs.declared.freeze.Holder.TheVariants.{Run}
use Rattle.ccb.specs.declared.place.Place.TheVariants.{Device}
use Rattle.freeze_ledger.specs.Freezes.{meets_limit, entry_of}
use Rattle.bpf_semantics.specs.MachineState.{MachineState}
use Rattle.bpf_semantics.specs.Step.{private_step, request_at, exit_at}
use Rattle.world_calls.specs.declared.call.Call.{Call}
use Rattle.world_calls.specs.declared.call.Call.TheVariants.{Submit, Dispatch, Complete, Withdraw, GuestFreeze, GuestRelease, Clock, Park, Resume}
use Rattle.world_calls.specs.declared.call_answer.CallAnswer.TheVariants as answers
use Rattle.ccb.specs.declared.call_refusal.CallRefusal.{CallRefusal}
use Rattle.ccb.specs.declared.call_refusal.CallRefusal.TheVariants.{Unknown, Limit, NotActive}
use Rattle.world.specs.Capacities.{most_runs, last_number}
use Rattle.world.specs.World.{Setup, class_fits, has_classes, LiveCcb, LiveRun, World}
use Rattle.world.specs.Lookups.{ccb_of, next_waiting, run_of}
use Rattle.world.specs.Told.{Told}
use Rattle.world.specs.Event.{Instruction, private, call, exit, Event, called, executes, Reply, replies, went_on, result, refused}
use Rattle.world.specs.FreezeSteps.{froze, guest_releases}
use Rattle.world.specs.CcbSteps.{starts, withdraws, is_success, run_meets_limit, finishes as finishes_done, run_starts, recovers, completes, is_completion}
use Rattle.world.specs.RunSteps.{goes_on, step_helper, ends, step_run, step_executes}
use Rattle.world.specs.ParkSteps.{parks, resumes}
use Rattle.world.specs.Refusals.{works, is_parked, refusals_of, unless_refused}
use Rattle.world.specs.Step.{step_call, step, WorldStep}
use Rattle.world.specs.WorldRun.{Leads}
use Rattle.world.specs.Laws.Headline.{is_own_of}
use Rattle.world.specs.Laws.Moved.{is_start_of, is_of_another, Moved}
use Rattle.world.proofs.Lists.Found.{found_key, put_other, leave_other}
use Rattle.world.proofs.Lists.Each.{put_length}
use Rattle.world_laws.proofs.Apart.{leave_swap, push_swap, push_other}
use Rattle.world_laws.proofs.Alike.{changed, Alike, AlikeOr, neither, an_event, one_of, either, if_so, stays, changes}
use Rattle.world.proofs.Steps.Moves.{run_key}
use Rattle.world_laws.proofs.Steps.Running.{private_parts}
use Rattle.world_laws.proofs.Deeds.{requests_alike}

module _ (r : ℕ) (c : LiveRun) (named : c.number ≡ r) (w : World) where
  -- another run leaves
  leaves : (reply : Reply) (run : LiveRun) → (run.number ≡ r → ⊥) → Alike r c named w (reply, ends w run) (reply, ends (changed c w) run)
  leaves reply run apart = record {
    reply_is = refl;
    world_is = λ other. (
      ap (λ (runs : List LiveRun). record w { runs = record w.runs { list = runs } }) (leave_swap run_key run.number c w.runs.list (λ same. apart (sym same ∙ named))),
      leave_other run_key run.number r w.runs.list apart,
    );
  }

  -- a run starts
  begins : (setup : Setup) (between : World) (ccb : Ccb) (freeze : ℕ) → between.runs.list ≡ w.runs.list → Alike r c named w (run_starts setup between ccb freeze) (run_starts setup (changed c between) ccb freeze)
  begins setup between ccb freeze e = record {
    reply_is = refl;
    world_is = λ other.
        let apart : between.runs.greatest + 1 ≡ r → ⊥ = λ same. let bad : true ≡ false = sym (eq-eqb _ _ same) ∙ other in cc in (
          ap (λ (runs : List LiveRun). record (run_starts setup between ccb freeze).1 { runs = record (run_starts setup between ccb freeze).1.runs { list = runs } }) (sym (push_swap run_key c _ between.runs.list (λ same. apart (same ∙ named)))),
          push_other run_key r _ between.runs.list apart ∙ ap (run_of r) e,
        );
  }

  -- refused alike, where the tests answer alike
  unless_alike : (tests others : List (Bool × CallRefusal)) → others ≡ tests → (one other : Option (Reply × World)) → AlikeOr r c named w one other → AlikeOr r c named w (unless_refused tests w one) (unless_refused others (changed c w) other)
  unless_alike tests others same one other alike =
      subst (λ (xs : List (Bool × CallRefusal)). AlikeOr r c named w (unless_refused tests w one) (unless_refused xs (changed c w) other)) (sym same) (both_refuse tests)
    where
      both_refuse : (xs : List (Bool × CallRefusal)) → AlikeOr r c named w (unless_refused xs w one) (unless_refused xs (changed c w) other)
      both_refuse [] = alike
      both_refuse (x ∷ xs) = either r c named w x.0 _ _ _ _ (an_event r c named w _ _ (stays r c named w (refused x.1) w refl)) (both_refuse xs)

  -- The calls, one by one.

  starts_next : (setup : Setup) (o : Option LiveCcb) → AlikeOr r c named w (option_map (starts setup w) o) (option_map (starts setup (changed c w)) o)
  starts_next setup None = neither r c named w
  starts_next setup (Some next) = an_event r c named w _ _ (stays r c named w _ _ refl)

  withdraws_alike : (o : Option LiveCcb) → AlikeOr r c named w (option_map (withdraws w) o) (option_map (withdraws (changed c w)) o)
  withdraws_alike None = neither r c named w
  withdraws_alike (Some live) = an_event r c named w _ _ (stays r c named w (replies answers.Ok) (finishes_done w live.ccb RequestAborted) refl)

  same_limit : run_meets_limit (changed c w) ≡ run_meets_limit w
  same_limit = ap (λ (n : ℕ). nat_le most_runs n || nat_le last_number w.runs.greatest) (put_length run_key c w.runs.list)

  recovers_alike : (setup : Setup) (ccb : Ccb) (outcome : Outcome) → Alike r c named w (recovers setup w ccb outcome) (recovers setup (changed c w) ccb outcome)
  recovers_alike setup ccb outcome =
      one_of r c named w (meets_limit (Device ccb.queue) w.transport.freezes w.transport.greatest_freeze) _ _ _ _ (begins setup w (completed ccb outcome false) 0 refl)
      (begins setup (froze w (Device ccb.queue) (Run (w.runs.greatest + 1))) (completed ccb outcome true) (w.transport.greatest_freeze + 1) refl)

  completes_alike : (setup : Setup) (outcome : Outcome) (o : Option LiveCcb) → AlikeOr r c named w (option_map (completes setup w outcome) o) (option_map (completes setup (changed c w) outcome) o)
  completes_alike setup outcome None = neither r c named w
  completes_alike setup outcome (Some live) =
      an_event r c named w _ _ (one_of r c named w (is_success outcome.status) _ _ _ _ (stays r c named w (replies answers.Done) (finishes_done w live.ccb outcome.status) refl) (recovers_alike setup live.ccb outcome))

  released : (o : Option Freeze) → AlikeOr r c named w (guest_releases w o) (guest_releases (changed c w) o)
  released None = neither r c named w
  released (Some freeze) = if_so r c named w _ _ _ (an_event r c named w _ _ (stays r c named w _ _ refl))

  parks_alike : (number : ℕ) → (number ≡ r → ⊥) → (o : Option LiveRun) → run_of number w.runs.list ≡ o → AlikeOr r c named w (parks w o) (parks (changed c w) o)
  parks_alike number apart None found = neither r c named w
  parks_alike number apart (Some run) found =
      if_so r c named w _ _ _ (an_event r c named w _ _ (changes r c named w (replies answers.Ok) w (record run { out = false }) refl (λ same. apart (sym (found_key run_key number w.runs.list run found) ∙ same))))

  resumes_alike : (number : ℕ) → (number ≡ r → ⊥) → (o : Option LiveRun) → run_of number w.runs.list ≡ o → AlikeOr r c named w (option_map (resumes w) o) (option_map (resumes (changed c w)) o)
  resumes_alike number apart None found = neither r c named w
  resumes_alike number apart (Some run) found =
      an_event r c named w _ _ (changes r c named w (replies answers.Ok) w (record run { out = true }) refl (λ same. apart (sym (found_key run_key number w.runs.list run found) ∙ same)))

  -- the number of another run is of the same run in the changed world
  same_run : (number : ℕ) → (number ≡ r → ⊥) → run_of number (changed c w).runs.list ≡ run_of number w.runs.list
  same_run number apart = put_other run_key c number w.runs.list (λ same. apart (sym same ∙ named))

  not_its : (number : ℕ) → eqb number r ≡ false → number ≡ r → ⊥
  not_its number other same = let bad : true ≡ false = sym (eq-eqb number r same) ∙ other in cc

  call_alike : (setup : Setup) (its : Call) → is_own_of r (called its) ≡ false → AlikeOr r c named w (step_call setup w its) (step_call setup (changed c w) its)
  call_alike setup (Submit queue priority retries class) other =
      if_so r c named w (class_fits (has_classes setup) class) _ _
      (unless_alike (refusals_of setup w (Submit queue priority retries class)) _ refl _ _ (an_event r c named w _ _ (stays r c named w _ _ refl)))
  call_alike setup (Dispatch queue) other = unless_alike (refusals_of setup w (Dispatch queue)) _ refl _ _ (starts_next setup (next_waiting queue.0 w.transport.live))
  call_alike setup (Complete outcome) other =
      if_so r c named w (is_completion outcome) _ _
      (unless_alike (refusals_of setup w (Complete outcome)) _
      (ap (λ (full : Bool). (is_none (ccb_of outcome.ccb.0 w.transport.live), Unknown) ∷ (not (is_success outcome.status) && full, Limit) ∷ (not (works (ccb_of outcome.ccb.0 w.transport.live)), NotActive) ∷ []) same_limit) _ _
      (completes_alike setup outcome (ccb_of outcome.ccb.0 w.transport.live)))
  call_alike setup (Withdraw ccb) other = unless_alike (refusals_of setup w (Withdraw ccb)) _ refl _ _ (withdraws_alike (ccb_of ccb.0 w.transport.live))
  call_alike setup (GuestFreeze place guest) other =
      unless_alike (refusals_of setup w (GuestFreeze place guest)) _ refl _ _ (an_event r c named w _ _ (stays r c named w _ _ refl))
  call_alike setup (GuestRelease freeze) other = released (entry_of freeze w.transport.freezes)
  call_alike setup (Clock reading) other =
      unless_alike (refusals_of setup w (Clock reading)) _ refl _ _ (an_event r c named w _ _ (stays r c named w _ _ refl))
  call_alike setup (Park number) other =
      let apart = not_its number other in
      subst (λ (o : Option LiveRun). AlikeOr r c named w (parks w (run_of number w.runs.list)) (parks (changed c w) o)) (sym (same_run number apart))
      (parks_alike number apart (run_of number w.runs.list) refl)
  call_alike setup (Resume number) other =
      let apart = not_its number other in
      unless_alike (refusals_of setup w (Resume number)) _ (ap (λ (o : Option LiveRun). (not (is_parked o), Unknown) ∷ []) (same_run number apart)) _ _
      (subst (λ (o : Option LiveRun). AlikeOr r c named w (option_map (resumes w) (run_of number w.runs.list)) (option_map (resumes (changed c w)) o)) (sym (same_run number apart))
      (resumes_alike number apart (run_of number w.runs.list) refl))

  -- an instruction of another run

  calls : (limits : HelperLimits) (run : LiveRun) → (run.number ≡ r → ⊥) → (told : Told) (o : Option Request) → AlikeOr r c named w (option_and_then (step_helper limits w run told) o) (option_and_then (step_helper limits (changed c w) run told) o)
  calls limits run apart told None = neither r c named w
  calls limits run apart told (Some request) = if_so r c named w _ _ _ (requests_alike r c named w run apart request)

  goes : (run : LiveRun) → (run.number ≡ r → ⊥) → (o : Option MachineState) → AlikeOr r c named w (option_map (λ machine. (went_on, goes_on w run machine)) o) (option_map (λ machine. (went_on, goes_on (changed c w) run machine)) o)
  goes run apart None = neither r c named w
  goes run apart (Some machine) = an_event r c named w _ _ (changes r c named w went_on w (record run { machine = machine }) refl apart)

  exits : (run : LiveRun) → (run.number ≡ r → ⊥) → (o : Option ℕ) → AlikeOr r c named w (option_map (λ r0. (result r0, ends w run)) o) (option_map (λ r0. (result r0, ends (changed c w) run)) o)
  exits run apart None = neither r c named w
  exits run apart (Some r0) = an_event r c named w _ _ (leaves (result r0) run apart)

  runs_alike : (limits : HelperLimits) (run : LiveRun) → (run.number ≡ r → ⊥) → (instruction : Instruction) → AlikeOr r c named w (step_run limits w run instruction) (step_run limits (changed c w) run instruction)
  runs_alike limits run apart private = goes run apart (private_step run.program run.machine)
  runs_alike limits run apart (call told) = calls limits run apart told (request_at run.program run.machine)
  runs_alike limits run apart exit = exits run apart (exit_at run.program run.machine)

  executes_alike : (limits : HelperLimits) (number : ℕ) → (number ≡ r → ⊥) → (instruction : Instruction) (o : Option LiveRun) → run_of number w.runs.list ≡ o → AlikeOr r c named w (step_executes limits w instruction o) (step_executes limits (changed c w) instruction o)
  executes_alike limits number apart instruction None found = neither r c named w
  executes_alike limits number apart instruction (Some run) found =
      if_so r c named w _ _ _ (runs_alike limits run (λ same. apart (sym (found_key run_key number w.runs.list run found) ∙ same)) instruction)

  executes_other : (number : ℕ) (instruction : Instruction) → is_own_of r (executes number instruction) ≡ false → number ≡ r → ⊥
  executes_other number instruction other same =
      let bad : true ≡ false = sym (ap (λ (b : Bool). is_some (cond b (Some instruction) None) || false) (eq-eqb number r same)) ∙ other in cc

  step_alike : (setup : Setup) (event : Event) → is_own_of r event ≡ false → AlikeOr r c named w (step setup w event) (step setup (changed c w) event)
  step_alike setup (called its) other = call_alike setup its other
  step_alike setup (executes number instruction) other =
      let apart = executes_other number instruction other in
      subst (λ (o : Option LiveRun). AlikeOr r c named w (step_executes setup.limits w instruction (run_of number w.runs.list)) (step_executes setup.limits (changed c w) instruction o)) (sym (same_run number apart))
      (executes_alike setup.limits number apart instruction (run_of number w.runs.list) refl)

-- Now a private step of the run is such a change, and so is what one event more leads to.

-- where the run is found, its private step is this one
steps : (setup : Setup) (world : World) (r : ℕ) (run : LiveRun) (machine : MachineState) → run_of r world.runs.list ≡ Some run → run.out ≡ true → private_step run.program run.machine ≡ Some machine → WorldStep setup world (executes r private) went_on (changed (record run { machine = machine }) world)
steps setup world r run machine found out step =
    ap (step_executes setup.limits world private) found
    ∙ (cond-true run.out _ _ out ∙ ap (option_map (λ (m : MachineState). let x : Reply × World = (went_on, goes_on world run m) in x)) step)

-- a private step of this run
record Goes (before : World) (r : ℕ) (reply : Reply) (after : World) : Type 0 where
  run : LiveRun
  found : run_of r before.runs.list ≡ Some run
  named : run.number ≡ r
  out : run.out ≡ true
  machine : MachineState
  step : private_step run.program run.machine ≡ Some machine
  reply_is : reply ≡ went_on
  after_is : after ≡ changed (record run { machine = machine }) before

goes_parts : (setup : Setup) (before : World) (r : ℕ) (reply : Reply) (after : World) → WorldStep setup before (executes r private) reply after → Goes before r reply after
goes_parts setup before r reply after e =
    let it = private_parts setup before r reply after e in
    let number_is : it.it.number ≡ r = let same : executes r private ≡ executes it.it.number private = it.it.event_is in cc in
    record {
      run = it.it.run;
      found = subst (λ (n : ℕ). run_of n before.runs.list ≡ Some it.it.run) number_is it.it.found;
      named = found_key run_key it.it.number before.runs.list it.it.run it.it.found ∙ number_is;
      out = it.it.out;
      machine = it.machine;
      step = it.step;
      reply_is = it.reply_is;
      after_is = it.after_is;
    }

-- the event is none of the run's
record IsAnother (r : ℕ) (event : Event) (reply : Reply) : Type 0 where
  own : is_own_of r event ≡ false
  start : is_start_of r reply ≡ false

another : (r : ℕ) (event : Event) (reply : Reply) → is_of_another r (event, reply) ≡ true → IsAnother r event reply
another r event reply other =
    let parts = or_parts (is_own_of r event) (is_start_of r reply) (not-true _ other) in
    record { own = parts.0; start = parts.1 }

-- the event first, and then the private step
record Later (setup : Setup) (before : World) (r : ℕ) (went : Reply) (event : Event) (reply : Reply) (after : World) : Type 0 where
  between : World
  first : WorldStep setup before event reply between
  second : WorldStep setup between (executes r private) went after

later : (setup : Setup) (before : World) (r : ℕ) (went : Reply) (event : Event) (reply : Reply) (middle after : World) → is_of_another r (event, reply) ≡ true → WorldStep setup before (executes r private) went middle → WorldStep setup middle event reply after → Later setup before r went event reply after
later setup before r went event reply middle after other first second = by_step (step setup before event) refl (subst (AlikeOr r c it.named before (step setup before event)) moved (step_alike r c it.named before setup event none.own))
  where
    it : Goes before r went middle
    it = goes_parts setup before r went middle first

    none : IsAnother r event reply
    none = another r event reply other

    c : LiveRun
    c = record it.run { machine = it.machine }

    moved : step setup (changed c before) event ≡ Some (reply, after)
    moved = sym (ap (λ (w : World). step setup w event) it.after_is) ∙ second

    by_step : (o : Option (Reply × World)) → step setup before event ≡ o → AlikeOr r c it.named before o (Some (reply, after)) → Later setup before r went event reply after
    by_step None e alike = absurd alike.both
    by_step (Some x) e alike =
        let is = alike.both.world_is (ap (is_start_of r) alike.both.reply_is ∙ none.start) in
        record {
          between = x.1;
          first = e ∙ ap (λ (answer : Reply). let y : Option (Reply × World) = Some (answer, x.1) in y) alike.both.reply_is;
          second = steps setup x.1 r it.run it.machine (is.1 ∙ it.found) it.out it.step ∙ (λ i. Some (sym it.reply_is i, sym is.0 i));
        }

-- the private step first, and then the event
record Sooner (setup : Setup) (before : World) (r : ℕ) (went : Reply) (event : Event) (reply : Reply) (after : World) : Type 0 where
  between : World
  first : WorldStep setup before (executes r private) went between
  second : WorldStep setup between event reply after

sooner : (setup : Setup) (before : World) (r : ℕ) (went : Reply) (event : Event) (reply : Reply) (middle after : World) → is_of_another r (event, reply) ≡ true → WorldStep setup before event reply middle → WorldStep setup middle (executes r private) went after → Sooner setup before r went event reply after
sooner setup before r went event reply middle after other first second = by_step (step setup (changed c before) event) refl (subst (λ (o : Option (Reply × World)). AlikeOr r c it.named before o (step setup (changed c before) event)) first (step_alike r c it.named before setup event none.own))
  where
    it : Goes middle r went after
    it = goes_parts setup middle r went after second

    none : IsAnother r event reply
    none = another r event reply other

    c : LiveRun
    c = record it.run { machine = it.machine }

    by_step : (o : Option (Reply × World)) → step setup (changed c before) event ≡ o → AlikeOr r c it.named before (Some (reply, middle)) o → Sooner setup before r went event reply after
    by_step None e alike = absurd alike.both
    by_step (Some y) e alike =
        let is = alike.both.world_is none.start in
        record {
          between = changed c before;
          first = steps setup before r it.run it.machine (sym is.1 ∙ it.found) it.out it.step ∙ ap (λ (answer : Reply). let x : Option (Reply × World) = Some (answer, changed c before) in x) (sym it.reply_is);
          second = e ∙ (λ i. Some (sym alike.both.reply_is i, (is.0 ∙ sym it.after_is) i));
        }

-- past any list of events, and whatever comes after them
past : (setup : Setup) (r : ℕ) (went : Reply) (ys zs : List (Event × Reply)) (before after : World) → list_all (is_of_another r) ys ≡ true → Leads setup before ((executes r private, went) ∷ (ys ++ zs)) after → Leads setup before (ys ++ (executes r private, went) ∷ zs) after
past setup r went [] zs before after others leads = leads
past setup r went (y ∷ ys) zs before after others leads =
    let parts = and_parts (is_of_another r y) (list_all (is_of_another r) ys) others in
    let it = later setup before r went y.0 y.1 leads.0 leads.2.0 parts.0 leads.1 leads.2.1 in
    (it.between, it.first, past setup r went ys zs it.between after parts.1 (leads.2.0, it.second, leads.2.2))

back : (setup : Setup) (r : ℕ) (went : Reply) (ys zs : List (Event × Reply)) (before after : World) → list_all (is_of_another r) ys ≡ true → Leads setup before (ys ++ (executes r private, went) ∷ zs) after → Leads setup before ((executes r private, went) ∷ (ys ++ zs)) after
back setup r went [] zs before after others leads = leads
back setup r went (y ∷ ys) zs before after others leads =
    let parts = and_parts (is_of_another r y) (list_all (is_of_another r) ys) others in
    let rest = back setup r went ys zs leads.0 after parts.1 leads.2 in
    let it = sooner setup before r went y.0 y.1 leads.0 rest.0 parts.0 leads.1 rest.1 in
    (it.between, it.first, (rest.0, it.second, rest.2))

-- and whatever comes before them
behind : (setup : Setup) (xs olds news : List (Event × Reply)) (before after : World) → ((world : World) → Leads setup world olds after → Leads setup world news after) → Leads setup before (xs ++ olds) after → Leads setup before (xs ++ news) after
behind setup [] olds news before after move leads = move before leads
behind setup (x ∷ xs) olds news before after move leads = (leads.0, leads.1, behind setup xs olds news leads.0 after move leads.2)

pub moved : Moved
moved setup r went xs ys zs before after others = (
  behind setup xs _ _ before after (λ world. past setup r went ys zs world after others),
  behind setup xs _ _ before after (λ world. back setup r went ys zs world after others),
)

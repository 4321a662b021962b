-- An engine that keeps no history: what led to it, and what may follow.
use Rattle.std.proofs.Common.{◌≡◌, ℕ, zero, suc, ◌+◌, ◌<◌, ◌≤◌, List, [], ◌∷◌, ◌++◌, Bool, true, false, not, cond, replicate, length, drop, Option, Some, None, inl, inr, refl, ap, sym, subst, ◌∙◌, arith}
use Rattle.std.specs.List.{find}
use Rattle.std.specs.Option.{option_map}
use Rattle.std.proofs.lemmas.Bool.{cases_Bool, cond-false, cond-true}
use Rattle.std.proofs.lemmas.List.{drop_all, drop_more, get_or_default}
use Rattle.ccb.specs.Completion.{Outcome, IsCompletion}
use Rattle.ccb.specs.declared.QueueId.{QueueId}
use Rattle.freeze_ledger.specs.declared.freeze.Freeze.{Freeze}
use Rattle.freeze_ledger.specs.Freezes.{entry_of}
use Rattle.engine_runs.specs.RunsState.{RunsState, opened_runs}
use Rattle.engine_runs.specs.RunPlaces.{HasRunAt}
use Rattle.helpers.specs.declared.limits.HelperLimits.{HelperLimits}
use Rattle.bpf_semantics.specs.MachineState.{MachineState}
use Rattle.bpf_semantics.specs.declared.stop.Stop.{Stop}
use Rattle.bpf_semantics.specs.declared.stop.Stop.TheVariants.{Helper, Exit}
use Rattle.world_calls.specs.declared.call.Call.{Call}
use Rattle.world_calls.specs.declared.call.Call.TheVariants.{Complete, GuestRelease, Park, Submit}
use Rattle.world_calls.specs.declared.call_answer.CallAnswer.{CallAnswer}
use Rattle.world_calls.specs.declared.call_answer.CallAnswer.TheVariants as answers
use Rattle.world_calls.specs.declared.record.StoppedAt.{StoppedAt}
use Rattle.world_calls.specs.declared.record.Record.{Record}
use Rattle.world_calls.specs.declared.record.Record.TheVariants.{Called, Advance}
use Rattle.world.specs.World.{Setup, LiveRun, Transport, World, beginning, class_fits, class_in, class_kept, has_classes, opening}
use Rattle.world.specs.Beginning.{Begins, IsBeginning}
use Rattle.world.specs.Lawful.{IsLawful}
use Rattle.world.specs.Lookups.{run_of}
use Rattle.world.specs.CcbSteps.{is_completion}
use Rattle.world.specs.Event.{Instruction, private, Event, called, executes, Reply, replies, went_on, result}
use Rattle.world.specs.FreezeSteps.{is_guest, guest_releases}
use Rattle.world.specs.ParkSteps.{parks}
use Rattle.world.specs.RunSteps.{step_executes, step_run}
use Rattle.world.specs.Step.{step_call}
use Rattle.world.specs.WorldRun.{Leads, WorldRun}
use Rattle.world.specs.Flat.{events_of, flat, advance_of, stop_of}
use Rattle.world.proofs.Lists.Found.{found_key}
use Rattle.world.proofs.Steps.Moves.{lists_of, run_key}
use Rattle.world_laws.proofs.Leads.{leads_split, world_after_leads}
use Rattle.engine_core.specs.declared.event.Event.{Event as TheEvent}
use Rattle.engine_core.specs.declared.reply.Reply.{Reply as TheReply}
use Rattle.engine_core.specs.declared.run_events.Progress.{Progress}
use Rattle.engine_core.specs.Answers.{r0_of, stopped_at}
use Rattle.engine_core.specs.Stepping.{IsOutAt, IsStep, StopsAt}
use Rattle.engine_core.specs.EngineState.{world_of}
use Rattle.engine_core.specs.Invariant.{HoldEntries, KeepsEngine}
use Rattle.engine_core.specs.Looking.{AsksNext, StopsNext, asked_at, first_out}
use Rattle.engine_core.specs.Performing.{Performs}
use Rattle.engine_core.specs.RunState.{IsAgain, IsStopped, RunState, StoppedState, before_stop}
use Rattle.engine_core.specs.TakingOver.{LeadsTo}
use Rattle.engine_core.specs.ByNumber.{AreTokens, IsAdvanceOf, NumberedState, IsBehind, RecordFollows, CannotFollow, KeepsNumbered, answer_told, guests_of, opened_numbered}
use Rattle.engine_core.proofs.Begun.{begun_alone, keeps_begun, keeps_opened, same}
use Rattle.engine_core.specs.Settings.{setup_over}
use Rattle.engine_core.proofs.Recording.{flat_push, world_is, goes, kept_sound}
use Rattle.engine_core.proofs.Holding.{run_changed}
use Rattle.engine_core.proofs.Parking.{parks_run, with_out_run}
use Rattle.engine_core.proofs.Reported.{unreported}
use Rattle.engine_core.proofs.Guests.{AreOthers, IsOthers, advance_is_others, guests_stay, none_held, tokens_rise}

abbrev pub state_of : Setup → Transport → RunsState → NumberedState
state_of setup transport runs = record { setup = setup; transport = transport; runs = runs.runs }

pub behind_kept : (setup : Setup) (records : List Record) (transport : Transport) (runs : RunsState) → KeepsEngine setup records transport runs → IsBehind records (state_of setup transport runs)
behind_kept setup records transport runs kept = record { world = _; leads = kept.run.run; is = refl }

-- no record led to an engine that was opened
pub keeps_opening : (config : Setup) (over : Option World) (transport : Transport) (runs : RunsState) (tokens : List Freeze) → IsLawful config → Begins config → config.carried ≡ None → over ≡ None
    → transport ≡ (opening config).transport → runs ≡ opened_runs config.tables → tokens ≡ [] → KeepsNumbered (setup_over config over) transport runs tokens
keeps_opening config over transport runs tokens lawful begins alone nothing first second none =
    (([], keeps_opened config over transport runs lawful begins alone nothing first second), none ∙ ap (λ (t : Transport). guests_of t.freezes) (sym first))

-- and what contracts see of it
abbrev numbered_in : Setup → World → NumberedState
numbered_in setup world = record { setup = setup; transport = world.transport; runs = world.runs }

pub seen_opening : (config : Setup) (over : Option World) (transport : Transport) (runs : RunsState) → config.carried ≡ None → over ≡ None
    → transport ≡ (opening config).transport → runs ≡ opened_runs config.tables → state_of (setup_over config over) transport runs ≡ opened_numbered config
seen_opening config over transport runs alone nothing first second =
    ap (λ (s : Setup). state_of s transport runs) (same config over alone nothing) ∙ ap (numbered_in config) (begun_alone config transport runs alone first second)

-- the same of an engine that takes over what these parts say
pub keeps_beginning : (config : Setup) (over : Option World) (transport : Transport) (runs : RunsState) (tokens : List Freeze) → IsLawful config
    → IsBeginning config (record { transport = transport; runs = runs.runs; ended = [] }) → runs.tokens ≡ [] → over ≡ Some (record { transport = transport; runs = runs.runs; ended = [] })
    → tokens ≡ guests_of transport.freezes → KeepsNumbered (setup_over config over) transport runs tokens
keeps_beginning config over transport runs tokens lawful begins none is all = (([], keeps_begun config over transport runs lawful begins none is), all)

pub seen_beginning : (config : Setup) (over : Option World) (transport : Transport) (runs : RunsState) → over ≡ Some (record { transport = transport; runs = runs.runs; ended = [] })
    → state_of (setup_over config over) transport runs ≡ opened_numbered (setup_over config (Some (record { transport = transport; runs = runs.runs; ended = [] })))
seen_beginning config over transport runs is = ap (λ (o : Option World). state_of (setup_over config o) transport runs) is

-- no record led to an engine that begins
pub behind_begun : (setup : Setup) → Begins setup → IsBehind [] (opened_numbered setup)
behind_begun setup begins = record { world = beginning setup; leads = (begins, refl); is = refl }

-- whatever history led to it, it is an engine of that
pub kept_behind : (setup : Setup) (history records : List Record) (transport : Transport) (runs : RunsState) → KeepsEngine setup history transport runs → IsBehind records (state_of setup transport runs) → KeepsEngine setup records transport runs
kept_behind setup history records transport runs kept behind =
    let is = world_is setup records transport runs.runs behind.world behind.leads behind.is in
    record {
      run = record { lawful = kept.run.lawful; run = subst (λ (w : World). WorldRun setup (flat records) w) (sym is) behind.leads };
      tokens = kept.tokens;
    }

-- what leads from each history's world keeps it
pub record Moves (setup : Setup) (transport : Transport) (runs : RunsState) (more : Transport) (after : RunsState) (told : Record) : Type 0 where
  pub leads : (history : List Record) → KeepsEngine setup history transport runs → LeadsTo setup (world_of setup history transport runs.runs) (events_of told) more after.runs
  pub tokens : (history : List Record) → KeepsEngine setup history transport runs → HoldEntries more.freezes after

pub moved : (setup : Setup) (event : TheEvent) (transport : Transport) (runs : RunsState) (more : Transport) (after : RunsState) (reply : TheReply) (told : Record) → Performs setup event transport runs more after reply told → Moves setup transport runs more after told
moved setup event transport runs more after reply told it = record { leads = it.leads; tokens = it.tokens }

pub follows : (setup : Setup) (transport : Transport) (runs : RunsState) (more : Transport) (after : RunsState) (told : Record) (tokens : List Freeze) → KeepsNumbered setup transport runs tokens → Moves setup transport runs more after told → RecordFollows (state_of setup transport runs) told (state_of setup more after)
follows setup transport runs more after told tokens kept it = λ records behind.
    let k = kept_behind setup kept.0.0 records transport runs kept.0.1 behind in
    behind_kept setup (records ++ told ∷ []) more after (goes setup records (records ++ told ∷ []) transport more runs after told k refl (it.tokens records k) (it.leads records k)).kept

-- some history led to it still
pub keeps_on : (setup : Setup) (transport : Transport) (runs : RunsState) (more : Transport) (after : RunsState) (told : Record) (tokens later : List Freeze) → KeepsNumbered setup transport runs tokens → Moves setup transport runs more after told → later ≡ guests_of more.freezes → KeepsNumbered setup more after later
keeps_on setup transport runs more after told tokens later kept it is =
    let history = kept.0.0 in
    ((history ++ told ∷ [], (goes setup history (history ++ told ∷ []) transport more runs after told kept.0.1 refl (it.tokens history kept.0.1) (it.leads history kept.0.1)).kept), is)

-- and the tokens are those of all guests' freezes, where nothing is a guest's
pub keeps_tokens : (setup : Setup) (transport : Transport) (runs : RunsState) (more : Transport) (after : RunsState) (told : Record) (tokens : List Freeze) → KeepsNumbered setup transport runs tokens → Moves setup transport runs more after told → AreOthers (events_of told) → KeepsNumbered setup more after tokens
keeps_tokens setup transport runs more after told tokens kept it others =
    let history = kept.0.0 in
    let to = it.leads history kept.0.1 in
    let same = guests_stay setup _ (events_of told) to.world (lists_of (kept_sound setup history transport runs kept.0.1).kept) others to.leads in
    keeps_on setup transport runs more after told tokens tokens kept it
    (kept.1 ∙ (sym same ∙ ap (λ (w : World). guests_of w.transport.freezes) to.is))

-- ---- what may not follow

-- a world that led to it
abbrev pub IsIn : NumberedState → World → Type 0
IsIn state world = world ≡ record world { transport = state.transport; runs = state.runs }

-- where no world of this state is led on by the record's events
pub cannot : (state : NumberedState) (told : Record) → ((world after : World) → IsIn state world → Leads state.setup world (events_of told) after → ⊥) → CannotFollow state told
cannot state told none = λ records behind history.
    let parts = leads_split state.setup (beginning state.setup) (flat records) (events_of told) history.0 (subst (λ xs. WorldRun state.setup xs history.0) (flat_push records told) history.1).1 in
    let same : behind.world ≡ parts.0 = sym (world_after_leads state.setup (beginning state.setup) (flat records) behind.world behind.leads.1) ∙ world_after_leads state.setup (beginning state.setup) (flat records) parts.0 parts.1 in
    none behind.world history.0 behind.is (subst (λ (w : World). Leads state.setup w (events_of told) history.0) (sym same) parts.2)

-- a call that is no event
pub no_call : (state : NumberedState) (call : Call) (answer : CallAnswer) → ((world : World) → IsIn state world → step_call state.setup world call ≡ None) → CannotFollow state (Called answer call)
no_call state call answer none = cannot state (Called answer call) (λ world after is leads.
    let bad : None ≡ Some (replies answer, leads.0) = sym (none world is) ∙ leads.1 in cc)

-- an instruction of a run that is not out
idle : (limits : HelperLimits) (world : World) (instruction : Instruction) (o : Option LiveRun) (x : Reply × World) → ((it : LiveRun) → o ≡ Some it → it.out ≡ false) → step_executes limits world instruction o ≡ Some x → ⊥
idle limits world instruction None x parked e = cc
idle limits world instruction (Some it) x parked e =
    let bad = sym (cond-false it.out (step_run limits world it instruction) None (parked it refl)) ∙ e in cc

not_first : (setup : Setup) (world : World) (run : ℕ) (instruction : Instruction) (reply : Reply) (xs : List (Event × Reply)) (after : World) → ((it : LiveRun) → run_of run world.runs.list ≡ Some it → it.out ≡ false) → Leads setup world ((executes run instruction, reply) ∷ xs) after → ⊥
not_first setup world run instruction reply xs after parked leads = idle setup.limits world instruction (run_of run world.runs.list) (reply, leads.0) parked leads.1

no_steps : (setup : Setup) (world : World) (run instructions : ℕ) (stop : StoppedAt) (r0 : ℕ) (after : World) → ((it : LiveRun) → run_of run world.runs.list ≡ Some it → it.out ≡ false) → Leads setup world (advance_of run instructions stop r0) after → ⊥
no_steps setup world run zero stop r0 after parked leads = not_first setup world run (stop_of stop) went_on [] after parked leads
no_steps setup world run (suc zero) stop r0 after parked leads = not_first setup world run (stop_of stop) (result r0) [] after parked leads
no_steps setup world run (suc (suc n)) stop r0 after parked leads =
    not_first setup world run private went_on (replicate n (executes run private, went_on) ++ (executes run (stop_of stop), result r0) ∷ []) after parked leads

pub no_advance : (state : NumberedState) (run instructions : ℕ) (stop : StoppedAt) (r0 : ℕ) → ((it : LiveRun) → run_of run state.runs.list ≡ Some it → it.out ≡ false) → CannotFollow state (Advance run instructions stop r0)
no_advance state run instructions stop r0 parked = cannot state (Advance run instructions stop r0) (λ world after is leads.
    no_steps state.setup world run instructions stop r0 after (λ it found. parked it (ap (λ (w : World). run_of run w.runs.list) (sym is) ∙ found)) leads)

-- a release of a freeze that no guest holds
none_released : (world : World) (o : Option Freeze) → ((f : Freeze) → o ≡ Some f → is_guest f.holder ≡ true → ⊥) → guest_releases world o ≡ None
none_released world None none = refl
none_released world (Some f) none = elim (cases_Bool (is_guest f.holder)) [
  | inl its ↦ absurd (none f refl its)
  | inr other ↦ cond-false (is_guest f.holder) _ None other
]

pub no_release : (state : NumberedState) (freeze : ℕ) (answer : CallAnswer) → entry_of freeze (guests_of state.transport.freezes) ≡ None → CannotFollow state (Called answer (GuestRelease freeze))
no_release state freeze answer none = no_call state (GuestRelease freeze) answer (λ world is.
    ap (λ (w : World). step_call state.setup w (GuestRelease freeze)) is
    ∙ none_released (record world { transport = state.transport; runs = state.runs }) (entry_of freeze state.transport.freezes) (none_held freeze state.transport.freezes none))

-- a park of a run that is not out
none_parked : (world : World) (o : Option LiveRun) → ((it : LiveRun) → o ≡ Some it → it.out ≡ false) → parks world o ≡ None
none_parked world None parked = refl
none_parked world (Some it) parked = cond-false it.out _ None (parked it refl)

pub no_park : (state : NumberedState) (run : ℕ) (answer : CallAnswer) → ((it : LiveRun) → run_of run state.runs.list ≡ Some it → it.out ≡ false) → CannotFollow state (Called answer (Park run))
no_park state run answer parked = no_call state (Park run) answer (λ world is.
    ap (λ (w : World). step_call state.setup w (Park run)) is
    ∙ none_parked (record world { transport = state.transport; runs = state.runs }) (run_of run state.runs.list) parked)

-- a completion that no device reports
pub no_completion : (state : NumberedState) (outcome : Outcome) (answer : CallAnswer) → (IsCompletion outcome → ⊥) → CannotFollow state (Called answer (Complete outcome))
no_completion state outcome answer none = no_call state (Complete outcome) answer (λ world is. cond-false (is_completion outcome) _ None (unreported outcome none))

-- a submission with a class where CCBs have none, or without one where they have one
pub no_submission : (state : NumberedState) (queue : QueueId) (priority retries : ℕ) (class : Option ℕ) (answer : CallAnswer) → class_fits (has_classes state.setup) class ≡ false → CannotFollow state (Called answer (Submit queue priority retries class))
no_submission state queue priority retries class answer unfit =
    no_call state (Submit queue priority retries class) answer (λ world is. cond-false (class_fits (has_classes state.setup) class) _ None unfit)

-- a class that fits is recorded as it was said
pub class_again : (setup : Setup) (class : Option ℕ) → class_fits (has_classes setup) class ≡ true → class_kept setup (class_in class) ≡ class
class_again setup class fit = by (has_classes setup) class fit
  where
    by : (has : Bool) (class : Option ℕ) → class_fits has class ≡ true → cond has (Some (class_in class)) None ≡ class
    by true (Some class) fit = refl
    by true None fit = absurd (let bad : false ≡ true = fit in cc)
    by false (Some class) fit = absurd (let bad : false ≡ true = fit in cc)
    by false None fit = refl

-- whether a class fits, by what it is
pub none_fits : (has : Bool) → not has ≡ class_fits has None
none_fits true = refl
none_fits false = refl

pub one_fits : (has : Bool) (class : ℕ) → has ≡ class_fits has (Some class)
one_fits true class = refl
one_fits false class = refl

-- ---- what is asked

-- a run that is parked
pub parks_out : (setup : Setup) (transport : Transport) (runs after : RunsState) (number : ℕ) (it : LiveRun) → run_of number runs.runs.list ≡ Some it → it.out ≡ true → after ≡ with_out_run it false runs → Moves setup transport runs transport after (Called answers.Ok (Park number))
parks_out setup transport runs after number it found out same = record {
  leads = λ history kept. parks_run setup history transport runs after number it found out same;
  tokens = λ history kept. run_changed transport.freezes runs after (record it { out = false }) kept.tokens same;
}

pub advance_of_others : (number : ℕ) (told : Record) → IsAdvanceOf number told → AreOthers (events_of told)
advance_of_others number told it = subst (λ (r : Record). AreOthers (events_of r)) (sym it.is) (advance_is_others number it.instructions it.stop it.r0)

-- ---- runs and tokens

-- the numbers of its tokens rise
pub its_tokens_rise : (setup : Setup) (transport : Transport) (runs : RunsState) (tokens : List Freeze) → KeepsNumbered setup transport runs tokens → AreTokens tokens
its_tokens_rise setup transport runs tokens kept =
    subst AreTokens (sym kept.1) (tokens_rise transport.freezes transport.greatest_freeze (kept_sound setup kept.0.0 transport runs kept.0.1).kept.freezes.numbered)

-- one run stands at a place
pub stands_once : (list : List LiveRun) (place : ℕ) (a b : LiveRun) → HasRunAt list place a → HasRunAt list place b → a ≡ b
stands_once list place a b first second = sym first.here ∙ (get_or_default list place a b first.within ∙ second.here)

-- the run that stands there and is out
pub out_there : (list : List LiveRun) (place number : ℕ) (it : LiveRun) → run_of number list ≡ Some it → it.out ≡ true → HasRunAt list place it → IsOutAt list place
out_there list place number it found out there = record {
  it = it;
  there = there;
  found = ap (λ (n : ℕ). run_of n list) (found_key run_key number list it found) ∙ found;
  out = out;
}

-- what it did up to its next stop is recorded by its number
pub advance_by : (setup : Setup) (transport more : Transport) (runs after : RunsState) (place number : ℕ) (it : LiveRun) (progress : Progress) (told : Record) → run_of number runs.runs.list ≡ Some it → HasRunAt runs.runs.list place it → IsStep setup transport runs place more after progress told → IsAdvanceOf number told
advance_by setup transport more runs after place number it progress told found there step =
    let named : step.next.run.number ≡ number =
    step.next.again.number ∙ (ap (λ (run : LiveRun). run.number) (stands_once runs.runs.list place step.next.out.it it step.next.out.there there) ∙ found_key run_key number runs.runs.list it found) in
    record {
      instructions = step.next.run.segment.steps;
      stop = stopped_at step.next.run.segment.stop;
      r0 = r0_of step.answer;
      is = step.told_is ∙ ap (λ (n : ℕ). Advance n step.next.run.segment.steps (stopped_at step.next.run.segment.stop) (r0_of step.answer)) named;
    }

-- a run that is made again, at its stop
pub stops_next : (setup : Setup) (list : List LiveRun) (number : ℕ) (it : LiveRun) (again : RunState) (run : StoppedState) → run_of number list ≡ Some it → it.out ≡ true → IsAgain setup it again → before_stop run ≡ again → IsStopped run
    → StopsNext list number run.segment.stop
stops_next setup list number it again run found out is stopped whole =
    let program : run.segment.program.program ≡ it.program = ap (λ (r : RunState). r.program.program) stopped ∙ is.program in
    record {
      it = it;
      found = found;
      out = out;
      segment = run.segment;
      is = whole.segment;
      next = record { program_is = program; segment_program_is = program; start_is = ap (λ (r : RunState). r.machine) stopped ∙ is.machine };
      stands = refl;
    }

-- what a run asks that comes to a stop
pub asks : (runs : List LiveRun) (number : ℕ) (stop : Stop) → StopsNext runs number stop → AsksNext runs number (asked_at stop)
asks runs number (Helper request) it = it
asks runs number (Exit r0) it = λ live found out. (r0, it)

-- and what one asks that comes to a stop where it is recorded
pub asks_there : (setup : Setup) (list : List LiveRun) (number place : ℕ) (it : LiveRun) (to : MachineState) (steps : ℕ) (stop : Stop) → run_of number list ≡ Some it → HasRunAt list place it → StopsAt setup list place to steps stop → AsksNext list number (asked_at stop)
asks_there setup list number place it to steps stop found there stops =
    let next = stops.next in
    let same : next.out.it ≡ it = stands_once list place next.out.it it next.out.there there in
    asks list number stop (subst (λ (s : Stop). StopsNext list number s) stops.ends.stop_is
    (stops_next setup list number next.out.it (before_stop next.run) next.run (found ∙ ap (λ (run : LiveRun). Some run) (sym same)) next.out.out next.again refl next.stopped))

-- ---- the first run that is out

pub run_there : (list : List LiveRun) (place : ℕ) → place < length list → (it : LiveRun) × HasRunAt list place it
run_there [] place l = absurd (omega (arith, l))
run_there (it ∷ rest) zero l = (it, record { within = l; here = refl })
run_there (it ∷ rest) (suc place) l =
    let more = run_there rest place (omega (arith, l)) in
    (more.0, record { within = l; here = more.1.here })

-- what is left from a place on begins with what stands there
left_from : (list : List LiveRun) (place : ℕ) (it : LiveRun) → HasRunAt list place it → drop place list ≡ it ∷ drop (place + 1) list
left_from list place it stands = drop_more list place it stands.within ∙ ap (λ (x : LiveRun). x ∷ drop (place + 1) list) stands.here

pub parked_first : (list : List LiveRun) (place : ℕ) (it : LiveRun) → HasRunAt list place it → it.out ≡ false → first_out (drop place list) ≡ first_out (drop (place + 1) list)
parked_first list place it stands out =
    ap first_out (left_from list place it stands)
    ∙ ap (option_map (λ (run : LiveRun). run.number)) (cond-false it.out (Some it) (find (λ (run : LiveRun). run.out) (drop (place + 1) list)) out)

pub out_first : (list : List LiveRun) (place : ℕ) (it : LiveRun) → HasRunAt list place it → it.out ≡ true → first_out (drop place list) ≡ Some it.number
out_first list place it stands out =
    ap first_out (left_from list place it stands)
    ∙ ap (option_map (λ (run : LiveRun). run.number)) (cond-true it.out (Some it) (find (λ (run : LiveRun). run.out) (drop (place + 1) list)) out)

pub none_out : (list : List LiveRun) (place : ℕ) → length list ≤ place → first_out (drop place list) ≡ None
none_out list place all = ap first_out (drop_all place list all)

-- a record of this call tells its answer, and is no guest's if the call is none
pub called_by : (told : Record) (answer given : CallAnswer) (call : Call) → told ≡ Called answer call → given ≡ answer_told told → told ≡ Called given call
called_by told answer given call is its = is ∙ ap (λ (a : CallAnswer). Called a call) (sym (its ∙ ap answer_told is))

pub others_by : (told : Record) (answer : CallAnswer) (call : Call) → told ≡ Called answer call → IsOthers (called call) → AreOthers (events_of told)
others_by told answer call is others = subst (λ (r : Record). AreOthers (events_of r)) (sym is) (others, tt)

-- How records come together: a reading and what follows it, the advances of runs, a line's turn.
use Rattle.std.proofs.Common.{◌≡◌, ◌∙◌, ℕ, true, false, Option, Some, None, Result, Ok, Err, List, [], ◌∷◌, ◌++◌, refl, sym, ap, subst, append-nil, inl, inr}
use Rattle.std.specs.Prelude.{◌≢◌, IsErr}
use Rattle.std.proofs.lemmas.List.Elements.{All-nil, All-cons, All-append, All-head, All-tail}
use Rattle.trace_lines.specs.Written.{Reads}
use Rattle.scenario.specs.Said.{is_skipped}
use Rattle.world_calls.specs.declared.call.Call.{Call}
use Rattle.world_calls.specs.declared.call.Call.TheVariants.{Clock}
use Rattle.world_calls.specs.declared.call.Call.TheVariants as calls
use Rattle.world_calls.specs.declared.call_answer.CallAnswer.{CallAnswer}
use Rattle.world_calls.specs.declared.record.Record.{Record}
use Rattle.world_calls.specs.declared.record.Record.TheVariants.{Called}
use Rattle.engine_core.specs.ByNumber.{NumberedState, IsAdvanceOf}
use Rattle.host_live.specs.LinesCome.{IsText}
use Rattle.std.specs.Option.{option_map}
use Rattle.world_calls.specs.declared.trace.Version.{Version}
use Rattle.world.specs.World.{version_of}
use Rattle.host_live.specs.Requests.{AsksFor, request_text, request_told}
use Rattle.host_live.specs.Turns.{Acts, ActsHere, ActsOn, AreAdvances, AreOfRuns, Does, DoesInPart, DrivesStarted, DrivesTo, IsDriven, IsOfClock, IsReading, Leads, MakesOne, ReadThen, ReadsDue, Tells, Turned, is_of_steps, is_telling, record_of_answer, run_to_drive, stepped_of, asked_to_quit, elsewhere, no_step, one_drive, only_told, part_drive, one_step, one_call, call_driven, part_none, part_call, no_text, no_request, asked_for, led_to_none, led_to_part, carried}
use Rattle.host_live.specs.declared.served.Served.{Served}
use Rattle.host_live.specs.declared.served.Served.TheVariants as served
use Rattle.host_live.specs.declared.manner.Manner.{Manner}
use Rattle.host_live.specs.declared.printed_engine.Advanced.{Advanced}
use Rattle.host_live.specs.declared.printed_engine.Advanced.TheVariants as advanced
use Rattle.host_live.specs.declared.reports.LineFault.TheVariants.{Form, NotHeld}
use Rattle.host_live.specs.declared.request.Request.{Request}
use Rattle.host_live.specs.declared.request.Request.TheVariants as asks

abbrev pub ok_of : {T : Type 0} (E : Type 0) → T → Result T E
ok_of E value = Ok value

abbrev pub err_of : {E : Type 0} → E → Result Served E
err_of fault = Err fault

-- ---- a reading, and what follows it

pub no_reading : (now : Option ℕ) → IsReading now []
no_reading None = refl
no_reading (Some reading) = inl refl

pub one_reading : {E : Type 0} (reading : ℕ) (result : Result CallAnswer E) → IsReading (Some reading) (record_of_answer (Clock reading) result)
one_reading reading (Ok answer) = inr (answer, refl)
one_reading reading (Err fault) = inl refl

pub read_none : {P : List Record → Type 0} (now : Option ℕ) (acts : List Record) → P acts → ReadThen now P acts
read_none now acts these = record { reading = []; acts = acts; is = refl; read = no_reading now; these = these }

pub read_only : {P : List Record → Type 0} (now : Option ℕ) (more : List Record) → P [] → IsReading now more → ReadThen now P more
read_only now more these read = record { reading = more; acts = []; is = sym (append-nil more); read = read; these = these }

pub read_and : {P : List Record → Type 0} (now : Option ℕ) (more others : List Record) → IsReading now more → P others → ReadThen now P (more ++ others)
read_and now more others read these = record { reading = more; acts = others; is = refl; read = read; these = these }

pub read_these : {P Q : List Record → Type 0} (now : Option ℕ) → ((acts : List Record) → P acts → Q acts) → (more : List Record) → ReadThen now P more → ReadThen now Q more
read_these now on more it = record { reading = it.reading; acts = it.acts; is = it.is; read = it.read; these = on it.acts it.these }

pub read_rest : {E : Type 0} {P : List Record → Type 0} (now rest : Option ℕ) (result : Result (Option ℕ) E) → result ≡ Ok rest → (more others : List Record) → ReadsDue now result more → ReadThen rest P others → ReadThen now P (more ++ others)
read_rest now rest (Ok left) is more others due it = elim due [
  | inl d ↦
      let same : rest ≡ None = cc in
      let none : it.reading ≡ [] = subst (λ (r : Option ℕ). IsReading r it.reading) same it.read in
      record { reading = more; acts = it.acts; is = ap (λ (t : List Record). more ++ t) (it.is ∙ ap (λ (t : List Record). t ++ it.acts) none); read = d.0; these = it.these }
  | inr d ↦
      let same : rest ≡ now = cc in
      record { reading = it.reading; acts = it.acts; is = ap (λ (t : List Record). t ++ others) d.0 ∙ it.is; read = subst (λ (r : Option ℕ). IsReading r it.reading) same it.read; these = it.these }
]
read_rest now rest (Err fault) is more others due it = absurd (let bad = is in cc)

-- ---- advances

pub of_run : (run : ℕ) (records : List Record) → AreAdvances run records → AreOfRuns records
of_run run [] are = All-nil (λ (told : Record). (r : ℕ) × IsAdvanceOf r told)
of_run run (told ∷ records) are =
    All-cons (λ (t : Record). (r : ℕ) × IsAdvanceOf r t) told records (run, All-head (IsAdvanceOf run) told records are) (of_run run records (All-tail (IsAdvanceOf run) told records are))

pub no_advance : (run : ℕ) → AreAdvances run []
no_advance run = All-nil (IsAdvanceOf run)

pub one_advance : (run : ℕ) (told : Record) → IsAdvanceOf run told → AreAdvances run (told ∷ [])
one_advance run told is = All-cons (IsAdvanceOf run) told [] is (no_advance run)

pub both_advances : (run : ℕ) (more others : List Record) → AreAdvances run more → AreAdvances run others → AreAdvances run (more ++ others)
both_advances run more others first second = All-append (IsAdvanceOf run) more others first second

pub both_of_runs : (more others : List Record) → AreOfRuns more → AreOfRuns others → AreOfRuns (more ++ others)
both_of_runs more others first second = All-append (λ (told : Record). (r : ℕ) × IsAdvanceOf r told) more others first second

pub no_runs : AreOfRuns []
no_runs = All-nil (λ (told : Record). (r : ℕ) × IsAdvanceOf r told)

-- an advance more: the run goes on
pub goes_on : {E : Type 0} (run : ℕ) (result : Result Advanced E) (now : NumberedState) → result ≡ Ok advanced.Goes → (more others : List Record) → AreAdvances run more → MakesOne run result now others → AreAdvances run (more ++ others)
goes_on run (Ok advanced.Goes) now is more others first one = both_advances run more others first (subst (AreAdvances run) (sym one.2) (one_advance run one.0 one.1))
goes_on run (Ok advanced.NotOut) now is more others first one = absurd (let bad = is in cc)
goes_on run (Ok advanced.Ended) now is more others first one = absurd (let bad = is in cc)
goes_on run (Err fault) now is more others first one = absurd (let bad = is in cc)

-- it came to its exit
pub exits : {E : Type 0} (run : ℕ) (result : Result Advanced E) (now : NumberedState) → result ≡ Ok advanced.Ended → (more others : List Record) → AreAdvances run more → MakesOne run result now others → IsDriven run now (more ++ others)
exits run (Ok advanced.Ended) now is more others first one = record {
  advances = both_advances run more others first (subst (AreAdvances run) (sym one.3) (one_advance run one.0 one.1));
  ended = inl (more, one.0, ap (λ (t : List Record). more ++ t) one.3, one.2);
}
exits run (Ok advanced.NotOut) now is more others first one = absurd (let bad = is in cc)
exits run (Ok advanced.Goes) now is more others first one = absurd (let bad = is in cc)
exits run (Err fault) now is more others first one = absurd (let bad = is in cc)

-- it is not out
pub is_out_no_more : {E : Type 0} (run : ℕ) (result : Result Advanced E) (now : NumberedState) → result ≡ Ok advanced.NotOut → (more others : List Record) → AreAdvances run more → MakesOne run result now others → IsDriven run now (more ++ others)
is_out_no_more run (Ok advanced.NotOut) now is more others first one = record {
  advances = both_advances run more others first (subst (AreAdvances run) (sym one.0) (no_advance run));
  ended = inr one.1;
}
is_out_no_more run (Ok advanced.Goes) now is more others first one = absurd (let bad = is in cc)
is_out_no_more run (Ok advanced.Ended) now is more others first one = absurd (let bad = is in cc)
is_out_no_more run (Err fault) now is more others first one = absurd (let bad = is in cc)

-- the engine stopped
pub stops_there : {E : Type 0} (run : ℕ) (result : Result Advanced E) (fault : E) (now : NumberedState) → result ≡ Err fault → (more others : List Record) → AreAdvances run more → MakesOne run result now others → AreAdvances run (more ++ others)
stops_there run (Err fault) same now is more others first one = both_advances run more others first (subst (AreAdvances run) (sym one) (no_advance run))
stops_there run (Ok advanced.NotOut) same now is more others first one = absurd (let bad = is in cc)
stops_there run (Ok advanced.Goes) same now is more others first one = absurd (let bad = is in cc)
stops_there run (Ok advanced.Ended) same now is more others first one = absurd (let bad = is in cc)

-- what an advance by a request made
pub steps_so : (E : Type 0) (run : ℕ) (advanced : Advanced) (now : NumberedState) (others : List Record) → MakesOne run (ok_of E advanced) now others → (became : Served) → became ≡ stepped_of advanced → (manner : Manner) → Does manner (asks.Step run) others became now
steps_so E run advanced.NotOut now others one became is manner =
    subst (λ (b : Served). Does manner (asks.Step run) others b now) (sym is) (subst (λ (t : List Record). Does manner (asks.Step run) t (served.Refused NotHeld) now) (sym one.0) (no_step run now one.1))
steps_so E run advanced.Goes now others one became is manner =
    subst (λ (b : Served). Does manner (asks.Step run) others b now) (sym is) (subst (λ (t : List Record). Does manner (asks.Step run) t served.Done now) (sym one.2) (one_step run one.0 now one.1))
steps_so E run advanced.Ended now others one became is manner =
    subst (λ (b : Served). Does manner (asks.Step run) others b now) (sym is) (subst (λ (t : List Record). Does manner (asks.Step run) t served.Done now) (sym one.3) (one_step run one.0 now one.1))

pub drives_so : {E : Type 0} (run : ℕ) (result : Result Served E) (now : NumberedState) (acts : List Record) → DrivesTo run result now acts → (manner : Manner) → Acts manner (asks.Drive run) result now acts
drives_so run (Ok became) now acts it manner = subst (λ (b : Served). Does manner (asks.Drive run) acts b now) (sym it.0) (one_drive run acts now it.1)
drives_so run (Err fault) now acts it manner = part_drive run acts it

pub started_so : {E : Type 0} (manner : Manner) (answer : CallAnswer) (run : ℕ) (result : Result Served E) (now : NumberedState) (acts : List Record) → run_to_drive manner answer ≡ Some run → DrivesTo run result now acts → DrivesStarted manner answer result now acts
started_so manner answer run (Ok became) now acts is it = (it.0, inr (run, is, it.1))
started_so manner answer run (Err fault) now acts is it = (run, is, it)

pub called_so : {E : Type 0} (manner : Manner) (call : Call) (answer : CallAnswer) (result : Result Served E) (now : NumberedState) (acts : List Record) → DrivesStarted manner answer result now acts → Acts manner (asks.Call call) result now (Called answer call ∷ acts)
called_so manner call answer (Ok became) now acts it =
    subst (λ (b : Served). Does manner (asks.Call call) (Called answer call ∷ acts) b now) (sym it.0) (elim it.1 [
      | inl none ↦ subst (λ (t : List Record). Does manner (asks.Call call) (Called answer call ∷ t) served.Done now) (sym none.1) (one_call call answer now none.0)
      | inr run ↦ call_driven call answer run.0 acts now run.1 run.2
    ])
called_so manner call answer (Err fault) now acts it = part_call call answer it.0 acts it.1 it.2

pub tells_so : {E : Type 0} (manner : Manner) (request : Request) (result : Result Served E) (now : NumberedState) (acts : List Record) → is_telling request ≡ true → Tells served.Done result acts → Acts manner request result now acts
tells_so manner request (Ok became) now acts is it =
    subst (λ (b : Served). Does manner request acts b now) (sym it.1) (subst (λ (t : List Record). Does manner request t served.Done now) (sym it.0) (only_told request now is))
tells_so manner request (Err fault) now acts is it = subst (DoesInPart manner request) (sym it) (part_none request)

pub quits_so : {E : Type 0} (manner : Manner) (request : Request) (result : Result Served E) (now : NumberedState) (acts : List Record) → request ≡ asks.Quit → Tells served.Quit result acts → Acts manner request result now acts
quits_so manner request (Ok became) now acts is it =
    subst (λ (r : Request). Does manner r acts became now) (sym is) (subst (λ (b : Served). Does manner asks.Quit acts b now) (sym it.1) (subst (λ (t : List Record). Does manner asks.Quit t served.Quit now) (sym it.0) (asked_to_quit now)))
quits_so manner request (Err fault) now acts is it = subst (DoesInPart manner request) (sym it) (part_none request)

-- a request of steps was refused, since no run stays out
pub elsewhere_so : (E : Type 0) (manner : Manner) (request : Request) (now : NumberedState) → manner.is_stepped ≡ false → is_of_steps request ≡ true → ActsHere manner request (ok_of E (served.Refused Form)) now []
elsewhere_so E manner request now still of = (elsewhere request now still of, λ no_steps is_one. (refl, refl))

-- it is none of steps, or runs stay out
pub acts_here : {E : Type 0} (manner : Manner) (request : Request) (result : Result Served E) (now : NumberedState) (acts : List Record) → (manner.is_stepped ≡ false → is_of_steps request ≡ true → ⊥) → Acts manner request result now acts → ActsHere manner request result now acts
acts_here manner request (Ok became) now acts none it = (it, λ still of. absurd (none still of))
acts_here manner request (Err fault) now acts none it = (it, λ still of. absurd (none still of))

-- there is no request
pub none_asked : (E : Type 0) (manner : Manner) (asked : Option Request) (now : NumberedState) → asked ≡ None → ActsOn manner asked (ok_of E (served.Refused Form)) now []
none_asked E manner asked now is = subst (λ (r : Option Request). ActsOn manner r (ok_of E (served.Refused Form)) now []) (sym is) (refl, refl)

-- nothing was done as yet
pub nothing_on : {E : Type 0} (manner : Manner) (asked : Option Request) (fault : E) (now : NumberedState) → ActsOn manner asked (err_of fault) now []
nothing_on manner (Some request) fault now = (part_none request, λ still of. refl)
nothing_on manner None fault now = refl

-- ---- the turn of a line

steps_told : (version : Version) (request : Request) → is_of_steps (request_told version request) ≡ is_of_steps request
steps_told version (asks.Call (calls.Submit queue priority retries class)) = refl
steps_told version (asks.Call (calls.Dispatch queue)) = refl
steps_told version (asks.Call (calls.Complete outcome)) = refl
steps_told version (asks.Call (calls.Withdraw ccb)) = refl
steps_told version (asks.Call (calls.GuestFreeze place guest)) = refl
steps_told version (asks.Call (calls.GuestRelease freeze)) = refl
steps_told version (asks.Call (calls.Clock reading)) = refl
steps_told version (asks.Call (calls.Park run)) = refl
steps_told version (asks.Call (calls.Resume run)) = refl
steps_told version (asks.Step run) = refl
steps_told version (asks.Drive run) = refl
steps_told version asks.Drain = refl
steps_told version asks.Totals = refl
steps_told version asks.Ccbs = refl
steps_told version (asks.Succeed how) = refl
steps_told version asks.Quit = refl
steps_told version asks.Help = refl

module _ {E : Type 0} (manner : Manner) (line : List ℕ) (state : NumberedState) (now : Option ℕ) (of_clock : IsOfClock manner now) (more : List Record) where
  -- it can be none
  pub turned_no_text : (result : Result Served E) → (IsText line → ⊥) → ReadThen now (ActsOn manner None result state) more → Turned manner line result state more
  turned_no_text (Ok became) none it =
      carried now became state of_clock (read_these now (λ acts these. subst (λ (b : Served). Leads manner line acts b state) (sym these.1) (no_text state none these.0)) more it)
  turned_no_text (Err fault) none it = record { reading = now; of_clock = of_clock; part = read_these now (λ acts these. led_to_none these) more it }

  turned_read : (result : Result Served E) (read : Option Request) → IsText line → is_skipped line ≡ false → Reads (request_text (version_of state.setup) manner.is_told) line read
      → ReadThen now (ActsOn manner (option_map (request_told (version_of state.setup)) read) result state) more → Turned manner line result state more
  turned_read (Ok became) (Some request) text other reads it =
      carried now became state of_clock (read_these now (λ acts these. asked_for request became state text other reads.said these.0 (λ still of. these.1 still (steps_told (version_of state.setup) request ∙ of))) more it)
  turned_read (Err fault) (Some request) text other reads it =
      record { reading = now; of_clock = of_clock; part = read_these now (λ acts these. led_to_part request text reads.said these.0 (λ still of. these.1 still (steps_told (version_of state.setup) request ∙ of))) more it }
  turned_read (Ok became) None text other reads it =
      let none : (request : Request) → request_text (version_of state.setup) manner.is_told request ≢ Some line = λ request is. let bad = reads.back request is in absurd (cc) in
      carried now became state of_clock (read_these now (λ acts these. subst (λ (b : Served). Leads manner line acts b state) (sym these.1) (no_request state text other none these.0)) more it)
  turned_read (Err fault) None text other reads it = record { reading = now; of_clock = of_clock; part = read_these now (λ acts these. led_to_none these) more it }

  pub turned_text : (result : Result Served E) (asked : Option Request) (version : Version) → version ≡ version_of state.setup → IsText line → is_skipped line ≡ false → AsksFor version manner.is_told line asked → ReadThen now (ActsOn manner asked result state) more
      → Turned manner line result state more
  turned_text result asked version same text other asks it =
      let here : AsksFor (version_of state.setup) manner.is_told line asked = subst (λ (v : Version). AsksFor v manner.is_told line asked) same asks in
      turned_read result here.read text other here.reads (subst (λ (o : Option Request). ReadThen now (ActsOn manner o result state) more) here.is it)

  -- memory was refused for it
  pub turned_refused : (result : Result Served E) → IsErr result → IsReading now more → Turned manner line result state more
  turned_refused (Ok became) bad read = absurd (let no : false ≡ true = bad in cc)
  turned_refused (Err fault) is read = record { reading = now; of_clock = of_clock; part = read_only now more (led_to_none refl) read }

-- What a call of a helper may rely on where its segment stops, and what it answers where it only reads. What each deed does
-- stands beside its function (`helper_effects`).
use Rattle.std.proofs.Common.{◌≡◌, ℕ, ◌<◌, ◌≤◌, List, length, map, true, false, Option, Some, refl, ap, sym, subst, ◌∙◌, arith}
use Rattle.std.proofs.lemmas.Bool.{and_parts}
use Rattle.helpers.specs.declared.columns.ArgKind.{ArgKind}
use Rattle.helpers.specs.declared.columns.Needs.{Needs}
use Rattle.helpers.specs.declared.columns.Gives.{Gives}
use Rattle.helpers.specs.declared.columns.Change.{Change}
use Rattle.helpers.specs.declared.columns.Tells.{Tells}
use Rattle.helpers.specs.declared.table.HelperEffect.{HelperEffect}
use Rattle.helpers.specs.declared.limits.HelperLimits.{HelperLimits}
use Rattle.helpers.specs.declared.request.Request.{Request}
use Rattle.helpers.specs.declared.request.Answer.{Answer}
use Rattle.helpers.specs.Table.{row_of, answer_number}
use Rattle.bpf_semantics.specs.Calls.{is_held, meets, meets_need, meets_rule}
use Rattle.bpf_semantics.specs.MachineState.{MachineState}
use Rattle.bpf_semantics.specs.Step.{IsAnswer, IsGiven, IsWritten}
use Rattle.interpreter.specs.Segments.{SegmentState}
use Rattle.engine_runs.specs.RunsState.{RunsState, tokens_at}
use Rattle.engine_runs.specs.Tokens.{AreTokensWith}
use Rattle.ccb.specs.Rising.{AreRising}
use Rattle.freeze_ledger.specs.declared.freeze.Freeze.{Freeze}
use Rattle.freeze_ledger.specs.Freezes.{entry_of}
use Rattle.world.proofs.Lists.Entries.{FreezesRise}
use Rattle.engine_runs.specs.RunPlaces.{HasRunAt}
use Rattle.table_store.specs.Tables.{HasWord}
use Rattle.world.specs.declared.ccb_state.CcbState.TheVariants.{InRecovery}
use Rattle.world_calls.specs.declared.record.Record.{Record}
use Rattle.world.specs.Limits.{AnswerLimits}
use Rattle.world.specs.World.{Transport, Setup, queue_count, LiveCcb, LiveRun, World}
use Rattle.world.specs.Lookups.{ccb_of}
use Rattle.world.specs.RunSteps.{is_run, goes_on, answers, by_effect}
use Rattle.world.specs.Laws.FreezeLaws.{entries_of, held_by}
use Rattle.world.proofs.Lists.Each.{all_found}
use Rattle.world.proofs.Steps.Moves.{run_key}
use Rattle.engine_core.specs.EngineState.{world_of}
use Rattle.engine_core.specs.Invariant.{KeepsEngine}
use Rattle.engine_core.proofs.Recording.{kept_sound, opening_count}
use Rattle.engine_core.proofs.Holding.{own_found, own_rise, tokens_here}
use Rattle.engine_core.proofs.Standing.{GivesBack, gives_back}
use Rattle.engine_core.proofs.StopEnds.{arrival, rule_of}
use Rattle.helpers.specs.declared.columns.Gives.TheVariants.{Number}
use Rattle.helpers.specs.declared.columns.Change.TheVariants as changes
use Rattle.world_laws.proofs.Entries.{Columns, Reads}
use Rattle.world_laws.proofs.Deeds.{NamesWord, word_named}
use Rattle.world_laws.proofs.Steps.Does.{AnswersFrom}
use Rattle.engine_core.specs.TakingOver.{IsAdmitted, IsCalled, at_stop, Does}

-- what the rule of a call says of the run and of its first two arguments
pub record IsRuled (limits : HelperLimits) (m : MachineState) (request : Request) (need : Needs) (first second : Option ArgKind) : Type 0 where
  pub needed : meets_need m need ≡ true
  pub first_met : meets limits m request.arguments first request.arguments.first ≡ true
  pub second_met : meets limits m request.arguments second request.arguments.second ≡ true

pub is_ruled : (limits : HelperLimits) (m : MachineState) (request : Request) (one two three : Option ArgKind) (need : Needs) (give : Gives) (change : Change) (tell : Tells) → Columns one two three need give change tell (row_of request.helper) → meets_rule limits m request ≡ true → IsRuled limits m request need one two
is_ruled limits m request one two three need give change tell row rule =
    let needs = and_parts _ _ rule in
    let firsts = and_parts _ _ needs.1 in
    let seconds = and_parts _ _ firsts.1 in
    record {
      needed = subst (λ (n : Needs). meets_need m n ≡ true) row.needs_is needs.0;
      first_met = subst (λ (o : Option ArgKind). meets limits m request.arguments o request.arguments.first ≡ true) row.first_is firsts.0;
      second_met = subst (λ (o : Option ArgKind). meets limits m request.arguments o request.arguments.second ≡ true) row.second_is seconds.0;
    }

-- an answer as the columns have it
pub is_answer : (m : MachineState) (request : Request) (given : Answer) (give : Gives) (change : Change) → (row_of request.helper).gives ≡ give → (row_of request.helper).machine ≡ change → IsGiven m.held give given.r0 → IsWritten change request.arguments given.written → IsAnswer m request given
is_answer m request given give change gives_is machine_is answer written = (
  subst (λ (g : Gives). IsGiven m.held g given.r0) (sym gives_is) answer,
  subst (λ (c : Change). IsWritten c request.arguments given.written) (sym machine_is) written,
)

-- what a call by this deed is, in the world
pub deed_step : (world : World) (run : LiveRun) (request : Request) (effect : HelperEffect) → (row_of request.helper).effect ≡ effect → by_effect (row_of request.helper).effect world run request ≡ by_effect effect world run request
deed_step world run request effect is = ap (λ (d : HelperEffect). by_effect d world run request) is

-- the world in which the run stands at its stop
abbrev pub between : Transport → RunsState → SegmentState → Setup → List Record → LiveRun → World
between transport old segment setup history run = goes_on (world_of setup history transport old.runs) run segment.to

module _ (transport : Transport) (old : RunsState) (place : ℕ) (segment : SegmentState) (request : Request) (it : IsCalled transport old place segment request) where
  -- what the machine holds is what the entries say of the run
  pub held_are : (number : ℕ) (a : IsAdmitted transport old number place segment) → segment.to.held ≡ held_by a.out.it.number transport.freezes
  held_are number a =
      let here = arrival transport old place segment it.segment_is number a a.setup a.history a.kept in
      here.sound.held.machines a.out.it.number (at_stop a.out.it segment) here.there

  -- the rule of the call
  pub rule : meets_rule it.admitted.setup.limits segment.to request ≡ true
  rule = rule_of transport old place segment it.segment_is it.number it.admitted request it.stop

  -- what the openings, the tables and the clock are
  pub answer_limits : AnswerLimits it.admitted.setup (world_of it.admitted.setup it.admitted.history transport old.runs)
  answer_limits = (kept_sound it.admitted.setup it.admitted.history transport old it.admitted.kept).kept.answers

  -- what the answer may be taken from
  pub answers_from : AnswersFrom it.admitted.setup (between transport old segment it.admitted.setup it.admitted.history it.admitted.out.it) (at_stop it.admitted.out.it segment)
  answers_from =
      let a = it.admitted in
      let here = arrival transport old place segment it.segment_is it.number a a.setup a.history a.kept in
      let run : LiveRun = at_stop a.out.it segment in
      record {
        lawful = a.kept.run.lawful;
        kept = here.sound.kept;
        queue = all_found run_key (λ (r : LiveRun). r.queue < queue_count a.setup) a.out.it.number (between transport old segment a.setup a.history a.out.it).runs.list run here.sound.kept.runs.queues here.there;
      }

  -- A number is told, and nothing done.
  pub told : (effect : HelperEffect) → (row_of request.helper).effect ≡ effect → (answer : World → LiveRun → Request → ℕ) (least most : ℕ) → Reads effect answer least most → (r0 : ℕ) → ((number : ℕ) (b : IsAdmitted transport old number place segment) (setup : Setup) (history : List Record) → r0 ≡ answer (between transport old segment setup history b.out.it) (at_stop b.out.it segment) request) → Does place segment request (answer_number r0) transport old transport old
  told effect is answer least most reading r0 r0_is =
      let a = it.admitted in
      let columns = reading.columns request is in
      let range = reading.within a.setup (between transport old segment a.setup a.history a.out.it) (at_stop a.out.it segment) request answers_from in
      record {
        allowed = is_answer segment.to request (answer_number r0) (Number least most) changes.Nothing columns.gives_is columns.machine_is
            (subst (λ (n : ℕ). (least ≤ n) × (n ≤ most)) (sym (r0_is it.number a a.setup a.history)) range) tt;
        list = refl;
        tokens = a.kept.tokens;
        step = λ n b setup history kept.
            let run : LiveRun = at_stop b.out.it segment in
            let before : World = between transport old segment setup history b.out.it in
            record {
              world = before;
              step = deed_step before run request effect is
                  ∙ (reading.step before run request ∙ ap (λ (k : ℕ). Some (answers before run request (answer_number k))) (sym (r0_is n b setup history)));
              is = refl;
            };
      }

  -- A freeze that the run gives up is there, and is the run's.
  pub given_up : (number freeze : ℕ) (a : IsAdmitted transport old number place segment) (setup : Setup) (history : List Record) → KeepsEngine setup history transport old → is_held segment.to.held freeze ≡ true → GivesBack (between transport old segment setup history a.out.it) (at_stop a.out.it segment) freeze
  given_up number freeze a setup history kept held =
      let here = arrival transport old place segment it.segment_is number a setup history kept in
      gives_back setup (between transport old segment setup history a.out.it) (at_stop a.out.it segment) freeze here.sound here.there held

  pub record IsGivingUp (freeze : ℕ) : Type 0 where
    pub held : is_held segment.to.held freeze ≡ true
    pub run : LiveRun
    pub there : HasRunAt old.runs.list place run
    pub entry : Freeze
    pub found : entry_of freeze transport.freezes ≡ Some entry
    pub its : is_run run.number entry.holder ≡ true
    pub number_is : entry.number ≡ freeze
    pub bound : freeze < 4294967296
    pub numbered : FreezesRise 0 transport.freezes transport.greatest_freeze
    pub rising : AreRising 0 (map run_key old.runs.list) old.runs.greatest
    pub token : AreTokensWith (tokens_at old place) (entries_of run.number transport.freezes) freeze
    pub token_is : token.entry ≡ entry

  pub giving_up : (freeze : ℕ) → is_held segment.to.held freeze ≡ true → IsGivingUp freeze
  giving_up freeze held =
      let a = it.admitted in
      let its = given_up it.number freeze a a.setup a.history a.kept held in
      let sound = kept_sound a.setup a.history transport old a.kept in
      let numbered : FreezesRise 0 transport.freezes transport.greatest_freeze = sound.kept.freezes.numbered in
      record {
        held = held;
        run = a.out.it;
        there = a.there;
        entry = its.entry;
        found = its.found;
        its = its.its;
        number_is = its.number_is;
        bound = omega (arith, its.bound, sound.kept.freezes.numbers);
        numbered = numbered;
        rising = sound.kept.runs.rising;
        token = record {
          are = tokens_here transport.freezes old place a.out.it a.kept.tokens a.there;
          high = transport.greatest_freeze;
          rising = own_rise transport.freezes a.out.it.number transport.greatest_freeze numbered;
          entry = its.entry;
          found = own_found transport.freezes a.out.it.number freeze its.entry its.found its.its;
        };
        token_is = refl;
      }

  -- The CCB that the run disposes of is in recovery.
  pub record HasItsCcb (run : LiveRun) : Type 0 where
    pub live : LiveCcb
    pub found : ccb_of run.ccb transport.live ≡ Some live
    pub state : live.state ≡ InRecovery

  pub has_its_ccb : (number : ℕ) (a : IsAdmitted transport old number place segment) (setup : Setup) (history : List Record) → KeepsEngine setup history transport old → segment.to.disposed ≡ false → HasItsCcb a.out.it
  has_its_ccb number a setup history kept fresh =
      let here = arrival transport old place segment it.segment_is number a setup history kept in
      let its = here.sound.recovering.ccbs a.out.it.number (at_stop a.out.it segment) here.there fresh in
      record { live = its.live; found = its.found; state = its.state }

  pub record IsDisposing : Type 0 where
    pub fresh : segment.to.disposed ≡ false
    pub run : LiveRun
    pub there : HasRunAt old.runs.list place run
    pub live : LiveCcb
    pub found : ccb_of run.ccb transport.live ≡ Some live
    pub state : live.state ≡ InRecovery

  pub disposing : segment.to.disposed ≡ false → IsDisposing
  disposing fresh =
      let a = it.admitted in
      let its = has_its_ccb it.number a a.setup a.history a.kept fresh in
      record { fresh = fresh; run = a.out.it; there = a.there; live = its.live; found = its.found; state = its.state }

  -- A word of a table that the call names is there.
  pub its_word_there : (third : Option ArgKind) → NamesWord third (row_of request.helper) → HasWord old.runs.tables request.arguments.first request.arguments.second
  its_word_there third columns = word_named it.admitted.setup (world_of it.admitted.setup it.admitted.history transport old.runs) segment.to request third answer_limits columns rule

  -- The run's queue is there.
  pub queue_there : (queue : ℕ) → ((run : LiveRun) → HasRunAt old.runs.list place run → queue ≡ run.queue) → queue < length transport.openings
  queue_there queue queue_is =
      let a = it.admitted in
      let sound = kept_sound a.setup a.history transport old a.kept in
      let known = all_found run_key (λ (r : LiveRun). r.queue < queue_count a.setup) it.number old.runs.list a.out.it sound.kept.runs.queues a.out.found in
      omega (arith, known, queue_is a.out.it a.there, opening_count a.setup a.history transport old a.kept)

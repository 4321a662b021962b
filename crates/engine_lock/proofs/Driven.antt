-- A run that was driven in one section, advance by advance.
use Rattle.std.proofs.Common.{◌≡◌, ℕ, ◌+◌, ◌-◌, ◌<◌, ◌≤◌, true, false, List, [], ◌∷◌, ◌++◌, length, Result, Ok, Err, refl, ap, sym, subst, ◌∙◌, arith, append_assoc, append-nil, length-append}
use Rattle.std.specs.Prelude.{IfOk, IfErr, MatchResult}
use Rattle.bpf_semantics.specs.declared.stop.Stop.TheVariants.{Exit as at_exit}
use Rattle.interpreter.specs.Segments.{SegmentState}
use Rattle.world_calls.specs.declared.record.Record.{Record}
use Rattle.world_calls.specs.declared.totals.Totals.{Totals}
use Rattle.world_calls.specs.declared.record.Record.TheVariants.{Advance as advanced}
use Rattle.world.specs.World.{Setup, beginning}
use Rattle.world.specs.Lawful.{IsLawful}
use Rattle.world.specs.TotalsOf.{totals_in}
use Rattle.world.specs.Event.{Event as WorldEvent, Reply as WorldReply}
use Rattle.world.specs.WorldRun.{WorldRun}
use Rattle.world.specs.Flat.{events_of, flat}
use Rattle.world_laws.proofs.Leads.{leads_append}
use Rattle.engine_core.specs.declared.answers.AdvanceAnswer.{AdvanceAnswer}
use Rattle.engine_core.specs.declared.answers.AdvanceAnswer.TheVariants.{Goes, Ended}
use Rattle.engine_core.specs.declared.answers.AdvanceFault.{AdvanceFault}
use Rattle.engine_core.specs.declared.answers.AdvanceFault.TheVariants.{NotOut, OutOfMemory}
use Rattle.engine_core.specs.declared.driving.DriveFault.{DriveFault}
use Rattle.engine_core.specs.declared.event.Event.TheVariants.{Advance}
use Rattle.engine_core.specs.declared.reply.Reply.TheVariants as replied
use Rattle.engine_core.specs.Answers.{GoesOrEnds, r0_of, stopped_at}
use Rattle.engine_core.specs.Driving.{ComesBack, RunsToExit, TakesOver, WentOn, begins, goes_on}
use Rattle.engine_core.specs.EngineState.{EngineState, IsRun, Records}
use Rattle.engine_core.specs.Faults.{AdmitsUnlessTold}
use Rattle.engine_core.specs.Replies.{given_advanced}
use Rattle.engine_core.specs.RunState.{IsOut, RunState, StoppedState, before_stop}
use Rattle.engine_core.proofs.Recording.{flat_push}
use Rattle.monitor.specs.declared.knowledge.Pair.{Pair}
use Rattle.monitor.specs.LegalHistory.{LegalHistory, all_by, records}
use Rattle.monitor.specs.Telling.{Agrees, CallerState, Joins, Looks, having_made}
use Rattle.monitor.proofs.Histories.{itself, none_told, own_more, records_more}
use Rattle.engine_lock.specs.Driving.{ComesToExit, Drives, DrivesOn, EngineDrives, GoesOn, IsBack, TellsBack, TellsDriven, TellsNone, comes_on, is_not_out, not_advanced, stands, tells_not_out}
use Rattle.engine_lock.specs.Publishing.{beyond}
use Rattle.engine_lock.specs.Sharing.{Answers, IsSince, LockedState, Section}
use Rattle.engine_lock.proofs.Histories.{beyond_is, is_beyond}

-- ---- the engine

-- the records that a drive made
pub record Grown (old new : EngineState) : Type 0 where
  pub made : List Record
  pub history : new.history ≡ old.history ++ made
  pub setup_is : new.setup ≡ old.setup
  pub taken : new.taken ≡ old.taken

not_yet : (old : EngineState) → Grown old old
not_yet old = record { made = []; history = sym (append-nil old.history); setup_is = refl; taken = refl }

one_more : (old between after : EngineState) (told : Record) → Grown old between → Records between after told → Grown old after
one_more old between after told g more = record {
  made = g.made ++ told ∷ [];
  history = more.history ∙ (ap (λ (rs : List Record). rs ++ told ∷ []) g.history ∙ append_assoc old.history g.made (told ∷ []));
  setup_is = more.setup ∙ g.setup_is;
  taken = more.taken ∙ g.taken;
}

grown_on : (old : EngineState) (run : RunState) (now : EngineState) (there : RunState) (r0 : ℕ) → WentOn old run now there r0 → Grown old now
grown_on old run now there r0 begins = not_yet old
grown_on old run now there r0 (goes_on between after at again before then segment went t) = one_more old between after _ (grown_on old run between at before went) t.recorded

grown_back : (old new : EngineState) (run : RunState) (why : AdvanceFault) (there : RunState) (r0 : ℕ) → ComesBack old run why there r0 new → Grown old new
grown_back old new run NotOut there r0 came = subst (Grown old) (sym came.2) (not_yet old)
grown_back old new run OutOfMemory there r0 came = grown_on old run new there r0 came

pub grown : (old new : EngineState) (run : RunState) (result : Result ℕ DriveFault) → IfOk result (λ r0. RunsToExit old run r0 new) → IfErr result (λ fault. ComesBack old run fault.why fault.run fault.r0 new) → Grown old new
grown old new run (Ok r0) ended came = one_more old ended.between new _ (grown_on old run ended.between ended.at ended.before ended.went) ended.last.recorded
grown old new run (Err fault) ended came = grown_back old new run fault.why fault.run fault.r0 came

pub no_shorter : (old new : EngineState) → Grown old new → length old.history ≤ length new.history
no_shorter old new g = omega (arith, ap length g.history, length-append old.history g.made)

longer_by : (old new : EngineState) (told : Record) → Records old new told → length old.history < length new.history
longer_by old new told more = omega (arith, ap length more.history, length-append old.history (told ∷ []))

none_of : (rs : List Record) → length rs ≡ 0 → rs ≡ []
none_of [] none = refl
none_of (r ∷ rs) none = absurd (omega (arith, none))

pub no_more : (old new : EngineState) → Grown old new → length new.history ≤ length old.history → new.history ≡ old.history
no_more old new g none =
    let made : g.made ≡ [] = none_of g.made (omega (arith, none, ap length g.history, length-append old.history g.made)) in
    g.history ∙ (ap (λ (rs : List Record). old.history ++ rs) made ∙ append-nil old.history)

-- what it made is beyond what is known
module _ (known : List Pair) (old new : EngineState) (its : records known ≡ old.history) (g : Grown old new) where
  whole : new.history ≡ records known ++ g.made
  whole = g.history ∙ ap (λ (rs : List Record). rs ++ g.made) (sym its)

  pub drive_beyond : new.history ≡ records known ++ beyond known new.history
  drive_beyond = is_beyond known new.history g.made whole

  pub length_beyond : length new.history ≡ length old.history + length (beyond known new.history)
  length_beyond = omega (arith, ap length g.history, length-append old.history g.made, ap length (beyond_is known new.history g.made whole))

  pub records_then : (caller : ℕ) → records (known ++ all_by caller (beyond known new.history)) ≡ new.history
  records_then caller = records_more known caller (beyond known new.history) ∙ sym drive_beyond

-- it went nowhere, where nothing was recorded
record Unmoved (old : EngineState) (run : RunState) (now : EngineState) (there : RunState) (r0 : ℕ) : Type 0 where
  now_is : now ≡ old
  there_is : there ≡ run
  r0_is : r0 ≡ 0

unmoved : (old : EngineState) (run : RunState) (now : EngineState) (there : RunState) (r0 : ℕ) → WentOn old run now there r0 → length now.history ≤ length old.history → Unmoved old run now there r0
unmoved old run now there r0 begins none = record { now_is = refl; there_is = refl; r0_is = refl }
unmoved old run now there r0 (goes_on between after at again before then segment went t) none =
    absurd (omega (arith, none, longer_by between after _ t.recorded, no_shorter old between (grown_on old run between at before went)))

is_run_more : (between after : EngineState) (told : Record) → IsRun between → Records between after told → IsRun after
is_run_more between after told is more = record {
  lawful = subst IsLawful (sym more.setup) is.lawful;
  run = subst (λ (s : Setup). WorldRun s (flat after.history) after.world) (sym more.setup)
      (subst (λ (xs : List (WorldEvent × WorldReply)). WorldRun between.setup xs after.world) (sym (ap flat more.history ∙ flat_push between.history told))
      (is.run.0, leads_append between.setup (beginning between.setup) (flat between.history) (events_of told) between.world after.world is.run.1 more.step));
}

-- ---- one advance

-- the run at the stop to which it executed this segment
abbrev stop_after : RunState → SegmentState → StoppedState
stop_after at segment = record { number = at.number; segment = record segment { program = at.program } }

-- the run at a stop of which nothing is told
abbrev some_stop : RunState → StoppedState
some_stop at = record { number = at.number; segment = record { program = at.program; from = at.machine; to = at.machine; steps = 0; stop = at_exit 0 } }

some_stop_is : (at : RunState) → before_stop (some_stop at) ≡ at
some_stop_is at = refl

stop_is : (old new : EngineState) (at : RunState) (segment : SegmentState) (answer : AdvanceAnswer) → TakesOver old at segment answer new → before_stop (stop_after at segment) ≡ at
stop_is old new at segment answer t = λ i. record { number = at.number; program = at.program; machine = t.stretch.from_is i }

-- the record that it made
abbrev made_of : RunState → SegmentState → AdvanceAnswer → Record
made_of at segment answer = advanced at.number segment.steps (stopped_at segment.stop) (r0_of answer)

answers_of : (old new : EngineState) (at : RunState) (segment : SegmentState) (answer : AdvanceAnswer) → TakesOver old at segment answer new → IsOut old.world at → Answers old (Advance (stop_after at segment)) (replied.Success (given_advanced answer)) new
answers_of old new at segment (Goes again r0) t out = record {
  recorded = t.recorded;
  fits = tt;
  fit = subst (IsOut old.world) (sym (stop_is old new at segment (Goes again r0) t)) out;
  gives = subst (λ (r : RunState). GoesOrEnds old.setup old.world new.world r segment (Goes again r0)) (sym (stop_is old new at segment (Goes again r0) t)) t.goes;
}
answers_of old new at segment (Ended r0) t out = record {
  recorded = t.recorded;
  fits = tt;
  fit = subst (IsOut old.world) (sym (stop_is old new at segment (Ended r0) t)) out;
  gives = t.goes;
}

legal_run : (setup : Setup) (engine : EngineState) (history : List Pair) → IsRun engine → engine.setup ≡ setup → records history ≡ engine.history → LegalHistory setup history
legal_run setup engine history is same its =
    (engine.world, subst (λ (rs : List Record). WorldRun setup (flat rs) engine.world) (sym its) (subst (λ (s : Setup). WorldRun s (flat engine.history) engine.world) same is.run))

all_by_append : (caller : ℕ) (xs ys : List Record) → all_by caller (xs ++ ys) ≡ all_by caller xs ++ all_by caller ys
all_by_append caller [] ys = refl
all_by_append caller (x ∷ xs) ys = ap (λ (ps : List Pair). record { caller = caller; made = x } ∷ ps) (all_by_append caller xs ys)

-- ---- all of them

module _ (setup : Setup) (h : List Pair) (old : EngineState) (run : RunState) (before : CallerState) (its : records h ≡ old.history) (same : old.setup ≡ setup) (lawful : IsRun old) where
  -- the caller once it has made these records
  abbrev joined : List Record → CallerState
  joined [] = before
  joined (r ∷ rs) = having_made h (r ∷ rs) before

  joined_some : (made : List Record) → 0 < length made → joined made ≡ having_made h made before
  joined_some [] some = absurd (omega (arith, some))
  joined_some (r ∷ rs) some = refl

  more_than_none : (made : List Record) (r : Record) → 0 < length (made ++ r ∷ [])
  more_than_none made r = omega (arith, length-append made (r ∷ []))

  agrees_then : Agrees h before → (made : List Record) → Agrees (h ++ all_by before.number made) (joined made)
  agrees_then a [] = subst (λ (l : List Pair). Agrees l before) (sym (append-nil h)) a
  agrees_then a (r ∷ rs) = record {
    began = itself (h ++ all_by before.number (r ∷ rs));
    heard = none_told (h ++ all_by before.number (r ∷ rs));
    own = own_more before.number (r ∷ rs) h before.mine a.own;
  }

  joined_more : (made : List Record) (r : Record) → joined (made ++ r ∷ []) ≡ having_made (h ++ all_by before.number made) (r ∷ []) (joined made)
  joined_more [] r = ap (λ (l : List Pair). having_made l (r ∷ []) before) (sym (append-nil h))
  joined_more (x ∷ xs) r =
      let seen_is : h ++ all_by before.number (x ∷ (xs ++ r ∷ [])) ≡ (h ++ all_by before.number (x ∷ xs)) ++ all_by before.number (r ∷ []) =
      ap (λ (l : List Pair). h ++ l) (all_by_append before.number (x ∷ xs) (r ∷ [])) ∙ sym (append_assoc h (all_by before.number (x ∷ xs)) (all_by before.number (r ∷ []))) in
      let mine_is : before.mine ++ x ∷ (xs ++ r ∷ []) ≡ (before.mine ++ x ∷ xs) ++ r ∷ [] = sym (append_assoc before.mine (x ∷ xs) (r ∷ [])) in
      λ i. record { number = before.number; mine = mine_is i; seen = seen_is i; told = [] }

  its_then : (engine : EngineState) (made : List Record) → engine.history ≡ old.history ++ made → records (h ++ all_by before.number made) ≡ engine.history
  its_then engine made is = records_more h before.number made ∙ (ap (λ (rs : List Record). rs ++ made) its ∙ sym is)

  seen_then : (made : List Record) (r : Record) → (joined (made ++ r ∷ [])).seen ≡ h ++ all_by before.number (made ++ r ∷ [])
  seen_then [] r = refl
  seen_then (x ∷ xs) r = refl

  -- a record more joins the history
  joins_then : (engine : EngineState) (made : List Record) (r : Record) → IsRun engine → engine.setup ≡ setup → engine.history ≡ old.history ++ (made ++ r ∷ []) → Agrees h before →
      Joins setup (h ++ all_by before.number made) (joined made) (r ∷ []) (joined (made ++ r ∷ []))
  joins_then engine made r is same_then history a =
      let here = agrees_then a made in record {
        agreed = here;
        after_is = joined_more made r;
        agrees = subst (λ (c : CallerState). Agrees c.seen c) (sym (joined_more made r))
            (record { began = itself _; heard = none_told _; own = own_more (joined made).number (r ∷ []) (h ++ all_by before.number made) (joined made).mine here.own });
        legal = subst (LegalHistory setup) (sym (seen_then made r))
            (legal_run setup engine (h ++ all_by before.number (made ++ r ∷ [])) is same_then (its_then engine (made ++ r ∷ []) history));
      }

  -- the run goes on as that run in that engine, which made these records since
  record Went (now : EngineState) (at : RunState) (r0 : ℕ) : Type 0 where
    made : List Record
    history : now.history ≡ old.history ++ made
    setup_is : now.setup ≡ setup
    runs : IsRun now
    is_there : IsOut now.world at
    goes : Agrees h before → GoesOn setup run before at r0 (joined made)

  module _ (now after : EngineState) (at : RunState) (r0 : ℕ) (w : Went now at r0) (segment : SegmentState) where
    module _ (answer : AdvanceAnswer) (t : TakesOver now at segment answer after) where
      history_then : after.history ≡ old.history ++ (w.made ++ made_of at segment answer ∷ [])
      history_then = t.recorded.history ∙ (ap (λ (rs : List Record). rs ++ made_of at segment answer ∷ []) w.history ∙ append_assoc old.history w.made (made_of at segment answer ∷ []))

      joins_now : Agrees h before → Joins setup (h ++ all_by before.number w.made) (joined w.made) (made_of at segment answer ∷ []) (joined (w.made ++ made_of at segment answer ∷ []))
      joins_now = joins_then after w.made (made_of at segment answer) (is_run_more now after (made_of at segment answer) w.runs t.recorded) (t.recorded.setup ∙ w.setup_is) history_then

    section_goes : (again : RunState) (then : ℕ) (t : TakesOver now at segment (Goes again then) after) → Agrees h before →
        Section setup (Advance (stop_after at segment)) (replied.Success (given_advanced (Goes again then))) (joined w.made) (joined (w.made ++ made_of at segment (Goes again then) ∷ []))
    section_goes again then t a = record {
      found = now;
      left = after;
      run = w.runs;
      setup_is = w.setup_is;
      history = h ++ all_by before.number w.made;
      its = its_then now w.made w.history;
      answers = answers_of now after at segment (Goes again then) t w.is_there;
      tells = joins_now (Goes again then) t a;
    }

    section_ends : (then : ℕ) (t : TakesOver now at segment (Ended then) after) → Agrees h before →
        Section setup (Advance (stop_after at segment)) (replied.Success (given_advanced (Ended then))) (joined w.made) (joined (w.made ++ made_of at segment (Ended then) ∷ []))
    section_ends then t a = record {
      found = now;
      left = after;
      run = w.runs;
      setup_is = w.setup_is;
      history = h ++ all_by before.number w.made;
      its = its_then now w.made w.history;
      answers = answers_of now after at segment (Ended then) t w.is_there;
      tells = joins_now (Ended then) t a;
    }

    went_further : (again : RunState) (then : ℕ) → TakesOver now at segment (Goes again then) after → Went after again then
    went_further again then t = record {
      made = w.made ++ made_of at segment (Goes again then) ∷ [];
      history = history_then (Goes again then) t;
      setup_is = t.recorded.setup ∙ w.setup_is;
      runs = is_run_more now after (made_of at segment (Goes again then)) w.runs t.recorded;
      is_there = t.goes.2;
      goes = λ a. comes_on at again r0 then (stop_after at segment) (joined w.made) (joined (w.made ++ made_of at segment (Goes again then) ∷ [])) (w.goes a)
          (stop_is now after at segment (Goes again then) t) (section_goes again then t a);
    }

  went : IsOut old.world run → (now : EngineState) (there : RunState) (r0 : ℕ) → WentOn old run now there r0 → Went now there r0
  went out now there r0 begins = record {
    made = [];
    history = sym (append-nil old.history);
    setup_is = same;
    runs = lawful;
    is_there = out;
    goes = λ a. stands;
  }
  went out now there r0 (goes_on between after at again r0_there then segment so_far t) = went_further between after at r0_there (went out between at r0_there so_far) segment again then t

  -- memory was refused to its next advance
  lacks_memory : (now : EngineState) (at : RunState) (history : List Pair) (caller : CallerState) → IsRun now → now.setup ≡ setup → records history ≡ now.history → IsOut now.world at →
      Section setup (Advance (some_stop at)) (not_advanced OutOfMemory at) caller caller
  lacks_memory now at history caller is same_now its_now out = record {
    found = now;
    left = now;
    run = is;
    setup_is = same_now;
    history = history;
    its = its_now;
    answers = record { recorded = refl; fits = (refl, refl); fit = out; gives = tt };
    tells = refl;
  }

  module _ (new : EngineState) (after : CallerState) where
    -- what was published is what joined
    joined_is : (made : List Record) → 0 < length made → new.history ≡ old.history ++ made → Joins setup h before (beyond h new.history) after → joined made ≡ after
    joined_is made some is joins =
        let made_is : beyond h new.history ≡ made = beyond_is h new.history made (is ∙ ap (λ (rs : List Record). rs ++ made) (sym its)) in
        joined_some made some ∙ (ap (λ (rs : List Record). having_made h rs before) (sym made_is) ∙ sym joins.after_is)

    comes_to_exit : (r0 : ℕ) → IsOut old.world run → RunsToExit old run r0 new → Joins setup h before (beyond h new.history) after → ComesToExit setup run r0 before after
    comes_to_exit r0 out e joins =
        let w = went out e.between e.at e.before e.went in
        let told = made_of e.at e.segment (Ended r0) in
        let is : joined (w.made ++ told ∷ []) ≡ after = joined_is (w.made ++ told ∷ []) (more_than_none w.made told) (history_then e.between new e.at e.before w e.segment (Ended r0) e.last) joins in record {
          at = e.at;
          r0_there = e.before;
          between = joined w.made;
          goes = w.goes joins.agreed;
          stopped = stop_after e.at e.segment;
          its = stop_is e.between new e.at e.segment (Ended r0) e.last;
          exit = subst (λ (c : CallerState). Section setup (Advance (stop_after e.at e.segment)) (replied.Success (given_advanced (Ended r0))) (joined w.made) c) is
              (section_ends e.between new e.at e.before w e.segment r0 e.last joins.agreed);
        }

    -- it comes back where some records were made
    stops_short : (there : RunState) (r0 : ℕ) → IsOut old.world run → WentOn old run new there r0 → length old.history < length new.history → Joins setup h before (beyond h new.history) after →
        IsBack setup run (record { why = OutOfMemory; run = there; r0 = r0 }) before after
    stops_short there r0 out so_far some joins =
        let w = went out new there r0 so_far in
        let many : 0 < length w.made = omega (arith, some, ap length w.history, length-append old.history w.made) in
        let is : joined w.made ≡ after = joined_is w.made many w.history joins in record {
          between = after;
          goes = subst (GoesOn setup run before there r0) is (w.goes joins.agreed);
          first = tt;
          stopped = some_stop there;
          its = some_stop_is there;
          last = lacks_memory new there (h ++ all_by before.number w.made) after w.runs w.setup_is (its_then new w.made w.history) w.is_there;
        }

  -- it comes back where none was made
  stays_there : (new : EngineState) (there : RunState) (r0 : ℕ) → IsOut old.world run → WentOn old run new there r0 → length new.history ≤ length old.history →
      IsBack setup run (record { why = OutOfMemory; run = there; r0 = r0 }) before before
  stays_there new there r0 out so_far none =
      let u = unmoved old run new there r0 so_far none in
      subst (λ (y : RunState × ℕ). IsBack setup run (record { why = OutOfMemory; run = y.0; r0 = y.1 }) before before) (λ i. (sym u.there_is i, sym u.r0_is i))
      (record {
        between = before;
        goes = stands;
        first = tt;
        stopped = some_stop run;
        its = some_stop_is run;
        last = lacks_memory old run h before lawful same its out;
      })

  -- C4
  is_not_let : (there : RunState) (r0 : ℕ) (after : CallerState) → (IsOut old.world run → ⊥) → there ≡ run → r0 ≡ 0 → Looks setup h before after →
      IsBack setup run (record { why = NotOut; run = there; r0 = r0 }) before after
  is_not_let there r0 after not_out there_is r0_is looks =
      subst (λ (y : RunState × ℕ). IsBack setup run (record { why = NotOut; run = y.0; r0 = y.1 }) before after) (λ i. (sym there_is i, sym r0_is i))
      (record {
        between = before;
        goes = stands;
        first = refl;
        stopped = some_stop run;
        its = some_stop_is run;
        last = record {
          found = old;
          left = old;
          run = lawful;
          setup_is = same;
          history = h;
          its = its;
          answers = record { recorded = refl; fits = (refl, refl); fit = not_out; gives = tt };
          tells = looks;
        };
      })

  -- ---- by what the engine's call says

  module _ (new : EngineState) (after : CallerState) where
    back_published : (why : AdvanceFault) (there : RunState) (r0 : ℕ) → AdmitsUnlessTold why (IsOut old.world run) → ComesBack old run why there r0 new → length old.history < length new.history → Joins setup h before (beyond h new.history) after →
        IsBack setup run (record { why = why; run = there; r0 = r0 }) before after
    back_published NotOut there r0 admits came some joins = absurd (omega (arith, some, ap (λ (e : EngineState). length e.history) came.2))
    back_published OutOfMemory there r0 admits came some joins = stops_short new after there r0 admits came some joins

    pub published : (result : Result ℕ DriveFault) → IfOk result (λ r0. RunsToExit old run r0 new) → MatchResult result (λ r0. IsOut old.world run) (λ fault. AdmitsUnlessTold fault.why (IsOut old.world run)) →
        IfErr result (λ fault. ComesBack old run fault.why fault.run fault.r0 new) → length old.history < length new.history → Joins setup h before (beyond h new.history) after → Drives setup run result before after
    published (Ok r0) ended admits came some joins = comes_to_exit new after r0 admits ended joins
    published (Err fault) ended admits came some joins = back_published fault.why fault.run fault.r0 admits came some joins

    back_looked : (why : AdvanceFault) (there : RunState) (r0 : ℕ) → AdmitsUnlessTold why (IsOut old.world run) → ComesBack old run why there r0 new → is_not_out (Err (record { why = why; run = there; r0 = r0 })) ≡ true → Looks setup h before after →
        IsBack setup run (record { why = why; run = there; r0 = r0 }) before after
    back_looked NotOut there r0 admits came is looks = is_not_let there r0 after admits came.0 came.1 looks
    back_looked OutOfMemory there r0 admits came is looks = absurd (let bad : false ≡ true = is in cc)

    pub looked : (result : Result ℕ DriveFault) → MatchResult result (λ r0. IsOut old.world run) (λ fault. AdmitsUnlessTold fault.why (IsOut old.world run)) →
        IfErr result (λ fault. ComesBack old run fault.why fault.run fault.r0 new) → is_not_out result ≡ true → Looks setup h before after → Drives setup run result before after
    looked (Ok r0) admits came is looks = absurd (let bad : false ≡ true = is in cc)
    looked (Err fault) admits came is looks = back_looked fault.why fault.run fault.r0 admits came is looks

    back_unchanged : (why : AdvanceFault) (there : RunState) (r0 : ℕ) → AdmitsUnlessTold why (IsOut old.world run) → ComesBack old run why there r0 new → is_not_out (Err (record { why = why; run = there; r0 = r0 })) ≡ false → length new.history ≤ length old.history →
        IsBack setup run (record { why = why; run = there; r0 = r0 }) before before
    back_unchanged NotOut there r0 admits came is none = absurd (let bad : true ≡ false = is in cc)
    back_unchanged OutOfMemory there r0 admits came is none = stays_there new there r0 admits came none

    pub unchanged : (result : Result ℕ DriveFault) → IfOk result (λ r0. RunsToExit old run r0 new) → MatchResult result (λ r0. IsOut old.world run) (λ fault. AdmitsUnlessTold fault.why (IsOut old.world run)) →
        IfErr result (λ fault. ComesBack old run fault.why fault.run fault.r0 new) → is_not_out result ≡ false → length new.history ≤ length old.history → Drives setup run result before before
    unchanged (Ok r0) ended admits came is none =
        absurd (omega (arith, none, longer_by ended.between new _ ended.last.recorded, no_shorter old ended.between (grown_on old run ended.between ended.at ended.before ended.went)))
    unchanged (Err fault) ended admits came is none = back_unchanged fault.why fault.run fault.r0 admits came is none

  -- ---- all of it at once

  -- what was published is told, however the run ended
  tells_some : (why : AdvanceFault) (made : List Record) (after : CallerState) → 0 < length made → Joins setup h before made after → TellsBack setup h why made before after
  tells_some why [] after some joins = absurd (omega (arith, some))
  tells_some why (r ∷ rs) after some joins = joins

  tells_joined : (result : Result ℕ DriveFault) (made : List Record) (after : CallerState) → 0 < length made → Joins setup h before made after → TellsDriven setup h result made before after
  tells_joined (Ok r0) made after some joins = joins
  tells_joined (Err fault) made after some joins = tells_some fault.why made after some joins

  looks_after : (why : AdvanceFault) (after : CallerState) → tells_not_out why ≡ true → Looks setup h before after → TellsNone setup h why before after
  looks_after NotOut after is looks = looks
  looks_after OutOfMemory after is looks = absurd (let bad : false ≡ true = is in cc)

  tells_looked : (result : Result ℕ DriveFault) (after : CallerState) → is_not_out result ≡ true → Looks setup h before after → TellsDriven setup h result [] before after
  tells_looked (Ok r0) after is looks = absurd (let bad : false ≡ true = is in cc)
  tells_looked (Err fault) after is looks = looks_after fault.why after is looks

  stays_after : (why : AdvanceFault) → tells_not_out why ≡ false → TellsNone setup h why before before
  stays_after NotOut is = absurd (let bad : true ≡ false = is in cc)
  stays_after OutOfMemory is = refl

  tells_unchanged : (result : Result ℕ DriveFault) (new : EngineState) → IfOk result (λ r0. RunsToExit old run r0 new) → is_not_out result ≡ false → length new.history ≤ length old.history → TellsDriven setup h result [] before before
  tells_unchanged (Ok r0) new ended is none =
      absurd (omega (arith, none, longer_by ended.between new _ ended.last.recorded, no_shorter old ended.between (grown_on old run ended.between ended.at ended.before ended.went)))
  tells_unchanged (Err fault) new ended is none = stays_after fault.why is

  -- what stands under the lock
  abbrev locked : EngineState → List Pair → ℕ → LockedState
  locked engine history given = record { engine = engine; history = history; given = given }

  module _ (new : EngineState) (result : Result ℕ DriveFault) (e : EngineDrives old run result new) (was given : ℕ) where
    more : Grown old new
    more = grown old new run result e.ended e.back

    -- all that is beyond what is known was published
    pub published_once : (now : List Pair) (after : CallerState) → now ≡ h ++ all_by before.number (beyond h new.history) → length old.history < length new.history → Joins setup h before (beyond h new.history) after →
        DrivesOn setup run result (locked old h was) (locked new now given) before after
    published_once now after now_is some joins =
        let many : 0 < length (beyond h new.history) = omega (arith, some, length_beyond h old new its more) in record {
          is_run = lawful;
          setup_is = same;
          its = its;
          engine = e;
          made = beyond h new.history;
          recorded = drive_beyond h old new its more ∙ ap (λ (rs : List Record). rs ++ beyond h new.history) its;
          history = now_is;
          mine = ap (λ (c : CallerState). c.mine) joins.after_is;
          tells = tells_joined result (beyond h new.history) after many joins;
        }

    -- nothing was recorded
    nothing_more : (now : List Pair) (after : CallerState) → now ≡ h → length new.history ≤ length old.history → after.mine ≡ before.mine → TellsDriven setup h result [] before after →
        DrivesOn setup run result (locked old h was) (locked new now given) before after
    nothing_more now after now_is none mine tells = record {
      is_run = lawful;
      setup_is = same;
      its = its;
      engine = e;
      made = [];
      recorded = no_more old new more none ∙ sym (append-nil old.history);
      history = now_is ∙ sym (append-nil h);
      mine = mine ∙ sym (append-nil before.mine);
      tells = tells;
    }

    pub looked_once : (now : List Pair) (after : CallerState) → now ≡ h → length new.history ≤ length old.history → is_not_out result ≡ true → Looks setup h before after →
        DrivesOn setup run result (locked old h was) (locked new now given) before after
    looked_once now after now_is none is looks = nothing_more now after now_is none (ap (λ (c : CallerState). c.mine) looks.after_is) (tells_looked result after is looks)

    pub unchanged_once : length new.history ≤ length old.history → is_not_out result ≡ false → DrivesOn setup run result (locked old h was) (locked new h given) before before
    unchanged_once none is = nothing_more h before refl none refl (tells_unchanged result new e.ended is none)

-- what is said of what the lock and the caller have inside is said of what contracts see of them
pub seen_so : (setup : Setup) (run : RunState) (result : Result ℕ DriveFault) (inside seen now : LockedState) (part before after : CallerState) → inside ≡ seen → part ≡ before → DrivesOn setup run result inside now part after → DrivesOn setup run result seen now before after
seen_so setup run result inside seen now part before after is its d =
    subst (λ (l : LockedState). DrivesOn setup run result l now before after) is (subst (λ (b : CallerState). DrivesOn setup run result inside now b after) its d)

-- ---- the lock's own knowledge

pub since_driven : (setup : Setup) (begun : List Record) (calls made : ℕ) (old new : EngineState) → IsSince setup begun calls old → Grown old new → length new.history ≡ length old.history + made → IsRun new → IsSince setup begun (calls + made) new
since_driven setup begun calls made old new s g many run = record {
  run = run;
  setup_is = g.setup_is ∙ s.setup_is;
  untaken = g.taken ∙ s.untaken;
  since = s.since ++ g.made;
  history = g.history ∙ (ap (λ (rs : List Record). rs ++ g.made) s.history ∙ append_assoc begun s.since g.made);
  count = omega (arith, length-append s.since g.made, s.count, ap length g.history, length-append old.history g.made, many);
}

pub since_same : (setup : Setup) (begun : List Record) (calls : ℕ) (old new : EngineState) → IsSince setup begun calls old → Grown old new → new.history ≡ old.history → IsRun new → IsSince setup begun calls new
since_same setup begun calls old new s g same run = record {
  run = run;
  setup_is = g.setup_is ∙ s.setup_is;
  untaken = g.taken ∙ s.untaken;
  since = s.since;
  history = same ∙ s.history;
  count = s.count;
}

-- the engine's sums tell how many records it made
pub counted : (old new : EngineState) (was now : Totals) → Grown old new → was ≡ totals_in old.history old.world → now ≡ totals_in new.history new.world → length new.history ≡ length old.history + (now.history - was.history)
counted old new was now g was_is now_is = omega (arith, no_shorter old new g, ap (λ (t : Totals). t.history) was_is, ap (λ (t : Totals). t.history) now_is)

pub counts_up : (old new : EngineState) (was now : Totals) → Grown old new → was ≡ totals_in old.history old.world → now ≡ totals_in new.history new.world → was.history ≤ now.history
counts_up old new was now g was_is now_is = omega (arith, no_shorter old new g, ap (λ (t : Totals). t.history) was_is, ap (λ (t : Totals). t.history) now_is)

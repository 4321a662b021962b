-- Each step keeps the limits.
use Rattle.std.proofs.Common.{◌≡◌, ℕ, ◌+◌, ◌<◌, ◌≤◌, List, [], ◌∷◌, ◌++◌, length, length-append, Bool, false, not, cond, eqb, Option, Some, None, inl, inr, refl, ap, sym, subst, ◌∙◌, arith}
use Rattle.std.specs.Prelude.{IfSome}
use Rattle.std.specs.List.{count_by, filter}
use Rattle.std.proofs.lemmas.Bool.{cases_Bool, leb-false, or_parts, cases_eq, eq-eqb, ne_eqb}
use Rattle.std.proofs.lemmas.List.Elements.{All-push, All-filter}
use Rattle.std.proofs.lemmas.List.Sums.{sum_by_push, length-filter, count_by-le-length}
use Rattle.ccb.specs.Ccb.{submitted}
use Rattle.ccb.specs.declared.place.Place.{Place}
use Rattle.ccb.specs.Places.{is_place}
use Rattle.freeze_ledger.specs.declared.freeze.Freeze.{Freeze}
use Rattle.freeze_ledger.specs.Freezes.{frozen, names, meets_limit}
use Rattle.world.specs.declared.ccb_state.CcbState.TheVariants.{Waiting}
use Rattle.world.specs.World.{Setup, queue_count, queue_setup, LiveCcb, LiveRun, World, beginning, beginning_of, opening}
use Rattle.world.specs.Beginning.{Begins, IsBeginning}
use Rattle.world.specs.Lookups.{is_of, live_count, with_ccb}
use Rattle.world.specs.Event.{Event, Reply}
use Rattle.world.specs.CcbSteps.{ccb_meets_limit}
use Rattle.world.specs.Refusals.{is_unknown}
use Rattle.world.specs.Step.{WorldStep}
use Rattle.world.specs.Lawful.{IsLawful}
use Rattle.world.specs.Limits.{IsPlain, FreezeLimits, CcbLimits, RunLimits, KeepsLimits}
use Rattle.world.proofs.Lists.Found.{put, leave, put_keys}
use Rattle.world.proofs.Lists.Rising.{rising_push, rising_filter, rising_leave, count_put, count_filter, count_leave}
use Rattle.world.proofs.Lists.Each.{all_found, all_put, put_length}
use Rattle.world.proofs.Lists.Entries.{freeze_key, same_frozen, frozen_push}
use Rattle.world.proofs.Steps.Answering.{answers_kept, opening_answers}
use Rattle.world_laws.proofs.Steps.Cases.{Case, case_of}
use Rattle.world.proofs.Steps.Moves.{KeepsLists, lists_of, ccb_key, run_key, CcbMove, ccbs_stay, ccb_enters, ccb_changes, ccb_leaves, FreezeMove, freezes_stay, freeze_enters, freezes_leave, freeze_changes, RunMove, runs_stay, run_enters, run_changes, run_leaves}
use Rattle.world_laws.proofs.Steps.Effects.{effect_of}

-- below every limit of freezes
pub record HasRoom (place : Place) (freezes : List Freeze) (greatest : ℕ) : Type 0 where
  pub a_place : frozen place freezes < 255
  pub ledger : length freezes < 1024
  pub numbers : greatest < 4294967295

pub room_from : (place : Place) (freezes : List Freeze) (greatest : ℕ) → meets_limit place freezes greatest ≡ false → HasRoom place freezes greatest
room_from place freezes greatest e =
    let outer = or_parts _ _ e in
    let inner = or_parts _ _ outer.0 in
    record { a_place = leb-false _ _ inner.0; ledger = leb-false _ _ inner.1; numbers = leb-false _ _ outer.1 }

-- what a freeze names is there
abbrev IsThere : Setup → Freeze → Type 0
IsThere setup freeze = is_unknown setup freeze.place ≡ false

-- what the limits of freezes speak of
abbrev FreezesWithin : Setup → List Freeze → ℕ → Type 0
FreezesWithin setup freezes greatest = FreezeLimits setup (record (opening setup) { transport = record (opening setup).transport { freezes = freezes; greatest_freeze = greatest } })

freezes_from : (setup : Setup) (world : World) (freezes : List Freeze) (greatest : ℕ) → world.transport.freezes ≡ freezes → world.transport.greatest_freeze ≡ greatest → FreezesWithin setup freezes greatest → FreezeLimits setup world
freezes_from setup world freezes greatest e g kept =
    record {
      places = λ agreed. rw e (kept.places agreed);
      a_place = λ q. rw e (kept.a_place q);
      ledger = rw e kept.ledger;
      numbered = rw (e, g) kept.numbered;
      numbers = rw g kept.numbers;
    }

pub freezes_kept : (setup : Setup) (before : World) (event : Event) (after : World) → FreezeMove setup before event after → FreezeLimits setup before → FreezeLimits setup after
freezes_kept setup before event after (freezes_stay e g) kept =
    freezes_from setup after before.transport.freezes before.transport.greatest_freeze e g (record { places = kept.places; a_place = kept.a_place; ledger = kept.ledger; numbered = kept.numbered; numbers = kept.numbers })
freezes_kept setup before event after (freeze_enters place holder known full e g comes) kept =
    let f : Freeze = record { number = before.transport.greatest_freeze + 1; place = place; holder = holder } in
    let room = room_from place before.transport.freezes before.transport.greatest_freeze full in
    let one_more : (q : Place) → frozen q before.transport.freezes + cond {A = ℕ} (is_place place q) 1 0 ≤ 255 = λ q. elim (cases_Bool (is_place place q)) [
      | inl same ↦ let here = same_frozen place q before.transport.freezes same in rw same (omega (arith, here, room.a_place))
      | inr apart ↦ rw apart (omega (arith, kept.a_place q))
    ] in
    freezes_from setup after (before.transport.freezes ++ f ∷ []) (before.transport.greatest_freeze + 1) e g (record {
      places = λ agreed. All-push (IsThere setup) before.transport.freezes f (kept.places agreed) (known agreed);
      a_place = λ q. omega (arith, frozen_push q before.transport.freezes f, one_more q);
      ledger = omega (arith, room.ledger, length-append before.transport.freezes (f ∷ []));
      numbered = rising_push freeze_key 0 before.transport.freezes before.transport.greatest_freeze f kept.numbered refl;
      numbers = omega (arith, room.numbers);
    })
freezes_kept setup before event after (freezes_leave gone e g from) kept =
    let stays : Freeze → Bool = λ x. not (gone x) in
    freezes_from setup after (filter stays before.transport.freezes) before.transport.greatest_freeze e g (record {
      places = λ agreed. All-filter stays (IsThere setup) before.transport.freezes (kept.places agreed);
      a_place = λ q. omega (arith, kept.a_place q, count_filter freeze_key (names q) stays before.transport.freezes);
      ledger = omega (arith, kept.ledger, length-filter stays before.transport.freezes, count_by-le-length stays before.transport.freezes);
      numbered = rising_filter freeze_key stays 0 before.transport.freezes before.transport.greatest_freeze kept.numbered;
      numbers = kept.numbers;
    })
freezes_kept setup before event after (freeze_changes old new found place_is e g hands) kept =
    let named : (q : Place) → names q new ≡ names q old = λ q. ap (λ (x : Place). is_place x q) place_is in
    freezes_from setup after (put freeze_key new before.transport.freezes) before.transport.greatest_freeze e g (record {
      places = λ agreed.
          let known : IsThere setup new = rw place_is (all_found freeze_key (IsThere setup) new.number before.transport.freezes old (kept.places agreed) found) in
          all_put freeze_key (IsThere setup) new before.transport.freezes known (kept.places agreed);
      a_place = λ q. omega (arith, kept.a_place q, count_put freeze_key (names q) 0 before.transport.freezes before.transport.greatest_freeze new old kept.numbered found, ap (λ (b : Bool). cond {A = ℕ} b 1 0) (named q));
      ledger = omega (arith, kept.ledger, put_length freeze_key new before.transport.freezes);
      numbered = rw (put_keys freeze_key new before.transport.freezes) kept.numbered;
      numbers = kept.numbers;
    })

-- what the limits of CCBs speak of
abbrev CcbsWithin : Setup → List LiveCcb → ℕ → Type 0
CcbsWithin setup live greatest = CcbLimits setup (record (opening setup) { transport = record (opening setup).transport { live = live; greatest_ccb = greatest } })

ccbs_from : (setup : Setup) (world : World) (live : List LiveCcb) (greatest : ℕ) → world.transport.live ≡ live → world.transport.greatest_ccb ≡ greatest → CcbsWithin setup live greatest → CcbLimits setup world
ccbs_from setup world live greatest e g kept =
    record {
      queues = rw e kept.queues;
      plain = λ none. rw e (kept.plain none);
      a_queue = λ q. rw e (kept.a_queue q);
      all = rw e kept.all;
      rising = rw (e, g) kept.rising;
      numbers = rw g kept.numbers;
    }

-- below every limit of CCBs
record CcbRoom (queue : ℕ) (world : World) : Type 0 where
  a_queue : live_count queue world.transport.live < 256
  all : length world.transport.live < 4096
  numbers : world.transport.greatest_ccb < 4294967295

ccb_room : (queue : ℕ) (world : World) → ccb_meets_limit queue world ≡ false → CcbRoom queue world
ccb_room queue world e =
    let outer = or_parts _ _ e in
    let inner = or_parts _ _ outer.0 in
    record { a_queue = leb-false _ _ inner.0; all = leb-false _ _ inner.1; numbers = leb-false _ _ outer.1 }

pub ccbs_kept : (setup : Setup) (before : World) (event : Event) (reply : Reply) (after : World) → CcbMove setup before event reply after → CcbLimits setup before → CcbLimits setup after
ccbs_kept setup before event reply after (ccbs_stay e g unended) kept =
    ccbs_from setup after before.transport.live before.transport.greatest_ccb e g (record { queues = kept.queues; plain = kept.plain; a_queue = kept.a_queue; all = kept.all; rising = kept.rising; numbers = kept.numbers })
ccbs_kept setup before event reply after (ccb_enters queue priority retries class unclassed known full e g unended) kept =
    let c : LiveCcb = record { ccb = submitted (record { 0 = before.transport.greatest_ccb + 1 }) queue priority retries class; state = Waiting } in
    let room = ccb_room queue.0 before full in
    let one_more : (q : ℕ) → live_count q before.transport.live + cond {A = ℕ} (eqb queue.0 q) 1 0 ≤ 256 = λ q. elim (cases_eq queue.0 q) [
      | inl same ↦ let here : live_count q before.transport.live < 256 = subst (λ (x : ℕ). live_count x before.transport.live < 256) same room.a_queue in rw (eq-eqb queue.0 q same) (omega arith)
      | inr apart ↦ rw (ne_eqb queue.0 q apart) (omega (arith, kept.a_queue q))
    ] in
    ccbs_from setup after (before.transport.live ++ c ∷ []) (before.transport.greatest_ccb + 1) e g (record {
      queues = All-push (λ (x : LiveCcb). x.ccb.queue.0 < queue_count setup) before.transport.live c kept.queues known;
      plain = λ none. All-push IsPlain before.transport.live c (kept.plain none) (unclassed none, refl);
      a_queue = λ q. omega (arith, sum_by_push (λ (x : LiveCcb). cond (is_of q x) 1 0) before.transport.live c, one_more q);
      all = omega (arith, room.all, length-append before.transport.live (c ∷ []));
      rising = rising_push ccb_key 0 before.transport.live before.transport.greatest_ccb c kept.rising refl;
      numbers = omega (arith, room.numbers);
    })
ccbs_kept setup before event reply after (ccb_changes old new plain found queue_is active_or_not may e g unended) kept =
    let of_old : (q : ℕ) → is_of q new ≡ is_of q old = λ q. ap (λ (x : ℕ). eqb x q) queue_is in
    let known : new.ccb.queue.0 < queue_count setup = rw queue_is (all_found ccb_key (λ (x : LiveCcb). x.ccb.queue.0 < queue_count setup) new.ccb.number.0 before.transport.live old kept.queues found) in
    let moved : (p : LiveCcb → Bool) → count_by p (with_ccb new before.transport.live) + cond (p old) 1 0 ≡ count_by p before.transport.live + cond (p new) 1 0 = λ p.
    count_put ccb_key p 0 before.transport.live before.transport.greatest_ccb new old kept.rising found in
    ccbs_from setup after (with_ccb new before.transport.live) before.transport.greatest_ccb e g (record {
      queues = all_put ccb_key (λ (x : LiveCcb). x.ccb.queue.0 < queue_count setup) new before.transport.live known kept.queues;
      plain = λ none. all_put ccb_key IsPlain new before.transport.live (plain none (all_found ccb_key IsPlain new.ccb.number.0 before.transport.live old (kept.plain none) found)) (kept.plain none);
      a_queue = λ q.
          let same : cond {A = ℕ} (is_of q new) 1 0 ≡ cond (is_of q old) 1 0 = ap (λ (b : Bool). cond {A = ℕ} b 1 0) (of_old q) in
          omega (arith, moved (is_of q), same, kept.a_queue q);
      all = omega (arith, put_length ccb_key new before.transport.live, kept.all);
      rising = rw (put_keys ccb_key new before.transport.live) kept.rising;
      numbers = kept.numbers;
    })
ccbs_kept setup before event reply after (ccb_leaves number code old found may e g one) kept =
    ccbs_from setup after (leave ccb_key number before.transport.live) before.transport.greatest_ccb e g (record {
      queues = All-filter (λ (x : LiveCcb). not (eqb x.ccb.number.0 number)) (λ (x : LiveCcb). x.ccb.queue.0 < queue_count setup) before.transport.live kept.queues;
      plain = λ none. All-filter (λ (x : LiveCcb). not (eqb x.ccb.number.0 number)) IsPlain before.transport.live (kept.plain none);
      a_queue = λ q. omega (arith, kept.a_queue q, count_leave ccb_key (is_of q) before.transport.live number);
      all = omega (arith, kept.all, length-filter (λ (x : LiveCcb). not (eqb x.ccb.number.0 number)) before.transport.live, count_by-le-length (λ (x : LiveCcb). not (eqb x.ccb.number.0 number)) before.transport.live);
      rising = rising_leave ccb_key 0 before.transport.live before.transport.greatest_ccb number kept.rising;
      numbers = kept.numbers;
    })

-- what the limits of runs speak of
abbrev RunsWithin : Setup → List LiveRun → ℕ → Type 0
RunsWithin setup runs greatest = RunLimits setup (record (opening setup) { runs = record (opening setup).runs { list = runs; greatest = greatest } })

runs_from : (setup : Setup) (world : World) (runs : List LiveRun) (greatest : ℕ) → world.runs.list ≡ runs → world.runs.greatest ≡ greatest → RunsWithin setup runs greatest → RunLimits setup world
runs_from setup world runs greatest e g kept =
    record { queues = rw e kept.queues; controllers = rw e kept.controllers; programs = rw e kept.programs; all = rw e kept.all; rising = rw (e, g) kept.rising; numbers = rw g kept.numbers }

abbrev IsKnown : Setup → LiveRun → Type 0
IsKnown setup run = run.queue < queue_count setup

abbrev IsUnder : Setup → LiveRun → Type 0
IsUnder setup run = run.controller ≡ (queue_setup setup run.queue).controller

abbrev IsOfProgram : Setup → LiveRun → Type 0
IsOfProgram setup run = run.program ≡ (queue_setup setup run.queue).program

pub runs_kept : (setup : Setup) (before : World) (event : Event) (reply : Reply) (after : World) → RunMove setup before event reply after → RunLimits setup before → RunLimits setup after
runs_kept setup before event reply after (runs_stay e g quiet) kept =
    runs_from setup after before.runs.list before.runs.greatest e g (record { queues = kept.queues; controllers = kept.controllers; programs = kept.programs; all = kept.all; rising = kept.rising; numbers = kept.numbers })
runs_kept setup before event reply after (run_enters run begins known full g) kept =
    let number : run.number ≡ before.runs.greatest + 1 = ap (λ (r : LiveRun). r.number) begins.run_is in
    let program : IsOfProgram setup run = ap (λ (r : LiveRun). r.program) begins.run_is ∙ sym (ap (λ (r : LiveRun). (queue_setup setup r.queue).program) begins.run_is) in
    let under : IsUnder setup run = ap (λ (r : LiveRun). r.controller) begins.run_is ∙ sym (ap (λ (r : LiveRun). (queue_setup setup r.queue).controller) begins.run_is) in
    let parts = or_parts _ _ full in
    let most : length before.runs.list < 256 = leb-false _ _ parts.0 in
    let left : before.runs.greatest < 4294967295 = leb-false _ _ parts.1 in
    runs_from setup after (before.runs.list ++ run ∷ []) (before.runs.greatest + 1) begins.runs_is g (record {
      queues = All-push (IsKnown setup) before.runs.list run kept.queues known;
      controllers = All-push (IsUnder setup) before.runs.list run kept.controllers under;
      programs = All-push (IsOfProgram setup) before.runs.list run kept.programs program;
      all = omega (arith, most, length-append before.runs.list (run ∷ []));
      rising = rising_push run_key 0 before.runs.list before.runs.greatest run kept.rising number;
      numbers = omega (arith, left);
    })
runs_kept setup before event reply after (run_changes old new found queue_is controller_is program_is e g quiet its) kept =
    let known : IsKnown setup old = all_found run_key (IsKnown setup) new.number before.runs.list old kept.queues found in
    let under : IsUnder setup old = all_found run_key (IsUnder setup) new.number before.runs.list old kept.controllers found in
    let program : IsOfProgram setup old = all_found run_key (IsOfProgram setup) new.number before.runs.list old kept.programs found in
    runs_from setup after (put run_key new before.runs.list) before.runs.greatest e g (record {
      queues = all_put run_key (IsKnown setup) new before.runs.list (rw queue_is known) kept.queues;
      controllers = all_put run_key (IsUnder setup) new before.runs.list (rw (queue_is, controller_is) under) kept.controllers;
      programs = all_put run_key (IsOfProgram setup) new before.runs.list (rw (queue_is, program_is) program) kept.programs;
      all = omega (arith, put_length run_key new before.runs.list, kept.all);
      rising = rw (put_keys run_key new before.runs.list) kept.rising;
      numbers = kept.numbers;
    })
runs_kept setup before event reply after (run_leaves run found e g quiet its) kept =
    runs_from setup after (leave run_key run.number before.runs.list) before.runs.greatest e g (record {
      queues = All-filter (λ (x : LiveRun). not (eqb x.number run.number)) (IsKnown setup) before.runs.list kept.queues;
      controllers = All-filter (λ (x : LiveRun). not (eqb x.number run.number)) (IsUnder setup) before.runs.list kept.controllers;
      programs = All-filter (λ (x : LiveRun). not (eqb x.number run.number)) (IsOfProgram setup) before.runs.list kept.programs;
      all = omega (arith, kept.all, length-filter (λ (x : LiveRun). not (eqb x.number run.number)) before.runs.list, count_by-le-length (λ (x : LiveRun). not (eqb x.number run.number)) before.runs.list);
      rising = rising_leave run_key 0 before.runs.list before.runs.greatest run.number kept.rising;
      numbers = kept.numbers;
    })

-- the limits of the lists
pub case_keeps : (setup : Setup) (before : World) (event : Event) (reply : Reply) (after : World) → Case setup before event reply after → KeepsLists setup before → KeepsLists setup after
case_keeps setup before event reply after it kept =
    let effect = effect_of setup before event reply after kept it in
    record {
      freezes = freezes_kept setup before event after effect.freezes kept.freezes;
      ccbs = ccbs_kept setup before event reply after effect.ccbs kept.ccbs;
      runs = runs_kept setup before event reply after effect.runs kept.runs;
    }

pub step_keeps : (setup : Setup) (before : World) (event : Event) (reply : Reply) (after : World) → WorldStep setup before event reply after → KeepsLists setup before → KeepsLists setup after
step_keeps setup before event reply after e kept = case_keeps setup before event reply after (case_of setup before event reply after e) kept

-- and all limits
pub case_keeps_limits : (setup : Setup) (before : World) (event : Event) (reply : Reply) (after : World) → Case setup before event reply after → KeepsLimits setup before → KeepsLimits setup after
case_keeps_limits setup before event reply after it kept =
    let lists = case_keeps setup before event reply after it (lists_of kept) in
    record {
      freezes = lists.freezes;
      ccbs = lists.ccbs;
      runs = lists.runs;
      answers = answers_kept setup before after (effect_of setup before event reply after (lists_of kept) it).answers kept.answers;
    }

pub opening_keeps : (setup : Setup) → KeepsLists setup (opening setup)
opening_keeps setup =
    record {
      freezes = record { places = λ agreed k d below. absurd (omega arith); a_place = λ q. omega arith; ledger = omega arith; numbered = omega arith; numbers = omega arith };
      ccbs = record { queues = λ k d below. absurd (omega arith); plain = λ none k d below. absurd (omega arith); a_queue = λ q. omega arith; all = omega arith; rising = omega arith; numbers = omega arith };
      runs = record { queues = λ k d below. absurd (omega arith); controllers = λ k d below. absurd (omega arith); programs = λ k d below. absurd (omega arith); all = omega arith; rising = omega arith; numbers = omega arith };
    }

pub opening_keeps_limits : (setup : Setup) → IsLawful setup → KeepsLimits setup (opening setup)
opening_keeps_limits setup lawful =
    let lists = opening_keeps setup in
    record { freezes = lists.freezes; ccbs = lists.ccbs; runs = lists.runs; answers = opening_answers setup lawful }

-- the world in which an engine begins
pub beginning_keeps : (setup : Setup) → Begins setup → KeepsLists setup (beginning setup)
beginning_keeps setup begins = of_taken_over setup.carried begins
  where
    of_taken_over : (carried : Option World) → IfSome carried (IsBeginning setup) → KeepsLists setup (beginning_of setup carried)
    of_taken_over None begins = opening_keeps setup
    of_taken_over (Some world) begins = lists_of begins.limits

pub beginning_keeps_limits : (setup : Setup) → IsLawful setup → Begins setup → KeepsLimits setup (beginning setup)
beginning_keeps_limits setup lawful begins = of_taken_over setup.carried begins
  where
    of_taken_over : (carried : Option World) → IfSome carried (IsBeginning setup) → KeepsLimits setup (beginning_of setup carried)
    of_taken_over None begins = opening_keeps_limits setup lawful
    of_taken_over (Some world) begins = begins.limits

-- What the lines so far say is within all limits: before the first line, with each that may come next, and with the numbers at the end.
use Rattle.std.proofs.Common.{◌≡◌, ℕ, zero, suc, ◌+◌, ◌<◌, ◌≤◌, ◌^◌, ◌⊎◌, List, [], ◌∷◌, ◌++◌, length, length-append, map, Bool, true, false, not, ◌&&◌, ◌||◌, cond, eqb, leb, Option, Some, None, inl, inr, refl, sym, subst, ◌∙◌, arith}
use Rattle.std.proofs.lemmas.Bool.{and_from, and_parts, cases_Bool, cases_eq, eq-eqb, eqb-true, ne_eqb, leb-false, or_left, or_right}
use Rattle.std.specs.Prelude.{All}
use Rattle.std.proofs.lemmas.List.Elements.{All-nil, All-push}
use Rattle.std.proofs.lemmas.List.Sums.{sum_by_push}
use Rattle.ccb.specs.Rising.{AreRising}
use Rattle.ccb.specs.declared.place.Place.{Place}
use Rattle.ccb.specs.Places.{is_place}
use Rattle.ccb.specs.declared.call_refusal.CallRefusal.{CallRefusal}
use Rattle.ccb.specs.declared.call_refusal.CallRefusal.TheVariants.{Limit, Unknown}
use Rattle.freeze_ledger.specs.declared.freeze.Freeze.{Freeze}
use Rattle.freeze_ledger.specs.Freezes.{frozen}
use Rattle.table_store.proofs.Firsts.{all_with, lengths_with, zeros_with}
use Rattle.world_calls.specs.declared.carried_line.CarriedCcb.{CarriedCcb}
use Rattle.world_calls.specs.declared.carried_line.CarriedLine.TheVariants as lines
use Rattle.world.specs.Beginning.{IsBeginning, IsCarriedCcb, IsCarriedFreeze}
use Rattle.world.specs.Lawful.{IsLawful}
use Rattle.world.specs.Limits.{AnswerLimits, CcbLimits, FreezeLimits, IsPlain, KeepsLimits, RunLimits}
use Rattle.world.specs.Lookups.{is_of, live_count}
use Rattle.world.specs.Refusals.{is_unknown}
use Rattle.world.specs.World.{LiveCcb, Setup, Transport, World, has_classes, opening, queue_count}
use Rattle.world.specs.declared.ccb_state.CcbState.TheVariants.{Active, Waiting}
use Rattle.world.proofs.Lists.Entries.{freeze_key, frozen_push, same_frozen}
use Rattle.world.proofs.Lists.Rising.{rising_push}
use Rattle.world.proofs.Steps.Answering.{AnswerMove, answers_kept, openings_change, openings_stay, tables_stay, word_changes}
use Rattle.world.proofs.Steps.Moves.{ccb_key}
use Rattle.world_laws.proofs.Kept.{opening_keeps_limits, room_from}
use Rattle.engine_transport.specs.Carrying.{carried_of, carried_state}
use Rattle.engine_transport.proofs.Listed.{rises_up}
use Rattle.engine_beginning.specs.Begun.{BegunState, KeepsBegun, MayFollow, begun, finished, has_fit_words, so_far, with_line}

-- ---- a part that stays

freezes_stay : (setup : Setup) (before after : World) → after.transport.freezes ≡ before.transport.freezes → after.transport.greatest_freeze ≡ before.transport.greatest_freeze → FreezeLimits setup before → FreezeLimits setup after
freezes_stay setup before after e g kept = record {
  places = λ agreed. rw e (kept.places agreed);
  a_place = λ place. rw e (kept.a_place place);
  ledger = rw e kept.ledger;
  numbered = rw (e, g) kept.numbered;
  numbers = rw g kept.numbers;
}

ccbs_stay : (setup : Setup) (before after : World) → after.transport.live ≡ before.transport.live → after.transport.greatest_ccb ≡ before.transport.greatest_ccb → CcbLimits setup before → CcbLimits setup after
ccbs_stay setup before after e g kept = record {
  queues = rw e kept.queues;
  plain = λ without. rw e (kept.plain without);
  a_queue = λ queue. rw e (kept.a_queue queue);
  all = rw e kept.all;
  rising = rw (e, g) kept.rising;
  numbers = rw g kept.numbers;
}

runs_stay : (setup : Setup) (before after : World) → after.runs.list ≡ before.runs.list → after.runs.greatest ≡ before.runs.greatest → RunLimits setup before → RunLimits setup after
runs_stay setup before after e g kept = record { queues = rw e kept.queues; controllers = rw e kept.controllers; programs = rw e kept.programs; all = rw e kept.all; rising = rw (e, g) kept.rising; numbers = rw g kept.numbers }

-- ---- before the first line

-- as the opening, but for its tables
opened_limits : (setup : Setup) → IsLawful setup → KeepsLimits setup (so_far (begun setup))
opened_limits setup lawful =
    let first = opening_keeps_limits setup lawful in
    let lengths = setup.limits.table_lengths in
    record {
      freezes = freezes_stay setup (opening setup) (so_far (begun setup)) refl refl first.freezes;
      ccbs = ccbs_stay setup (opening setup) (so_far (begun setup)) refl refl first.ccbs;
      runs = runs_stay setup (opening setup) (so_far (begun setup)) refl refl first.runs;
      answers = record {
        queues = first.answers.queues;
        openings = first.answers.openings;
        lengths = subst (λ (tables : List (List ℕ)). map (λ table. length table) tables ≡ lengths) (zeros_with lengths) (lengths_with lengths []);
        words = subst (λ (tables : List (List ℕ)). All (λ table. All (λ word. word < 2 ^ 64) table) tables) (zeros_with lengths)
            (all_with (λ word. word < 2 ^ 64) lengths [] (omega arith) (All-nil (λ words. All (λ word. word < 2 ^ 64) words)));
        clock = first.answers.clock;
      };
    }

opening_is : (setup : Setup) → IsLawful setup → IsBeginning setup (so_far (begun setup))
opening_is setup lawful = record {
  limits = opened_limits setup lawful;
  ccbs = λ k d below. absurd (omega (arith, below));
  freezes = λ k d below. absurd (omega (arith, below));
  no_run = refl;
  none_ended = refl;
}

pub first_kept : (setup : Setup) → IsLawful setup → KeepsBegun (begun setup)
first_kept setup lawful = record {
  beginning = opening_is setup lawful;
  entered = (omega arith, omega arith);
  numbers = (omega arith, omega arith, omega arith);
  fresh = λ _. (refl, refl);
  no_run = refl;
  no_token = refl;
  opened = omega arith;
}

-- ---- with each line

pub numbers_kept : (b : BegunState) (ccb freeze run : ℕ) → KeepsBegun b → b.after ≡ 0 → ccb ≤ 4294967295 → freeze ≤ 4294967295 → run ≤ 4294967295 → KeepsBegun (with_line (lines.Numbers ccb freeze run) b)
numbers_kept b ccb freeze run kept first c f r =
    let none = kept.fresh (omega (arith, first)) in
    record {
      beginning = kept.beginning;
      entered = (omega (arith, none.0), omega (arith, none.1));
      numbers = (c, f, r);
      fresh = λ _. none;
      no_run = kept.no_run;
      no_token = kept.no_token;
      opened = kept.opened;
    }

-- what calls are answered with moves, and all else stays
answers_move : (setup : Setup) (before after : World) → after.transport.live ≡ before.transport.live → after.transport.greatest_ccb ≡ before.transport.greatest_ccb → after.transport.freezes ≡ before.transport.freezes → after.transport.greatest_freeze ≡ before.transport.greatest_freeze → after.runs.list ≡ before.runs.list → after.runs.greatest ≡ before.runs.greatest → after.ended ≡ before.ended → AnswerLimits setup after → IsBeginning setup before → IsBeginning setup after
answers_move setup before after live ccb freezes freeze list run ended answers is = record {
  limits = record {
    freezes = freezes_stay setup before after freezes freeze is.limits.freezes;
    ccbs = ccbs_stay setup before after live ccb is.limits.ccbs;
    runs = runs_stay setup before after list run is.limits.runs;
    answers = answers;
  };
  ccbs = rw live is.ccbs;
  freezes = rw freezes is.freezes;
  no_run = list ∙ is.no_run;
  none_ended = ended ∙ is.none_ended;
}

pub clock_kept : (b : BegunState) (reading : ℕ) → KeepsBegun b → MayFollow b (lines.Clock reading) → KeepsBegun (with_line (lines.Clock reading) b)
clock_kept b reading kept may =
    let answers = kept.beginning.limits.answers in
    record {
      beginning = answers_move b.setup (so_far b) (so_far (with_line (lines.Clock reading) b)) refl refl refl refl refl refl refl
          (record { queues = answers.queues; openings = answers.openings; lengths = answers.lengths; words = answers.words; clock = may.1 }) kept.beginning;
      entered = kept.entered;
      numbers = kept.numbers;
      fresh = λ _. kept.fresh (omega (arith, may.0));
      no_run = kept.no_run;
      no_token = kept.no_token;
      opened = kept.opened;
    }

pub openings_kept : (b : BegunState) (queue openings : ℕ) → KeepsBegun b → MayFollow b (lines.Openings queue openings) → KeepsBegun (with_line (lines.Openings queue openings) b)
openings_kept b queue openings kept may =
    let move : AnswerMove (so_far b) (so_far (with_line (lines.Openings queue openings) b)) = record { openings = openings_change queue openings may.2.0 may.2.1 refl; tables = tables_stay refl; clock = inl refl } in
    record {
      beginning = answers_move b.setup (so_far b) (so_far (with_line (lines.Openings queue openings) b)) refl refl refl refl refl refl refl
          (answers_kept b.setup (so_far b) (so_far (with_line (lines.Openings queue openings) b)) move kept.beginning.limits.answers) kept.beginning;
      entered = kept.entered;
      numbers = kept.numbers;
      fresh = λ _. kept.fresh may.0.1;
      no_run = kept.no_run;
      no_token = kept.no_token;
      opened = omega (arith, may.1.1);
    }

pub word_kept : (b : BegunState) (table index word : ℕ) → KeepsBegun b → MayFollow b (lines.Word table index word) → word < 2 ^ 64 → KeepsBegun (with_line (lines.Word table index word) b)
word_kept b table index word kept may below =
    let move : AnswerMove (so_far b) (so_far (with_line (lines.Word table index word) b)) = record { openings = openings_stay refl; tables = word_changes table index word below refl; clock = inl refl } in
    record {
      beginning = answers_move b.setup (so_far b) (so_far (with_line (lines.Word table index word) b)) refl refl refl refl refl refl refl
          (answers_kept b.setup (so_far b) (so_far (with_line (lines.Word table index word) b)) move kept.beginning.limits.answers) kept.beginning;
      entered = kept.entered;
      numbers = kept.numbers;
      fresh = λ early. absurd (omega (arith, early));
      no_run = kept.no_run;
      no_token = kept.no_token;
      opened = kept.opened;
    }

-- a CCB that is taken is of a queue that there is, and there is room
record HasRoom (setup : Setup) (transport : Transport) (it : CarriedCcb) : Type 0 where
  known : it.queue.0 < length transport.openings
  a_queue : live_count it.queue.0 transport.live < 256
  all : length transport.live < 4096

room_by : (setup : Setup) (transport : Transport) (it : CarriedCcb) (a b c : Bool) → leb (length transport.openings) it.queue.0 ≡ a → leb 256 (live_count it.queue.0 transport.live) ≡ b → leb 4096 (length transport.live) ≡ c
    → cond {A = Option CallRefusal} a (Some Unknown) (cond b (Some Limit) (cond c (Some Limit) None)) ≡ None → HasRoom setup transport it
room_by setup transport it false false false known a_queue all none = record { known = leb-false _ _ known; a_queue = leb-false _ _ a_queue; all = leb-false _ _ all }
room_by setup transport it true b c known a_queue all none = absurd (let bad : Some Unknown ≡ None = none in cc)
room_by setup transport it false true c known a_queue all none = absurd (let bad : Some Limit ≡ None = none in cc)
room_by setup transport it false false true known a_queue all none = absurd (let bad : Some Limit ≡ None = none in cc)

-- what a CCB that is taken says of its class and its advice
or_none : (x : Bool) → (x || false) ≡ true → x ≡ true
or_none true h = refl
or_none false h = h

fit_plain : (it : CarriedCcb) → has_fit_words false it ≡ true → (it.class ≡ 0) × (it.advice ≡ 0)
fit_plain it fit =
    let parts = and_parts (eqb it.class 0) (eqb it.advice 0 || false) fit in
    (eqb-true _ _ parts.0, eqb-true _ _ (or_none (eqb it.advice 0) parts.1))

-- nothing is advised for an active one
fit_still : (has active : Bool) (advice : ℕ) → active ≡ true → (eqb advice 0 || (has && not active)) ≡ true → advice ≡ 0
fit_still true true advice works fit = eqb-true _ _ (or_none (eqb advice 0) fit)
fit_still false active advice works fit = eqb-true _ _ (or_none (eqb advice 0) fit)
fit_still true false advice works fit = absurd (let bad : false ≡ true = works in cc)

-- and what has to be so that one is
fit_words : (has active : Bool) (class advice : ℕ) → (has ≡ false → (class ≡ 0) × (advice ≡ 0)) → (active ≡ true → advice ≡ 0) → ((has || eqb class 0) && (eqb advice 0 || (has && not active))) ≡ true
fit_words true true class advice plain still = or_left (eqb advice 0) false (eq-eqb _ _ (still refl))
fit_words true false class advice plain still = or_right (eqb advice 0) true refl
fit_words false active class advice plain still =
    let none = plain refl in
    and_from (eqb class 0) (eqb advice 0 || false) (eq-eqb _ _ none.0) (or_left (eqb advice 0) false (eq-eqb _ _ none.1))

pub fit_by : (has : Bool) (it : CarriedCcb) → (has ≡ false → (it.class ≡ 0) × (it.advice ≡ 0)) → (it.is_active ≡ true → it.advice ≡ 0) → has_fit_words has it ≡ true
fit_by has it plain still = fit_words has it.is_active it.class it.advice plain still

active_if : (b : Bool) → carried_state b ≡ Active → b ≡ true
active_if true is = refl
active_if false is = absurd (let bad : Waiting ≡ Active = is in cc)

-- it waits or is active
state_is : (b : Bool) → (carried_state b ≡ Waiting) ⊎ (carried_state b ≡ Active)
state_is true = inr refl
state_is false = inl refl

carried_is : (has : Bool) (it : CarriedCcb) → has_fit_words has it ≡ true → IsCarriedCcb (carried_of it)
carried_is has it fit = record {
  state = state_is it.is_active;
  status = refl;
  scsi = refl;
  sense = refl;
  freeze = refl;
  advice = λ is. fit_still has it.is_active it.advice (active_if it.is_active is) (and_parts (has || eqb it.class 0) (eqb it.advice 0 || (has && not it.is_active)) fit).1;
}

-- the numbers of what was entered before rise up to the one before this
pushed : {A : Type 0} (key : A → ℕ) (xs : List A) (high number : ℕ) (x : A) → AreRising 0 (map key xs) high → high < number → key x ≡ number → AreRising 0 (map key (xs ++ x ∷ [])) number
pushed key xs high (suc before) x rising above is =
    let one : suc before ≡ before + 1 = omega arith in
    subst (λ (n : ℕ). AreRising 0 (map key (xs ++ x ∷ [])) n) (sym one) (rising_push key 0 xs before x (rises_up 0 (map key xs) high before rising (omega (arith, above))) (is ∙ one))
pushed key xs high zero x rising above is = absurd (omega (arith, above))

pub ccb_kept : (b : BegunState) (it : CarriedCcb) → KeepsBegun b → MayFollow b (lines.Ccb it) → KeepsBegun (with_line (lines.Ccb it) b)
ccb_kept b it kept may =
    let before = so_far b in
    let after = so_far (with_line (lines.Ccb it) b) in
    let live = b.transport.live in
    let is = kept.beginning in
    let limits = is.limits.ccbs in
    let answers = is.limits.answers in
    let room = room_by b.setup b.transport it (leb (length b.transport.openings) it.queue.0) (leb 256 (live_count it.queue.0 live)) (leb 4096 (length live)) refl refl refl may.2 in
    let one_more : (q : ℕ) → live_count q live + cond {A = ℕ} (eqb it.queue.0 q) 1 0 ≤ 256 = λ q. elim (cases_eq it.queue.0 q) [
      | inl same ↦ let here : live_count q live < 256 = subst (λ (x : ℕ). live_count x live < 256) same room.a_queue in rw (eq-eqb it.queue.0 q same) (omega (arith, here))
      | inr apart ↦ rw (ne_eqb it.queue.0 q apart) (omega (arith, limits.a_queue q))
    ] in
    record {
      beginning = record {
        limits = record {
          freezes = freezes_stay b.setup before after refl refl is.limits.freezes;
          ccbs = record {
            queues = All-push (λ (x : LiveCcb). x.ccb.queue.0 < queue_count b.setup) live (carried_of it) limits.queues (omega (arith, room.known, answers.queues));
            plain = λ without. All-push IsPlain live (carried_of it) (limits.plain without) (fit_plain it (subst (λ (has : Bool). has_fit_words has it ≡ true) without may.3));
            a_queue = λ q. omega (arith, sum_by_push (λ (x : LiveCcb). cond (is_of q x) 1 0) live (carried_of it), one_more q);
            all = omega (arith, room.all, length-append live (carried_of it ∷ []));
            rising = pushed ccb_key live b.transport.greatest_ccb it.number.0 (carried_of it) limits.rising may.1.0 refl;
            numbers = omega (arith, may.1.1, kept.numbers.0);
          };
          runs = runs_stay b.setup before after refl refl is.limits.runs;
          answers = record { queues = answers.queues; openings = answers.openings; lengths = answers.lengths; words = answers.words; clock = answers.clock };
        };
        ccbs = All-push IsCarriedCcb live (carried_of it) is.ccbs (carried_is (has_classes b.setup) it may.3);
        freezes = is.freezes;
        no_run = is.no_run;
        none_ended = refl;
      };
      entered = (may.1.1, kept.entered.1);
      numbers = kept.numbers;
      fresh = λ early. absurd (omega (arith, early));
      no_run = kept.no_run;
      no_token = kept.no_token;
      opened = kept.opened;
    }

pub freeze_kept : (b : BegunState) (f : Freeze) → KeepsBegun b → MayFollow b (lines.Freeze f) → KeepsBegun (with_line (lines.Freeze f) b)
freeze_kept b f kept may =
    let before = so_far b in
    let after = so_far (with_line (lines.Freeze f) b) in
    let freezes = b.transport.freezes in
    let is = kept.beginning in
    let limits = is.limits.freezes in
    let answers = is.limits.answers in
    let room = room_from f.place freezes b.transport.greatest_freeze may.3 in
    let one_more : (q : Place) → frozen q freezes + cond {A = ℕ} (is_place f.place q) 1 0 ≤ 255 = λ q. elim (cases_Bool (is_place f.place q)) [
      | inl same ↦ let here = same_frozen f.place q freezes same in rw same (omega (arith, here, room.a_place))
      | inr apart ↦ rw apart (omega (arith, limits.a_place q))
    ] in
    record {
      beginning = record {
        limits = record {
          freezes = record {
            places = λ agreed. All-push (λ (x : Freeze). is_unknown b.setup x.place ≡ false) freezes f (limits.places agreed) may.2;
            a_place = λ q. omega (arith, frozen_push q freezes f, one_more q);
            ledger = omega (arith, room.ledger, length-append freezes (f ∷ []));
            numbered = pushed freeze_key freezes b.transport.greatest_freeze f.number f limits.numbered may.1.0 refl;
            numbers = omega (arith, may.1.1, kept.numbers.1);
          };
          ccbs = ccbs_stay b.setup before after refl refl is.limits.ccbs;
          runs = runs_stay b.setup before after refl refl is.limits.runs;
          answers = record { queues = answers.queues; openings = answers.openings; lengths = answers.lengths; words = answers.words; clock = answers.clock };
        };
        ccbs = is.ccbs;
        freezes = All-push (IsCarriedFreeze b.setup) freezes f is.freezes (record { place = may.2; holder = may.0.1 });
        no_run = is.no_run;
        none_ended = refl;
      };
      entered = (kept.entered.0, may.1.1);
      numbers = kept.numbers;
      fresh = λ early. absurd (omega (arith, early));
      no_run = kept.no_run;
      no_token = kept.no_token;
      opened = kept.opened;
    }

-- ---- at the end

pub finished_is : (b : BegunState) → KeepsBegun b → IsBeginning b.setup (finished b)
finished_is b kept =
    let is = kept.beginning in
    let freezes = is.limits.freezes in
    let ccbs = is.limits.ccbs in
    let runs = is.limits.runs in
    let answers = is.limits.answers in
    record {
      limits = record {
        freezes = record {
          places = freezes.places;
          a_place = freezes.a_place;
          ledger = freezes.ledger;
          numbered = rises_up 0 (map freeze_key b.transport.freezes) b.transport.greatest_freeze b.freeze freezes.numbered kept.entered.1;
          numbers = kept.numbers.1;
        };
        ccbs = record {
          queues = ccbs.queues;
          plain = ccbs.plain;
          a_queue = ccbs.a_queue;
          all = ccbs.all;
          rising = rises_up 0 (map ccb_key b.transport.live) b.transport.greatest_ccb b.ccb ccbs.rising kept.entered.0;
          numbers = kept.numbers.0;
        };
        runs = record {
          queues = runs.queues;
          controllers = runs.controllers;
          programs = runs.programs;
          all = runs.all;
          rising = rises_up 0 (map (λ run. run.number) b.runs.runs.list) b.runs.runs.greatest b.run runs.rising (omega (arith, kept.no_run));
          numbers = kept.numbers.2;
        };
        answers = record { queues = answers.queues; openings = answers.openings; lengths = answers.lengths; words = answers.words; clock = answers.clock };
      };
      ccbs = is.ccbs;
      freezes = is.freezes;
      no_run = is.no_run;
      none_ended = refl;
    }

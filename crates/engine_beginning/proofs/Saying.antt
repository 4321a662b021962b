-- What the lines so far make of an engine says just these lines.
use Rattle.std.proofs.Common.{◌≡◌, ℕ, suc, ◌+◌, ◌<◌, ◌≤◌, List, [], ◌∷◌, ◌++◌, length, set, take, Bool, true, false, cond, eqb, inl, inr, refl, ap, sym, subst, ◌∙◌, arith, append_assoc, append-nil}
use Rattle.std.proofs.lemmas.Bool.{cases_lt, cond-true, cond-false, eq-eqb, ne_eqb}
use Rattle.std.proofs.lemmas.List.{length-take-le, map_push, take_all, take_more_set}
use Rattle.freeze_ledger.specs.declared.freeze.Freeze.{Freeze}
use Rattle.world_calls.specs.declared.carried_line.CarriedCcb.{CarriedCcb}
use Rattle.world_calls.specs.declared.carried_line.CarriedLine.{CarriedLine}
use Rattle.world_calls.specs.declared.carried_line.CarriedLine.TheVariants as lines
use Rattle.world.specs.Beginning.{IsBeginning}
use Rattle.world.specs.Lawful.{IsLawful}
use Rattle.world.specs.Lookups.{is_active}
use Rattle.world.specs.World.{LiveCcb, Setup, queue_count}
use Rattle.engine_transport.specs.Carrying.{carried_of, carried_state}
use Rattle.engine_beginning.specs.Begun.{BegunState, IsComplete, KeepsBegun, MayFollow, begun, finished, with_line}
use Rattle.engine_beginning.specs.Lines.{IsRanged, SaysItsLines, Takes, ccb_in, ccb_lines, freeze_lines, openings_from, tables_from}
use Rattle.engine_beginning.proofs.Keeping.{ccb_kept, clock_kept, finished_is, first_kept, freeze_kept, numbers_kept, openings_kept, word_kept}
use Rattle.engine_beginning.proofs.Words.{ZeroTables, first_zeros, later_zeros, table_line, zero_tables, zeros_after}

-- ---- the parts of the lines

abbrev opened_lines : BegunState → List CarriedLine
opened_lines b = openings_from 0 (take b.opened b.transport.openings)

abbrev word_lines : BegunState → List CarriedLine
word_lines b = tables_from 0 b.runs.runs.tables

abbrev numbers_line : BegunState → CarriedLine
numbers_line b = lines.Numbers b.ccb b.freeze b.run

-- after the numbers and the clock
abbrev rest_said : BegunState → List CarriedLine
rest_said b = opened_lines b ++ (word_lines b ++ (ccb_lines b.transport.live ++ freeze_lines b.transport.freezes))

abbrev long_said : BegunState → List CarriedLine
long_said b = numbers_line b ∷ lines.Clock b.transport.clock ∷ rest_said b

abbrev said : BegunState → List CarriedLine
said b = cond (eqb b.after 0) [] (cond (eqb b.after 1) (numbers_line b ∷ []) (long_said b))

pub record Says (b : BegunState) (xs : List CarriedLine) : Type 0 where
  pub kept : KeepsBegun b
  is : xs ≡ said b
  some : 1 ≤ queue_count b.setup
  zeros : ZeroTables b.runs.runs.tables b.table b.index
  unopened : b.after ≤ 2 → b.opened ≡ 0
  no_words : b.after ≤ 3 → word_lines b ≡ []
  no_ccbs : b.after ≤ 4 → b.transport.live ≡ []
  no_freezes : b.after ≤ 5 → b.transport.freezes ≡ []

said_long : (b : BegunState) → 2 ≤ b.after → said b ≡ long_said b
said_long b late =
    cond-false (eqb b.after 0) [] (cond (eqb b.after 1) (numbers_line b ∷ []) (long_said b)) (ne_eqb b.after 0 (λ e. omega (arith, e, late)))
    ∙ cond-false (eqb b.after 1) (numbers_line b ∷ []) (long_said b) (ne_eqb b.after 1 (λ e. omega (arith, e, late)))

-- ---- one line more, at the end of its part

push_nil : (xs ys : List CarriedLine) (x : CarriedLine) → ys ≡ [] → (xs ++ ys) ++ x ∷ [] ≡ (xs ++ x ∷ []) ++ ys
push_nil xs ys x none =
    ap (λ (zs : List CarriedLine). (xs ++ zs) ++ x ∷ []) none
    ∙ (ap (λ (zs : List CarriedLine). zs ++ x ∷ []) (append-nil xs)
    ∙ (sym (append-nil (xs ++ x ∷ []))
    ∙ ap (λ (zs : List CarriedLine). (xs ++ x ∷ []) ++ zs) (sym none)))

no_two : (xs ys : List CarriedLine) → xs ≡ [] → ys ≡ [] → xs ++ ys ≡ []
no_two xs ys none other = ap (λ (zs : List CarriedLine). zs ++ ys) none ∙ other

-- the parts, of which the last ones are empty
module _ (first second third fourth : List CarriedLine) (x : CarriedLine) where
  after_first : second ≡ [] → third ≡ [] → fourth ≡ [] → (first ++ (second ++ (third ++ fourth))) ++ x ∷ [] ≡ (first ++ x ∷ []) ++ (second ++ (third ++ fourth))
  after_first none_a none_b none_c = push_nil first (second ++ (third ++ fourth)) x (no_two second (third ++ fourth) none_a (no_two third fourth none_b none_c))

  after_second : third ≡ [] → fourth ≡ [] → (first ++ (second ++ (third ++ fourth))) ++ x ∷ [] ≡ first ++ ((second ++ x ∷ []) ++ (third ++ fourth))
  after_second none_b none_c =
      append_assoc first (second ++ (third ++ fourth)) (x ∷ [])
      ∙ ap (λ (zs : List CarriedLine). first ++ zs) (push_nil second (third ++ fourth) x (no_two third fourth none_b none_c))

  after_third : fourth ≡ [] → (first ++ (second ++ (third ++ fourth))) ++ x ∷ [] ≡ first ++ (second ++ ((third ++ x ∷ []) ++ fourth))
  after_third none_c =
      append_assoc first (second ++ (third ++ fourth)) (x ∷ [])
      ∙ ap (λ (zs : List CarriedLine). first ++ zs)
      (append_assoc second (third ++ fourth) (x ∷ [])
      ∙ ap (λ (zs : List CarriedLine). second ++ zs) (push_nil third fourth x none_c))

  after_fourth : (first ++ (second ++ (third ++ fourth))) ++ x ∷ [] ≡ first ++ (second ++ (third ++ (fourth ++ x ∷ [])))
  after_fourth =
      append_assoc first (second ++ (third ++ fourth)) (x ∷ [])
      ∙ ap (λ (zs : List CarriedLine). first ++ zs)
      (append_assoc second (third ++ fourth) (x ∷ [])
      ∙ ap (λ (zs : List CarriedLine). second ++ zs) (append_assoc third fourth (x ∷ [])))

-- after the numbers and the clock
longer : (b : BegunState) (xs rest : List CarriedLine) (x : CarriedLine) → 2 ≤ b.after → xs ≡ said b → rest_said b ++ x ∷ [] ≡ rest → xs ++ x ∷ [] ≡ numbers_line b ∷ lines.Clock b.transport.clock ∷ rest
longer b xs rest x late is on =
    ap (λ (zs : List CarriedLine). zs ++ x ∷ []) (is ∙ said_long b late)
    ∙ ap (λ (zs : List CarriedLine). numbers_line b ∷ lines.Clock b.transport.clock ∷ zs) on

-- ---- each kind of line

no_ccb_lines : (ccbs : List LiveCcb) → ccbs ≡ [] → ccb_lines ccbs ≡ []
no_ccb_lines ccbs none = ap ccb_lines none

no_freeze_lines : (freezes : List Freeze) → freezes ≡ [] → freeze_lines freezes ≡ []
no_freeze_lines freezes none = ap freeze_lines none

-- lines of openings, with the next queue's
next_openings : (from : ℕ) (openings : List ℕ) (more : ℕ) → openings_from from (openings ++ more ∷ []) ≡ openings_from from openings ++ lines.Openings (from + length openings) more ∷ []
next_openings from [] more = let here : from ≡ from + 0 = omega arith in ap (λ (n : ℕ). lines.Openings n more ∷ []) here
next_openings from (one ∷ openings) more =
    let on : (from + 1) + length openings ≡ from + length (one ∷ openings) = omega arith in
    ap (λ (zs : List CarriedLine). lines.Openings from one ∷ zs)
    (next_openings (from + 1) openings more ∙ ap (λ (n : ℕ). openings_from (from + 1) openings ++ lines.Openings n more ∷ []) on)

opened_more : (openings : List ℕ) (opened queue more : ℕ) → queue ≡ opened → queue < length openings → openings_from 0 (take (queue + 1) (set openings queue more)) ≡ openings_from 0 (take opened openings) ++ lines.Openings queue more ∷ []
opened_more openings opened queue more is there =
    let count : 0 + length (take queue openings) ≡ queue = omega (arith, length-take-le queue openings (omega (arith, there))) in
    ap (openings_from 0) (take_more_set openings queue more there)
    ∙ (next_openings 0 (take queue openings) more
    ∙ (ap (λ (n : ℕ). openings_from 0 (take queue openings) ++ lines.Openings n more ∷ []) count
    ∙ ap (λ (n : ℕ). openings_from 0 (take n openings) ++ lines.Openings queue more ∷ []) is))

-- all queues have their openings only after lines that say so
late_by : (b : BegunState) (xs : List CarriedLine) → Says b xs → IsComplete b → 3 ≤ b.after
late_by b xs says complete = elim (cases_lt b.after 3) [
  | inl early ↦ absurd (omega (arith, says.unopened (omega (arith, early)), complete, says.some))
  | inr late ↦ omega (arith, late)
]

active_is : (b : Bool) → is_active (carried_state b) ≡ b
active_is true = refl
active_is false = refl

ccb_line_is : (it : CarriedCcb) → lines.Ccb (ccb_in (carried_of it)) ≡ lines.Ccb it
ccb_line_is it = λ i. lines.Ccb (record { number = it.number; queue = it.queue; priority = it.priority; retries = it.retries; class = it.class; attempts = it.attempts; advice = it.advice; is_active = active_is it.is_active i })

says_more : (b : BegunState) (xs : List CarriedLine) (line : CarriedLine) → Says b xs → IsRanged line → MayFollow b line → Says (with_line line b) (xs ++ line ∷ [])
says_more b xs (lines.Numbers ccb freeze run) says ranged may =
    let early : b.after ≤ 2 = omega (arith, may) in
    record {
      kept = numbers_kept b ccb freeze run says.kept may ranged.0 ranged.1 ranged.2;
      is = ap (λ (zs : List CarriedLine). zs ++ lines.Numbers ccb freeze run ∷ []) (says.is ∙ cond-true (eqb b.after 0) [] (cond (eqb b.after 1) (numbers_line b ∷ []) (long_said b)) (eq-eqb b.after 0 may));
      some = says.some;
      zeros = says.zeros;
      unopened = λ _. says.unopened early;
      no_words = λ _. says.no_words (omega (arith, early));
      no_ccbs = λ _. says.no_ccbs (omega (arith, early));
      no_freezes = λ _. says.no_freezes (omega (arith, early));
    }
says_more b xs (lines.Clock reading) says ranged may =
    let one : b.after ≡ 1 = may.0 in
    let unopened : b.opened ≡ 0 = says.unopened (omega (arith, one)) in
    let words : word_lines b ≡ [] = says.no_words (omega (arith, one)) in
    let ccbs : b.transport.live ≡ [] = says.no_ccbs (omega (arith, one)) in
    let freezes : b.transport.freezes ≡ [] = says.no_freezes (omega (arith, one)) in
    let short : xs ≡ numbers_line b ∷ [] = says.is
    ∙ (cond-false (eqb b.after 0) [] (cond (eqb b.after 1) (numbers_line b ∷ []) (long_said b)) (ne_eqb b.after 0 (λ e. omega (arith, e, one)))
    ∙ cond-true (eqb b.after 1) (numbers_line b ∷ []) (long_said b) (eq-eqb b.after 1 one)) in
    let none : rest_said b ≡ [] = no_two (opened_lines b) (word_lines b ++ (ccb_lines b.transport.live ++ freeze_lines b.transport.freezes)) (ap (λ (n : ℕ). openings_from 0 (take n b.transport.openings)) unopened)
    (no_two (word_lines b) (ccb_lines b.transport.live ++ freeze_lines b.transport.freezes) words
    (no_two (ccb_lines b.transport.live) (freeze_lines b.transport.freezes) (no_ccb_lines b.transport.live ccbs) (no_freeze_lines b.transport.freezes freezes))) in
    record {
      kept = clock_kept b reading says.kept may;
      is = ap (λ (zs : List CarriedLine). zs ++ lines.Clock reading ∷ []) short ∙ ap (λ (zs : List CarriedLine). numbers_line b ∷ lines.Clock reading ∷ zs) (sym none);
      some = says.some;
      zeros = says.zeros;
      unopened = λ _. unopened;
      no_words = λ _. words;
      no_ccbs = λ _. ccbs;
      no_freezes = λ _. freezes;
    }
says_more b xs (lines.Openings queue openings) says ranged may =
    let words : word_lines b ≡ [] = says.no_words may.0.1 in
    let ccbs : b.transport.live ≡ [] = says.no_ccbs (omega (arith, may.0.1)) in
    let freezes : b.transport.freezes ≡ [] = says.no_freezes (omega (arith, may.0.1)) in
    let line : CarriedLine = lines.Openings queue openings in
    let there : queue < length b.transport.openings = omega (arith, may.1.1, says.kept.beginning.limits.answers.queues) in
    let tail : List CarriedLine = word_lines b ++ (ccb_lines b.transport.live ++ freeze_lines b.transport.freezes) in
    record {
      kept = openings_kept b queue openings says.kept may;
      is = longer b xs (opened_lines (with_line line b) ++ tail) line may.0.0 says.is
          (after_first (opened_lines b) (word_lines b) (ccb_lines b.transport.live) (freeze_lines b.transport.freezes) line words (no_ccb_lines b.transport.live ccbs) (no_freeze_lines b.transport.freezes freezes)
          ∙ ap (λ (zs : List CarriedLine). zs ++ tail) (sym (opened_more b.transport.openings b.opened queue openings may.1.0 there)));
      some = says.some;
      zeros = says.zeros;
      unopened = λ early. absurd (omega (arith, early));
      no_words = λ _. words;
      no_ccbs = λ _. ccbs;
      no_freezes = λ _. freezes;
    }
says_more b xs (lines.Word table index word) says ranged may =
    let late = late_by b xs says may.0.0 in
    let ccbs : b.transport.live ≡ [] = says.no_ccbs may.0.1 in
    let freezes : b.transport.freezes ≡ [] = says.no_freezes (omega (arith, may.0.1)) in
    let line : CarriedLine = lines.Word table index word in
    let zeros = later_zeros b.table b.index table index b.runs.runs.tables says.zeros may.2.0 may.2.1 in
    let next : suc index ≡ index + 1 = omega arith in
    let own : 0 + table ≡ table = omega arith in
    let tail : List CarriedLine = ccb_lines b.transport.live ++ freeze_lines b.transport.freezes in
    record {
      kept = word_kept b table index word says.kept may ranged;
      is = longer b xs (opened_lines b ++ (word_lines (with_line line b) ++ tail)) line (omega (arith, late)) says.is
          (after_second (opened_lines b) (word_lines b) (ccb_lines b.transport.live) (freeze_lines b.transport.freezes) line (no_ccb_lines b.transport.live ccbs) (no_freeze_lines b.transport.freezes freezes)
          ∙ ap (λ (zs : List CarriedLine). opened_lines b ++ (zs ++ tail))
          (sym (table_line 0 table index word b.runs.runs.tables zeros may.3 may.1 ∙ ap (λ (n : ℕ). word_lines b ++ lines.Word n index word ∷ []) own)));
      some = says.some;
      zeros = subst (λ (n : ℕ). ZeroTables (with_line line b).runs.runs.tables table n) next (zeros_after table index word b.runs.runs.tables zeros);
      unopened = λ early. absurd (omega (arith, early));
      no_words = λ early. absurd (omega (arith, early));
      no_ccbs = λ _. ccbs;
      no_freezes = λ _. freezes;
    }
says_more b xs (lines.Ccb it) says ranged may =
    let late = late_by b xs says may.0.0 in
    let freezes : b.transport.freezes ≡ [] = says.no_freezes may.0.1 in
    let line : CarriedLine = lines.Ccb it in
    record {
      kept = ccb_kept b it says.kept may;
      is = longer b xs (opened_lines b ++ (word_lines b ++ (ccb_lines (b.transport.live ++ carried_of it ∷ []) ++ freeze_lines b.transport.freezes))) line (omega (arith, late)) says.is
          (after_third (opened_lines b) (word_lines b) (ccb_lines b.transport.live) (freeze_lines b.transport.freezes) line (no_freeze_lines b.transport.freezes freezes)
          ∙ ap (λ (zs : List CarriedLine). opened_lines b ++ (word_lines b ++ (zs ++ freeze_lines b.transport.freezes)))
          (sym (map_push (λ (live : LiveCcb). lines.Ccb (ccb_in live)) b.transport.live (carried_of it) ∙ ap (λ (x : CarriedLine). ccb_lines b.transport.live ++ x ∷ []) (ccb_line_is it))));
      some = says.some;
      zeros = says.zeros;
      unopened = λ early. absurd (omega (arith, early));
      no_words = λ early. absurd (omega (arith, early));
      no_ccbs = λ early. absurd (omega (arith, early));
      no_freezes = λ _. freezes;
    }
says_more b xs (lines.Freeze f) says ranged may =
    let late = late_by b xs says may.0.0 in
    let line : CarriedLine = lines.Freeze f in
    record {
      kept = freeze_kept b f says.kept may;
      is = longer b xs (opened_lines b ++ (word_lines b ++ (ccb_lines b.transport.live ++ freeze_lines (b.transport.freezes ++ f ∷ [])))) line (omega (arith, late)) says.is
          (after_fourth (opened_lines b) (word_lines b) (ccb_lines b.transport.live) (freeze_lines b.transport.freezes) line
          ∙ ap (λ (zs : List CarriedLine). opened_lines b ++ (word_lines b ++ (ccb_lines b.transport.live ++ zs)))
          (sym (map_push (λ (freeze : Freeze). lines.Freeze freeze) b.transport.freezes f)));
      some = says.some;
      zeros = says.zeros;
      unopened = λ early. absurd (omega (arith, early));
      no_words = λ early. absurd (omega (arith, early));
      no_ccbs = λ early. absurd (omega (arith, early));
      no_freezes = λ early. absurd (omega (arith, early));
    }

-- ---- all lines

pub says_on : (from to : BegunState) (before xs : List CarriedLine) → Says from before → Takes from xs to → Says to (before ++ xs)
says_on from to before [] says takes = subst (λ (b : BegunState). Says b (before ++ [])) takes (subst (Says from) (sym (append-nil before)) says)
says_on from to before (line ∷ xs) says takes =
    subst (Says to) (append_assoc before (line ∷ []) xs) (says_on (with_line line from) to (before ++ line ∷ []) xs (says_more from before line says takes.0 takes.1) takes.2)

pub first_says : (setup : Setup) → IsLawful setup → Says (begun setup) []
first_says setup lawful = record {
  kept = first_kept setup lawful;
  is = refl;
  some = lawful.queue_number.0;
  zeros = first_zeros setup.limits.table_lengths;
  unopened = λ _. refl;
  no_words = λ _. zero_tables 0 (begun setup).runs.runs.tables (first_zeros setup.limits.table_lengths);
  no_ccbs = λ _. refl;
  no_freezes = λ _. refl;
}

pub says_its_lines : SaysItsLines
says_its_lines setup lawful xs to takes complete =
    let says = says_on (begun setup) to [] xs (first_says setup lawful) takes in
    let late = late_by to xs says complete in
    let same : to.setup ≡ setup = setup_stays (begun setup) xs to takes in
    let all : take to.opened to.transport.openings ≡ to.transport.openings =
    ap (λ (n : ℕ). take n to.transport.openings) (omega (arith, complete, says.kept.beginning.limits.answers.queues)) ∙ take_all_of to.transport.openings in (
      subst (λ (s : Setup). IsBeginning s (finished to)) same (finished_is to says.kept),
      sym (says.is ∙ (said_long to (omega (arith, late))
          ∙ ap (λ (os : List ℕ). numbers_line to ∷ lines.Clock to.transport.clock ∷ (openings_from 0 os ++ (word_lines to ++ (ccb_lines to.transport.live ++ freeze_lines to.transport.freezes)))) all)),
    )
  where
    take_all_of : (openings : List ℕ) → take (length openings) openings ≡ openings
    take_all_of openings = take_all (length openings) openings (omega arith)

    setup_with : (line : CarriedLine) (b : BegunState) → (with_line line b).setup ≡ b.setup
    setup_with (lines.Numbers ccb freeze run) b = refl
    setup_with (lines.Clock reading) b = refl
    setup_with (lines.Openings queue openings) b = refl
    setup_with (lines.Word table index word) b = refl
    setup_with (lines.Ccb ccb) b = refl
    setup_with (lines.Freeze freeze) b = refl

    setup_stays : (from : BegunState) (xs : List CarriedLine) (to : BegunState) → Takes from xs to → to.setup ≡ from.setup
    setup_stays from [] to takes = ap (λ (b : BegunState). b.setup) (sym takes)
    setup_stays from (line ∷ xs) to takes = setup_stays (with_line line from) xs to takes.2 ∙ setup_with line from

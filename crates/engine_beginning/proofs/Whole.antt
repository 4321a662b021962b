-- Each world that may be taken over is what its lines make: each of them may come next after those before it.
use Rattle.std.proofs.Common.{◌≡◌, ℕ, ◌+◌, ◌<◌, ◌≤◌, ◌^◌, List, [], ◌∷◌, ◌++◌, length, length-append, map, set, replicate, Bool, true, false, cond, eqb, leb, None, inl, inr, refl, ap, sym, subst, ◌∙◌, arith, append_assoc, append-nil}
use Rattle.std.specs.Prelude.{◌⊎◌, ◌||◌, All}
use Rattle.std.proofs.lemmas.Bool.{cases_eq, cond-true, cond-false, eq-eqb, ne_eqb, lt-leb, or_from}
use Rattle.std.proofs.lemmas.List.{length-map}
use Rattle.std.proofs.lemmas.List.Elements.{All-head, All-tail}
use Rattle.std.proofs.lemmas.List.Sums.{sum_by-append, sum_by-cons}
use Rattle.ccb.specs.Rising.{AreRising}
use Rattle.ccb.specs.declared.place.Place.{Place}
use Rattle.ccb.specs.Places.{index_of}
use Rattle.freeze_ledger.specs.declared.freeze.Freeze.{Freeze}
use Rattle.freeze_ledger.specs.Freezes.{frozen, meets_limit, names}
use Rattle.table_store.specs.Tables.{HasWord, table_at, with_word, zero_table}
use Rattle.world_calls.specs.declared.carried_line.CarriedLine.{CarriedLine}
use Rattle.world_calls.specs.declared.carried_line.CarriedLine.TheVariants as lines
use Rattle.world.specs.Beginning.{IsBeginning, IsCarriedCcb, IsCarriedFreeze}
use Rattle.world.specs.Lawful.{IsLawful}
use Rattle.world.specs.Limits.{IsPlain}
use Rattle.world.specs.Lookups.{is_active, is_of, live_count}
use Rattle.world.specs.World.{LiveCcb, QueueSetup, Setup, Transport, World, has_classes, opening, queue_count}
use Rattle.world.specs.declared.ccb_state.CcbState.{CcbState}
use Rattle.world.specs.declared.ccb_state.CcbState.TheVariants.{Active, InRecovery, Waiting}
use Rattle.world.proofs.Lists.Entries.{freeze_key}
use Rattle.world.proofs.Lists.Rising.{rising_high}
use Rattle.world.proofs.Steps.Moves.{ccb_key}
use Rattle.engine_transport.specs.Carrying.{carried_of, carried_state, carry_refusal}
use Rattle.engine_beginning.specs.Begun.{BegunState, IsComplete, MayFollow, begun, finished, with_line}
use Rattle.engine_beginning.specs.Lines.{IsFront, LinesAreExact, Takes, ccb_in, ccb_lines, freeze_lines, lines_of, openings_from, tables_from, words_from}
use Rattle.engine_beginning.proofs.Keeping.{fit_by}

least : (a b : ℕ) → a ≡ b → b ≤ a
least a b is = omega (arith, is)

-- ---- lines one after the other

pub takes_both : (from between to : BegunState) (xs ys : List CarriedLine) → Takes from xs between → Takes between ys to → Takes from (xs ++ ys) to
takes_both from between to [] ys first second = subst (λ (b : BegunState). Takes b ys to) (sym first) second
takes_both from between to (line ∷ xs) ys first second = (first.0, first.1, takes_both (with_line line from) between to xs ys first.2 second)

-- the state after the first ones is one
record Splits (from to : BegunState) (xs : List CarriedLine) (line : CarriedLine) (ys : List CarriedLine) : Type 0 where
  between : BegunState
  first : Takes from xs between
  may : MayFollow between line

splits : (from to : BegunState) (xs : List CarriedLine) (line : CarriedLine) (ys : List CarriedLine) → Takes from (xs ++ line ∷ ys) to → Splits from to xs line ys
splits from to [] line ys takes = record { between = from; first = refl; may = takes.1 }
splits from to (x ∷ xs) line ys takes =
    let rest = splits (with_line x from) to xs line ys takes.2 in
    record { between = rest.between; first = (takes.0, takes.1, rest.first); may = rest.may }

one_state : (from one other : BegunState) (xs : List CarriedLine) → Takes from xs one → Takes from xs other → one ≡ other
one_state from one other [] first second = sym first ∙ second
one_state from one other (x ∷ xs) first second = one_state (with_line x from) one other xs first.2 second.2

-- ---- openings

set_here : {A : Type 0} (done : List A) (old new : A) (rest : List A) → set (done ++ old ∷ rest) (length done) new ≡ (done ++ new ∷ []) ++ rest
set_here [] old new rest = refl
set_here (x ∷ done) old new rest = ap (λ xs. x ∷ xs) (set_here done old new rest)

pub record OpeningsDone (b to : BegunState) (openings : List ℕ) : Type 0 where
  after : (2 ≤ to.after) × (to.after ≤ 3)
  pub opened_all : to.opened ≡ length openings
  pub same : to ≡ record b { after = to.after; opened = to.opened; transport = record b.transport { openings = openings } }

abbrev pub OpeningsLead : BegunState → List ℕ → List ℕ → Type 0
OpeningsLead b more openings = (to : BegunState) × Takes b (openings_from b.opened more) to × OpeningsDone b to openings

pub open_all : (b : BegunState) (done tail more : List ℕ) → (2 ≤ b.after) × (b.after ≤ 3) → b.opened ≡ length done → b.transport.openings ≡ done ++ tail → length tail ≡ length more → length done + length more ≤ queue_count b.setup → All (λ (o : ℕ). (1 ≤ o) × (o ≤ 255)) more → OpeningsLead b more (done ++ more)
open_all b done [] [] after opened is same few all = (
  b,
  refl,
  record {
    after = after;
    opened_all = opened ∙ ap length (sym (append-nil done));
    same = λ i. record b { transport = record b.transport { openings = is i } };
  },
)
open_all b done [] (o ∷ more) after opened is same few all = absurd (omega (arith, same))
open_all b done (c ∷ tail) [] after opened is same few all = absurd (omega (arith, same))
open_all b done (c ∷ tail) (o ∷ more) after opened is same few all =
    let line : CarriedLine = lines.Openings b.opened o in
    let next : BegunState = with_line line b in
    let range = All-head (λ (n : ℕ). (1 ≤ n) × (n ≤ 255)) o more all in
    let set_is : next.transport.openings ≡ (done ++ o ∷ []) ++ tail =
    ap (λ (xs : List ℕ). set xs b.opened o) is ∙ (ap (λ (n : ℕ). set (done ++ c ∷ tail) n o) opened ∙ set_here done c o tail) in
    let count = length-append done (o ∷ []) in
    let rest = open_all next (done ++ o ∷ []) tail more (omega arith, omega arith) (omega (arith, opened, count)) set_is (omega (arith, same)) (omega (arith, few, count)) (All-tail (λ (n : ℕ). (1 ≤ n) × (n ≤ 255)) o more all) in
    let joined : (done ++ o ∷ []) ++ more ≡ done ++ o ∷ more = append_assoc done (o ∷ []) more in (
      rest.0,
      (tt, (after, (refl, omega (arith, opened, few)), range), rest.1),
      record {
        after = rest.2.after;
        opened_all = rest.2.opened_all ∙ ap length joined;
        same = rest.2.same ∙ (λ i. record b { after = rest.0.after; opened = rest.0.opened; transport = record b.transport { openings = joined i } });
      },
    )

-- ---- words

row_here : (before : List (List ℕ)) (row : List ℕ) (behind : List (List ℕ)) → table_at (before ++ row ∷ behind) (length before) ≡ row
row_here [] row behind = refl
row_here (x ∷ before) row behind = row_here before row behind

word_here : (before : List (List ℕ)) (done : List ℕ) (old new : ℕ) (rest : List ℕ) (behind : List (List ℕ)) → with_word (before ++ (done ++ old ∷ rest) ∷ behind) (length before) (length done) new ≡ before ++ ((done ++ new ∷ []) ++ rest) ∷ behind
word_here before done old new rest behind =
    ap (λ (row : List ℕ). set (before ++ (done ++ old ∷ rest) ∷ behind) (length before) (set row (length done) new)) (row_here before (done ++ old ∷ rest) behind)
    ∙ (ap (λ (row : List ℕ). set (before ++ (done ++ old ∷ rest) ∷ behind) (length before) row) (set_here done old new rest)
    ∙ (set_here before (done ++ old ∷ rest) ((done ++ new ∷ []) ++ rest) behind
    ∙ append_assoc before (((done ++ new ∷ []) ++ rest) ∷ []) behind))

there_is : (before : List (List ℕ)) (done : List ℕ) (old : ℕ) (rest : List ℕ) (behind : List (List ℕ)) → HasWord (before ++ (done ++ old ∷ rest) ∷ behind) (length before) (length done)
there_is before done old rest behind =
    let row : length (table_at (before ++ (done ++ old ∷ rest) ∷ behind) (length before)) ≡ length (done ++ old ∷ rest) = ap length (row_here before (done ++ old ∷ rest) behind) in
    (omega (arith, length-append before ((done ++ old ∷ rest) ∷ behind)), omega (arith, row, length-append done (old ∷ rest)))

abbrev with_tables : BegunState → ℕ → ℕ → ℕ → List (List ℕ) → BegunState
with_tables b after table index tables = record b { after = after; table = table; index = index; runs = record b.runs { runs = record b.runs.runs { tables = tables } } }

record WordsDone (b to : BegunState) (tables : List (List ℕ)) (table index : ℕ) : Type 0 where
  key : (to.table ≤ table) × (to.table ≡ table → to.index ≤ index)
  after : to.after ≤ 4
  same : to ≡ with_tables b to.after to.table to.index tables

abbrev WordsLead : BegunState → (table index : ℕ) → List ℕ → List (List ℕ) → Type 0
WordsLead b table index more tables = (to : BegunState) × Takes b (words_from table index more) to × WordsDone b to tables table (index + length more)

words_all : (b : BegunState) (index : ℕ) (before : List (List ℕ)) (done more : List ℕ) (behind : List (List ℕ)) → IsComplete b → b.after ≤ 4 → length done ≡ index → (b.table ≤ length before) × (b.table ≡ length before → b.index ≤ index)
    → b.runs.runs.tables ≡ before ++ (done ++ replicate (length more) 0) ∷ behind → All (λ (w : ℕ). w < 2 ^ 64) more → WordsLead b (length before) index more (before ++ (done ++ more) ∷ behind)
words_all b index before done [] behind complete after count key is all = (
  b,
  refl,
  record {
    key = (key.0, λ e. omega (arith, key.1 e));
    after = after;
    same = λ i. with_tables b b.after b.table b.index (is i);
  },
)
words_all b index before done (w ∷ more) behind complete after count key is all =
    elim (cases_eq w 0) [
      | inl none ↦
          let tables : b.runs.runs.tables ≡ before ++ ((done ++ 0 ∷ []) ++ replicate (length more) 0) ∷ behind =
          is ∙ ap (λ (row : List ℕ). before ++ row ∷ behind) (sym (append_assoc done (0 ∷ []) (replicate (length more) 0))) in
          let rest = words_all b (index + 1) before (done ++ 0 ∷ []) more behind complete after (omega (arith, count, length-append done (0 ∷ []))) (key.0, λ e. omega (arith, key.1 e)) tables (All-tail (λ (x : ℕ). x < 2 ^ 64) w more all) in
          let joined : before ++ ((done ++ 0 ∷ []) ++ more) ∷ behind ≡ before ++ (done ++ w ∷ more) ∷ behind =
          ap (λ (row : List ℕ). before ++ row ∷ behind) (append_assoc done (0 ∷ []) more ∙ ap (λ (x : ℕ). done ++ x ∷ more) (sym none)) in (
            rest.0,
            subst (λ (xs : List CarriedLine). Takes b xs rest.0)
                (sym (cond-true (eqb w 0) (words_from (length before) (index + 1) more) (lines.Word (length before) index w ∷ words_from (length before) (index + 1) more) (eq-eqb w 0 none))) rest.1,
            record {
              key = (rest.2.key.0, λ e. omega (arith, rest.2.key.1 e));
              after = rest.2.after;
              same = rest.2.same ∙ ap (λ (ts : List (List ℕ)). with_tables b rest.0.after rest.0.table rest.0.index ts) joined;
            },
          )
      | inr some ↦
          let line : CarriedLine = lines.Word (length before) index w in
          let next : BegunState = with_line line b in
          let there : HasWord b.runs.runs.tables (length before) index =
          subst (λ (ts : List (List ℕ)). HasWord ts (length before) index) (sym is) (subst (λ (n : ℕ). HasWord (before ++ (done ++ 0 ∷ replicate (length more) 0) ∷ behind) (length before) n) count (there_is before done 0 (replicate (length more) 0) behind)) in
          let tables : next.runs.runs.tables ≡ before ++ ((done ++ w ∷ []) ++ replicate (length more) 0) ∷ behind =
          ap (λ (ts : List (List ℕ)). with_word ts (length before) index w) is
          ∙ (ap (λ (n : ℕ). with_word (before ++ (done ++ 0 ∷ replicate (length more) 0) ∷ behind) (length before) n w) (sym count)
          ∙ word_here before done 0 w (replicate (length more) 0) behind) in
          let rest = words_all next (index + 1) before (done ++ w ∷ []) more behind complete (omega arith) (omega (arith, count, length-append done (w ∷ []))) (omega arith, λ _. omega arith) tables (All-tail (λ (x : ℕ). x < 2 ^ 64) w more all) in
          let joined : before ++ ((done ++ w ∷ []) ++ more) ∷ behind ≡ before ++ (done ++ w ∷ more) ∷ behind = ap (λ (row : List ℕ). before ++ row ∷ behind) (append_assoc done (w ∷ []) more) in (
            rest.0,
            subst (λ (xs : List CarriedLine). Takes b xs rest.0)
                (sym (cond-false (eqb w 0) (words_from (length before) (index + 1) more) (line ∷ words_from (length before) (index + 1) more) (ne_eqb w 0 some)))
                (All-head (λ (x : ℕ). x < 2 ^ 64) w more all, ((complete, after), omega (arith, some), key, there), rest.1),
            record {
              key = (rest.2.key.0, λ e. omega (arith, rest.2.key.1 e));
              after = rest.2.after;
              same = rest.2.same ∙ ap (λ (ts : List (List ℕ)). with_tables b rest.0.after rest.0.table rest.0.index ts) joined;
            },
          )
    ]

record TablesDone (b to : BegunState) (tables : List (List ℕ)) : Type 0 where
  after : to.after ≤ 4
  same : to ≡ with_tables b to.after to.table to.index tables

abbrev TablesLead : BegunState → ℕ → List (List ℕ) → List (List ℕ) → Type 0
TablesLead b table more tables = (to : BegunState) × Takes b (tables_from table more) to × TablesDone b to tables

tables_all : (b : BegunState) (before more : List (List ℕ)) → IsComplete b → b.after ≤ 4 → (b.table ≤ length before) × (b.table ≡ length before → b.index ≤ 0) → b.runs.runs.tables ≡ before ++ map zero_table (map (λ (ws : List ℕ). length ws) more) → All (All (λ (w : ℕ). w < 2 ^ 64)) more → TablesLead b (length before) more (before ++ more)
tables_all b before [] complete after key is all = (b, refl, record { after = after; same = λ i. with_tables b b.after b.table b.index (is i) })
tables_all b before (ws ∷ more) complete after key is all =
    let zero_rest : List (List ℕ) = map zero_table (map (λ (xs : List ℕ). length xs) more) in
    let first = words_all b 0 before [] ws zero_rest complete after refl key is (All-head (All (λ (w : ℕ). w < 2 ^ 64)) ws more all) in
    let between : BegunState = first.0 in
    let count = length-append before (ws ∷ []) in
    let one : length (before ++ ws ∷ []) ≡ length before + 1 = omega (arith, count) in
    let is_between : between.runs.runs.tables ≡ (before ++ ws ∷ []) ++ zero_rest =
    ap (λ (x : BegunState). x.runs.runs.tables) first.2.same ∙ sym (append_assoc before (ws ∷ []) zero_rest) in
    let complete_between : IsComplete between = ap (λ (x : BegunState). x.opened) first.2.same ∙ (complete ∙ ap (λ (x : BegunState). queue_count x.setup) (sym first.2.same)) in
    let second = tables_all between (before ++ ws ∷ []) more complete_between first.2.after (omega (arith, first.2.key.0, one), λ e. absurd (omega (arith, first.2.key.0, one, e))) is_between (All-tail (All (λ (w : ℕ). w < 2 ^ 64)) ws more all) in
    let to : BegunState = second.0 in (
      to,
      takes_both b between to (words_from (length before) 0 ws) (tables_from (length before + 1) more) first.1 (subst (λ (n : ℕ). Takes between (tables_from n more) to) one second.1),
      record {
        after = second.2.after;
        same = second.2.same
            ∙ (ap (λ (x : BegunState). with_tables x to.after to.table to.index ((before ++ ws ∷ []) ++ more)) first.2.same
            ∙ ap (λ (ts : List (List ℕ)). with_tables b to.after to.table to.index ts) (append_assoc before (ws ∷ []) more));
      },
    )

-- ---- CCBs

state_back : (s : CcbState) → (s ≡ Waiting) ⊎ (s ≡ Active) → carried_state (is_active s) ≡ s
state_back s (inl waits) = ap (λ (x : CcbState). carried_state (is_active x)) waits ∙ sym waits
state_back s (inr works) = ap (λ (x : CcbState). carried_state (is_active x)) works ∙ sym works

active_back : (s : CcbState) → is_active s ≡ true → s ≡ Active
active_back Waiting works = absurd (let bad : false ≡ true = works in cc)
active_back Active works = refl
active_back InRecovery works = absurd (let bad : false ≡ true = works in cc)

ccb_back : (c : LiveCcb) → IsCarriedCcb c → carried_of (ccb_in c) ≡ c
ccb_back c is = λ i. record {
  ccb = record c.ccb { status = sym is.status i; scsi = sym is.scsi i; sense = sym is.sense i; freeze_taken = sym is.freeze i };
  state = state_back c.state is.state i;
}

abbrev with_live : BegunState → ℕ → List LiveCcb → ℕ → BegunState
with_live b after live greatest = record b { after = after; transport = record b.transport { live = live; greatest_ccb = greatest } }

record CcbsDone (b to : BegunState) (live : List LiveCcb) : Type 0 where
  after : to.after ≤ 5
  same : to ≡ with_live b to.after live to.transport.greatest_ccb

abbrev CcbsLead : BegunState → List LiveCcb → List LiveCcb → Type 0
CcbsLead b more live = (to : BegunState) × Takes b (ccb_lines more) to × CcbsDone b to live

-- one more finds room
room_for : (transport : Transport) (done more : List LiveCcb) (c : LiveCcb) → transport.live ≡ done → c.ccb.queue.0 < length transport.openings → live_count c.ccb.queue.0 (done ++ c ∷ more) ≤ 256 → length (done ++ c ∷ more) ≤ 4096 → carry_refusal transport (ccb_in c) ≡ None
room_for transport done more c is known few all =
    let q = c.ccb.queue.0 in
    let counts : LiveCcb → ℕ = λ x. cond (is_of q x) 1 0 in
    let own : counts c ≡ 1 = ap (λ (b : Bool). cond {A = ℕ} b 1 0) (eq-eqb q q refl) in
    let here : live_count q transport.live ≡ live_count q done = ap (live_count q) is in
    let long : length transport.live ≡ length done = ap length is in
    cond-false (leb (length transport.openings) q) _ _ (lt-leb _ _ known)
    ∙ (cond-false (leb 256 (live_count q transport.live)) _ _ (lt-leb _ _ (omega (arith, here, few, sum_by-append counts done (c ∷ more), sum_by-cons counts c more, own)))
    ∙ cond-false (leb 4096 (length transport.live)) _ _ (lt-leb _ _ (omega (arith, long, all, length-append done (c ∷ more)))))

ccbs_all : (b : BegunState) (done more : List LiveCcb) (high : ℕ) → IsComplete b → b.after ≤ 5 → b.transport.live ≡ done → AreRising b.transport.greatest_ccb (map ccb_key more) high → high ≤ b.ccb → All IsCarriedCcb more → (has_classes b.setup ≡ false → All IsPlain more) → All (λ (x : LiveCcb). x.ccb.queue.0 < length b.transport.openings) more
    → ((q : ℕ) → live_count q (done ++ more) ≤ 256) → length (done ++ more) ≤ 4096 → CcbsLead b more (done ++ more)
ccbs_all b done [] high complete after is rising below carried plain known few all = (
  b,
  refl,
  record {
    after = after;
    same = λ i. with_live b b.after ((is ∙ sym (append-nil done)) i) b.transport.greatest_ccb;
  },
)
ccbs_all b done (c ∷ more) high complete after is rising below carried plain known few all =
    let line : CarriedLine = lines.Ccb (ccb_in c) in
    let next : BegunState = with_line line b in
    let joined : (done ++ c ∷ []) ++ more ≡ done ++ c ∷ more = append_assoc done (c ∷ []) more in
    let live : next.transport.live ≡ done ++ c ∷ [] = (λ i. is i ++ ccb_back c (All-head IsCarriedCcb c more carried) i ∷ []) in
    let room = room_for b.transport done more c is (All-head (λ (x : LiveCcb). x.ccb.queue.0 < length b.transport.openings) c more known) (few c.ccb.queue.0) all in
    let fit = fit_by (has_classes b.setup) (ccb_in c) (λ without. All-head IsPlain c more (plain without)) (λ works. (All-head IsCarriedCcb c more carried).advice (active_back c.state works)) in
    let rest = ccbs_all next (done ++ c ∷ []) more high complete (omega arith) live rising.1 below (All-tail IsCarriedCcb c more carried) (λ without. All-tail IsPlain c more (plain without)) (All-tail (λ (x : LiveCcb). x.ccb.queue.0 < length b.transport.openings) c more known)
    (λ q. subst (λ (xs : List LiveCcb). live_count q xs ≤ 256) (sym joined) (few q)) (subst (λ (xs : List LiveCcb). length xs ≤ 4096) (sym joined) all) in
    let high_is = rising_high (ccb_key c) (map ccb_key more) high rising.1 in (
      rest.0,
      (tt, ((complete, after), (rising.0, omega (arith, high_is, below)), room, fit), rest.1),
      record {
        after = rest.2.after;
        same = rest.2.same ∙ ap (λ (xs : List LiveCcb). with_live b rest.0.after xs rest.0.transport.greatest_ccb) joined;
      },
    )

-- ---- freezes

abbrev with_frozen : BegunState → ℕ → List Freeze → ℕ → BegunState
with_frozen b after freezes greatest = record b { after = after; transport = record b.transport { freezes = freezes; greatest_freeze = greatest } }

record FreezesDone (b to : BegunState) (freezes : List Freeze) : Type 0 where
  same : to ≡ with_frozen b to.after freezes to.transport.greatest_freeze

abbrev FreezesLead : BegunState → List Freeze → List Freeze → Type 0
FreezesLead b more freezes = (to : BegunState) × Takes b (freeze_lines more) to × FreezesDone b to freezes

place_for : (freezes done more : List Freeze) (f : Freeze) (greatest : ℕ) → freezes ≡ done → greatest < 4294967295 → frozen f.place (done ++ f ∷ more) ≤ 255 → length (done ++ f ∷ more) ≤ 1024 → meets_limit f.place freezes greatest ≡ false
place_for freezes done more f greatest is numbered few all =
    let counts : Freeze → ℕ = λ x. cond (names f.place x) 1 0 in
    let own : counts f ≡ 1 = ap (λ (b : Bool). cond {A = ℕ} b 1 0) (eq-eqb (index_of f.place) (index_of f.place) refl) in
    let here : frozen f.place freezes ≡ frozen f.place done = ap (frozen f.place) is in
    let long : length freezes ≡ length done = ap length is in
    or_from (leb 255 (frozen f.place freezes) || leb 1024 (length freezes)) (leb 4294967295 greatest)
    (or_from (leb 255 (frozen f.place freezes)) (leb 1024 (length freezes))
    (lt-leb _ _ (omega (arith, here, few, sum_by-append counts done (f ∷ more), sum_by-cons counts f more, own)))
    (lt-leb _ _ (omega (arith, long, all, length-append done (f ∷ more)))))
    (lt-leb _ _ numbered)

freezes_all : (b : BegunState) (done more : List Freeze) (high : ℕ) → IsComplete b → b.transport.freezes ≡ done → AreRising b.transport.greatest_freeze (map freeze_key more) high → high ≤ b.freeze → high ≤ 4294967295 → All (IsCarriedFreeze b.setup) more
    → ((place : Place) → frozen place (done ++ more) ≤ 255) → length (done ++ more) ≤ 1024 → FreezesLead b more (done ++ more)
freezes_all b done [] high complete is rising below most carried few all = (
  b,
  refl,
  record { same = λ i. with_frozen b b.after ((is ∙ sym (append-nil done)) i) b.transport.greatest_freeze },
)
freezes_all b done (f ∷ more) high complete is rising below most carried few all =
    let line : CarriedLine = lines.Freeze f in
    let next : BegunState = with_line line b in
    let joined : (done ++ f ∷ []) ++ more ≡ done ++ f ∷ more = append_assoc done (f ∷ []) more in
    let freezes : next.transport.freezes ≡ done ++ f ∷ [] = ap (λ (xs : List Freeze). xs ++ f ∷ []) is in
    let it = All-head (IsCarriedFreeze b.setup) f more carried in
    let high_is = rising_high (freeze_key f) (map freeze_key more) high rising.1 in
    let room = place_for b.transport.freezes done more f b.transport.greatest_freeze is (omega (arith, rising.0, high_is, most)) (few f.place) all in
    let rest = freezes_all next (done ++ f ∷ []) more high complete freezes rising.1 below most (All-tail (IsCarriedFreeze b.setup) f more carried)
    (λ place. subst (λ (xs : List Freeze). frozen place xs ≤ 255) (sym joined) (few place)) (subst (λ (xs : List Freeze). length xs ≤ 1024) (sym joined) all) in (
      rest.0,
      (tt, ((complete, it.holder), (rising.0, omega (arith, high_is, below)), it.place, room), rest.1),
      record { same = rest.2.same ∙ ap (λ (xs : List Freeze). with_frozen b rest.0.after xs rest.0.transport.greatest_freeze) joined },
    )

-- ---- all of them

record Whole (setup : Setup) (world : World) : Type 0 where
  to : BegunState
  takes : Takes (begun setup) (lines_of world) to
  complete : IsComplete to
  is : finished to ≡ world

-- what a state has of the world, with these CCBs, freezes and tables so far
record Known (setup : Setup) (world : World) (s : BegunState) (live : List LiveCcb) (freezes : List Freeze) (tables : List (List ℕ)) : Type 0 where
  setup_is : s.setup ≡ setup
  ccb : s.ccb ≡ world.transport.greatest_ccb
  freeze : s.freeze ≡ world.transport.greatest_freeze
  run : s.run ≡ world.runs.greatest
  opened : s.opened ≡ queue_count setup
  openings : s.transport.openings ≡ world.transport.openings
  clock : s.transport.clock ≡ world.transport.clock
  live_are : s.transport.live ≡ live
  freezes_are : s.transport.freezes ≡ freezes
  tables_are : s.runs.runs.tables ≡ tables
  list : s.runs.runs.list ≡ []

known_tables : (setup : Setup) (world : World) (s : BegunState) (live : List LiveCcb) (freezes : List Freeze) (old new : List (List ℕ)) (after table index : ℕ) → Known setup world s live freezes old → Known setup world (with_tables s after table index new) live freezes new
known_tables setup world s live freezes old new after table index k = record {
  setup_is = k.setup_is;
  ccb = k.ccb;
  freeze = k.freeze;
  run = k.run;
  opened = k.opened;
  openings = k.openings;
  clock = k.clock;
  live_are = k.live_are;
  freezes_are = k.freezes_are;
  tables_are = refl;
  list = k.list;
}

known_live : (setup : Setup) (world : World) (s : BegunState) (old new : List LiveCcb) (freezes : List Freeze) (tables : List (List ℕ)) (after greatest : ℕ) → Known setup world s old freezes tables → Known setup world (with_live s after new greatest) new freezes tables
known_live setup world s old new freezes tables after greatest k = record {
  setup_is = k.setup_is;
  ccb = k.ccb;
  freeze = k.freeze;
  run = k.run;
  opened = k.opened;
  openings = k.openings;
  clock = k.clock;
  live_are = refl;
  freezes_are = k.freezes_are;
  tables_are = k.tables_are;
  list = k.list;
}

known_frozen : (setup : Setup) (world : World) (s : BegunState) (live : List LiveCcb) (old new : List Freeze) (tables : List (List ℕ)) (after greatest : ℕ) → Known setup world s live old tables → Known setup world (with_frozen s after new greatest) live new tables
known_frozen setup world s live old new tables after greatest k = record {
  setup_is = k.setup_is;
  ccb = k.ccb;
  freeze = k.freeze;
  run = k.run;
  opened = k.opened;
  openings = k.openings;
  clock = k.clock;
  live_are = k.live_are;
  freezes_are = refl;
  tables_are = k.tables_are;
  list = k.list;
}

-- each queue has its openings
all_opened : (setup : Setup) (world : World) (s : BegunState) (live : List LiveCcb) (freezes : List Freeze) (tables : List (List ℕ)) → Known setup world s live freezes tables → IsComplete s
all_opened setup world s live freezes tables k = k.opened ∙ ap queue_count (sym k.setup_is)

known_whole : (setup : Setup) (world : World) (d : BegunState) → IsBeginning setup world → Known setup world d world.transport.live world.transport.freezes world.runs.tables → finished d ≡ world
known_whole setup world d is k = λ i. record {
  transport = record { live = k.live_are i; openings = k.openings i; freezes = k.freezes_are i; greatest_ccb = k.ccb i; greatest_freeze = k.freeze i; clock = k.clock i };
  runs = record { list = (k.list ∙ sym is.no_run) i; greatest = k.run i; tables = k.tables_are i };
  ended = sym is.none_ended i;
}

-- these lines lead from the state to the world
abbrev Ends : World → BegunState → List CarriedLine → Type 0
Ends world s more = (d : BegunState) × Takes s more d × IsComplete d × (finished d ≡ world)

frozen_ends : (setup : Setup) (world : World) (c d : BegunState) → IsBeginning setup world → Known setup world c world.transport.live [] world.runs.tables → Takes c (freeze_lines world.transport.freezes) d → FreezesDone c d world.transport.freezes → Ends world c (freeze_lines world.transport.freezes)
frozen_ends setup world c d is k takes done =
    let kd : Known setup world d world.transport.live world.transport.freezes world.runs.tables =
    subst (λ (s : BegunState). Known setup world s world.transport.live world.transport.freezes world.runs.tables) (sym done.same)
    (known_frozen setup world c world.transport.live [] world.transport.freezes world.runs.tables d.after d.transport.greatest_freeze k) in
    (d, takes, all_opened setup world d world.transport.live world.transport.freezes world.runs.tables kd, known_whole setup world d is kd)

by_freezes : (setup : Setup) (world : World) (c : BegunState) → IsBeginning setup world → Known setup world c world.transport.live [] world.runs.tables → c.transport.greatest_freeze ≡ 0 → Ends world c (freeze_lines world.transport.freezes)
by_freezes setup world c is k none =
    let limits = is.limits in
    let all = freezes_all c [] world.transport.freezes world.transport.greatest_freeze (all_opened setup world c world.transport.live [] world.runs.tables k) k.freezes_are
    (subst (λ (n : ℕ). AreRising n (map freeze_key world.transport.freezes) world.transport.greatest_freeze) (sym none) limits.freezes.numbered) (least c.freeze world.transport.greatest_freeze k.freeze) limits.freezes.numbers
    (subst (λ (s : Setup). All (IsCarriedFreeze s) world.transport.freezes) (sym k.setup_is) is.freezes) limits.freezes.a_place limits.freezes.ledger in
    frozen_ends setup world c all.0 is k all.1 all.2

-- lines that lead to a state from which the others lead to the world
joins : (world : World) (s t : BegunState) (first more : List CarriedLine) → Takes s first t → Ends world t more → Ends world s (first ++ more)
joins world s t first more takes ends = (ends.0, takes_both s t ends.0 first more takes ends.1, ends.2, ends.3)

entered_ends : (setup : Setup) (world : World) (b c : BegunState) → IsBeginning setup world → Known setup world b [] [] world.runs.tables → b.transport.greatest_freeze ≡ 0 → Takes b (ccb_lines world.transport.live) c → CcbsDone b c world.transport.live
    → Ends world b (ccb_lines world.transport.live ++ freeze_lines world.transport.freezes)
entered_ends setup world b c is k none takes done =
    joins world b c (ccb_lines world.transport.live) (freeze_lines world.transport.freezes) takes (by_freezes setup world c is
    (subst (λ (s : BegunState). Known setup world s world.transport.live [] world.runs.tables) (sym done.same) (known_live setup world b [] world.transport.live [] world.runs.tables c.after c.transport.greatest_ccb k))
    (ap (λ (s : BegunState). s.transport.greatest_freeze) done.same ∙ none))

by_ccbs : (setup : Setup) (world : World) (b : BegunState) → IsBeginning setup world → Known setup world b [] [] world.runs.tables → b.after ≤ 4 → b.transport.greatest_ccb ≡ 0 → b.transport.greatest_freeze ≡ 0
    → Ends world b (ccb_lines world.transport.live ++ freeze_lines world.transport.freezes)
by_ccbs setup world b is k after first none =
    let limits = is.limits in
    let known : All (λ (x : LiveCcb). x.ccb.queue.0 < length b.transport.openings) world.transport.live =
    subst (λ (n : ℕ). All (λ (x : LiveCcb). x.ccb.queue.0 < n) world.transport.live) (sym (ap length k.openings ∙ limits.answers.queues)) limits.ccbs.queues in
    let all = ccbs_all b [] world.transport.live world.transport.greatest_ccb (all_opened setup world b [] [] world.runs.tables k) (omega (arith, after)) k.live_are
    (subst (λ (n : ℕ). AreRising n (map ccb_key world.transport.live) world.transport.greatest_ccb) (sym first) limits.ccbs.rising) (least b.ccb world.transport.greatest_ccb k.ccb) is.ccbs
    (subst (λ (s : Setup). has_classes s ≡ false → All IsPlain world.transport.live) (sym k.setup_is) limits.ccbs.plain) known limits.ccbs.a_queue limits.ccbs.all in
    entered_ends setup world b all.0 is k none all.1 all.2

worded_ends : (setup : Setup) (world : World) (a b : BegunState) (tables : List (List ℕ)) → IsBeginning setup world → Known setup world a [] [] tables → a.transport.greatest_ccb ≡ 0 → a.transport.greatest_freeze ≡ 0 → Takes a (tables_from 0 world.runs.tables) b → TablesDone a b world.runs.tables
    → Ends world a (tables_from 0 world.runs.tables ++ (ccb_lines world.transport.live ++ freeze_lines world.transport.freezes))
worded_ends setup world a b tables is k first none takes done =
    joins world a b (tables_from 0 world.runs.tables) (ccb_lines world.transport.live ++ freeze_lines world.transport.freezes) takes (by_ccbs setup world b is
    (subst (λ (s : BegunState). Known setup world s [] [] world.runs.tables) (sym done.same) (known_tables setup world a [] [] tables world.runs.tables b.after b.table b.index k))
    done.after (ap (λ (s : BegunState). s.transport.greatest_ccb) done.same ∙ first) (ap (λ (s : BegunState). s.transport.greatest_freeze) done.same ∙ none))

by_words : (setup : Setup) (world : World) (a : BegunState) → IsBeginning setup world → Known setup world a [] [] (map zero_table setup.limits.table_lengths) → a.after ≤ 3 → a.table ≡ 0 → a.index ≡ 0 → a.transport.greatest_ccb ≡ 0 → a.transport.greatest_freeze ≡ 0
    → Ends world a (tables_from 0 world.runs.tables ++ (ccb_lines world.transport.live ++ freeze_lines world.transport.freezes))
by_words setup world a is k after table index first none =
    let limits = is.limits in
    let all = tables_all a [] world.runs.tables (all_opened setup world a [] [] (map zero_table setup.limits.table_lengths) k) (omega (arith, after)) (omega (arith, table), λ _. omega (arith, index))
    (k.tables_are ∙ ap (map zero_table) (sym limits.answers.lengths)) limits.answers.words in
    worded_ends setup world a all.0 (map zero_table setup.limits.table_lengths) is k first none all.1 all.2

-- after the numbers and the clock
abbrev clocked : Setup → World → BegunState
clocked setup world = with_line (lines.Clock world.transport.clock) (with_line (lines.Numbers world.transport.greatest_ccb world.transport.greatest_freeze world.runs.greatest) (begun setup))

opened_ends : (setup : Setup) (world : World) (a : BegunState) → IsBeginning setup world → Takes (clocked setup world) (openings_from 0 world.transport.openings) a → OpeningsDone (clocked setup world) a world.transport.openings
    → Ends world (clocked setup world) (openings_from 0 world.transport.openings ++ (tables_from 0 world.runs.tables ++ (ccb_lines world.transport.live ++ freeze_lines world.transport.freezes)))
opened_ends setup world a is takes done =
    let second : BegunState = clocked setup world in
    let opening_is : Known setup world (record second { after = a.after; opened = a.opened; transport = record second.transport { openings = world.transport.openings } }) [] [] (map zero_table setup.limits.table_lengths) =
    record { setup_is = refl; ccb = refl; freeze = refl; run = refl; opened = done.opened_all ∙ is.limits.answers.queues; openings = refl; clock = refl; live_are = refl; freezes_are = refl; tables_are = refl; list = refl } in
    joins world second a (openings_from 0 world.transport.openings) (tables_from 0 world.runs.tables ++ (ccb_lines world.transport.live ++ freeze_lines world.transport.freezes)) takes (by_words setup world a is
    (subst (λ (s : BegunState). Known setup world s [] [] (map zero_table setup.limits.table_lengths)) (sym done.same) opening_is)
    done.after.1 (ap (λ (s : BegunState). s.table) done.same) (ap (λ (s : BegunState). s.index) done.same) (ap (λ (s : BegunState). s.transport.greatest_ccb) done.same) (ap (λ (s : BegunState). s.transport.greatest_freeze) done.same))

by_openings : (setup : Setup) (world : World) → IsBeginning setup world → Ends world (clocked setup world) (openings_from 0 world.transport.openings ++ (tables_from 0 world.runs.tables ++ (ccb_lines world.transport.live ++ freeze_lines world.transport.freezes)))
by_openings setup world is =
    let queues = is.limits.answers.queues in
    let all = open_all (clocked setup world) [] (opening setup).transport.openings world.transport.openings (omega arith, omega arith) refl refl
    (length-map setup.queues (λ (queue : QueueSetup). queue.openings) ∙ sym queues) (omega (arith, queues)) is.limits.answers.openings in
    opened_ends setup world all.0 is all.1 all.2

whole : (setup : Setup) (world : World) → IsLawful setup → IsBeginning setup world → Whole setup world
whole setup world lawful is =
    let limits = is.limits in
    let ends = by_openings setup world is in
    record {
      to = ends.0;
      takes = ((limits.ccbs.numbers, limits.freezes.numbers, limits.runs.numbers), refl, (tt, (refl, limits.answers.clock), ends.1));
      complete = ends.2;
      is = ends.3;
    }

-- a line that some world has after these may come next
may_by : (setup : Setup) → IsLawful setup → (xs : List CarriedLine) (b : BegunState) → Takes (begun setup) xs b → (line : CarriedLine) → IsFront setup (xs ++ line ∷ []) → MayFollow b line
may_by setup lawful xs b takes line front =
    let it = whole setup front.world lawful front.is in
    let longer : lines_of front.world ≡ xs ++ line ∷ front.rest = front.begins ∙ append_assoc xs (line ∷ []) front.rest in
    let parts = splits (begun setup) it.to xs line front.rest (subst (λ (ys : List CarriedLine). Takes (begun setup) ys it.to) longer it.takes) in
    subst (λ (s : BegunState). MayFollow s line) (one_state (begun setup) parts.between b xs parts.first takes) parts.may

-- a world with just these lines is what they make
one_world : (setup : Setup) → IsLawful setup → (xs : List CarriedLine) (b : BegunState) → Takes (begun setup) xs b → (world : World) → IsBeginning setup world → lines_of world ≡ xs → IsComplete b × (finished b ≡ world)
one_world setup lawful xs b takes world is same =
    let it = whole setup world lawful is in
    let one : it.to ≡ b = one_state (begun setup) it.to b xs (subst (λ (ys : List CarriedLine). Takes (begun setup) ys it.to) same it.takes) takes in
    (subst IsComplete one it.complete, subst (λ (s : BegunState). finished s ≡ world) one it.is)

pub lines_are_exact : LinesAreExact
lines_are_exact = (may_by, one_world)

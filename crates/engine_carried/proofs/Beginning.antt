-- What is taken over from a world that may be left is one that may be taken over, where it fits.
use Rattle.std.proofs.Common.{◌≡◌, ℕ, zero, suc, ◌+◌, ◌<◌, ◌≤◌, ◌^◌, List, [], ◌∷◌, length, map, Bool, true, false, cond, eqb, get_or, inl, inr, refl, ap, sym, subst, ◌∙◌, arith}
use Rattle.std.specs.Prelude.{All}
use Rattle.std.specs.List.{count_by, range_with_len}
use Rattle.std.proofs.lemmas.Bool.{and_parts, cases_Bool, cond-true, cond-false, eqb-true}
use Rattle.std.proofs.lemmas.List.{get_or-map, length-map}
use Rattle.std.proofs.lemmas.List.Elements.{All-cons, All-from_get_or, All-get_or, All-head, All-nil, All-tail}
use Rattle.std.proofs.lemmas.List.FromFn.{get_or-map-range_with_len, length-map-range_with_len}
use Rattle.std.proofs.lemmas.List.Sums.{sum_by-cons}
use Rattle.ccb.specs.Rising.{AreRising}
use Rattle.freeze_ledger.specs.declared.freeze.Freeze.{Freeze}
use Rattle.freeze_ledger.specs.Freezes.{names}
use Rattle.world.specs.Beginning.{IsBeginning, IsCarriedCcb, IsCarriedFreeze}
use Rattle.world.specs.Capacities.{most_openings}
use Rattle.world.specs.Lawful.{IsLawful, IsLawfulQueue}
use Rattle.world.specs.Limits.{AnswerLimits, CcbLimits, FreezeLimits, IsPlain, RunLimits}
use Rattle.world.specs.Lookups.{is_of}
use Rattle.world.specs.Refusals.{is_unknown}
use Rattle.world.specs.World.{LiveCcb, QueueSetup, Setup, World, no_queue, queue_count, queue_setup}
use Rattle.world.proofs.Lists.Entries.{freeze_key}
use Rattle.world.proofs.Steps.Moves.{ccb_key}
use Rattle.engine_carried.specs.declared.numbering.Numbering.{Numbering}
use Rattle.engine_carried.specs.declared.numbering.Numbering.TheVariants.{Fresh, Same}
use Rattle.engine_carried.specs.Leaving.{left_by}
use Rattle.engine_carried.specs.TakenOver.{Fits, are_same_words, ccbs_from, ccbs_under, freezes_from, first_words, freezes_under, keeps_words, openings_over, table_length, taken_over, words_over}

-- ---- fresh numbers

pub ccbs_length : (n : ℕ) (ccbs : List LiveCcb) → length (ccbs_from n ccbs) ≡ length ccbs
ccbs_length n [] = refl
ccbs_length n (live ∷ ccbs) = ap suc (ccbs_length (n + 1) ccbs)

pub freezes_length : (n : ℕ) (freezes : List Freeze) → length (freezes_from n freezes) ≡ length freezes
freezes_length n [] = refl
freezes_length n (freeze ∷ freezes) = ap suc (freezes_length (n + 1) freezes)

ccbs_rise : (n : ℕ) (ccbs : List LiveCcb) → AreRising n (map ccb_key (ccbs_from (n + 1) ccbs)) (n + length ccbs)
ccbs_rise n [] = omega arith
ccbs_rise n (live ∷ ccbs) = (omega arith, subst (AreRising (n + 1) (map ccb_key (ccbs_from (n + 1 + 1) ccbs))) (omega arith) (ccbs_rise (n + 1) ccbs))

freezes_rise : (n : ℕ) (freezes : List Freeze) → AreRising n (map freeze_key (freezes_from (n + 1) freezes)) (n + length freezes)
freezes_rise n [] = omega arith
freezes_rise n (freeze ∷ freezes) = (omega arith, subst (AreRising (n + 1) (map freeze_key (freezes_from (n + 1 + 1) freezes))) (omega arith) (freezes_rise (n + 1) freezes))

-- what does not look at the number counts the same
ccbs_count : (test : LiveCcb → Bool) → ((k : ℕ) (live : LiveCcb) → test (record live { ccb = record live.ccb { number = record { 0 = k } } }) ≡ test live) → (n : ℕ) (ccbs : List LiveCcb) → count_by test (ccbs_from n ccbs) ≡ count_by test ccbs
ccbs_count test same n [] = refl
ccbs_count test same n (live ∷ ccbs) =
    sum_by-cons (λ x. cond (test x) 1 0) (record live { ccb = record live.ccb { number = record { 0 = n } } }) (ccbs_from (n + 1) ccbs)
    ∙ (ap (λ (b : Bool). cond {A = ℕ} b 1 0 + count_by test (ccbs_from (n + 1) ccbs)) (same n live)
    ∙ (ap (λ (k : ℕ). cond {A = ℕ} (test live) 1 0 + k) (ccbs_count test same (n + 1) ccbs) ∙ sym (sum_by-cons (λ x. cond (test x) 1 0) live ccbs)))

freezes_count : (test : Freeze → Bool) → ((k : ℕ) (freeze : Freeze) → test (record freeze { number = k }) ≡ test freeze) → (n : ℕ) (freezes : List Freeze) → count_by test (freezes_from n freezes) ≡ count_by test freezes
freezes_count test same n [] = refl
freezes_count test same n (freeze ∷ freezes) =
    sum_by-cons (λ x. cond (test x) 1 0) (record freeze { number = n }) (freezes_from (n + 1) freezes)
    ∙ (ap (λ (b : Bool). cond {A = ℕ} b 1 0 + count_by test (freezes_from (n + 1) freezes)) (same n freeze)
    ∙ (ap (λ (k : ℕ). cond {A = ℕ} (test freeze) 1 0 + k) (freezes_count test same (n + 1) freezes) ∙ sym (sum_by-cons (λ x. cond (test x) 1 0) freeze freezes)))

-- what does not look at the number holds of all
ccbs_all : (P : LiveCcb → Type 0) → ((k : ℕ) (live : LiveCcb) → P live → P (record live { ccb = record live.ccb { number = record { 0 = k } } })) → (n : ℕ) (ccbs : List LiveCcb) → All P ccbs → All P (ccbs_from n ccbs)
ccbs_all P keep n [] all = All-nil P
ccbs_all P keep n (live ∷ ccbs) all = All-cons P _ (ccbs_from (n + 1) ccbs) (keep n live (All-head P live ccbs all)) (ccbs_all P keep (n + 1) ccbs (All-tail P live ccbs all))

freezes_all : (P : Freeze → Type 0) → ((k : ℕ) (freeze : Freeze) → P freeze → P (record freeze { number = k })) → (n : ℕ) (freezes : List Freeze) → All P freezes → All P (freezes_from n freezes)
freezes_all P keep n [] all = All-nil P
freezes_all P keep n (freeze ∷ freezes) all = All-cons P _ (freezes_from (n + 1) freezes) (keep n freeze (All-head P freeze freezes all)) (freezes_all P keep (n + 1) freezes (All-tail P freeze freezes all))

-- ---- the parts of what is taken over

both : {X : Type 0} (P Q R : X → Type 0) → ((x : X) → P x → Q x → R x) → (xs : List X) → All P xs → All Q xs → All R xs
both P Q R join [] p q = All-nil R
both P Q R join (x ∷ xs) p q = All-cons R x xs (join x (All-head P x xs p) (All-head Q x xs q)) (both P Q R join xs (All-tail P x xs p) (All-tail Q x xs q))

freezes_carried : (old new : Setup) (freezes : List Freeze) → All (IsCarriedFreeze old) freezes → All (λ (f : Freeze). is_unknown new f.place ≡ false) freezes → All (IsCarriedFreeze new) freezes
freezes_carried old new = both (IsCarriedFreeze old) (λ (f : Freeze). is_unknown new f.place ≡ false) (IsCarriedFreeze new) (λ f was there. record { place = there; holder = was.holder })

freeze_limits : (numbering : Numbering) (old new : Setup) (world : World) → FreezeLimits old (left_by world) → Fits new world → FreezeLimits new (taken_over numbering old new world)
freeze_limits Same old new world kept fits = record { places = λ names. fits.freezes; a_place = kept.a_place; ledger = kept.ledger; numbered = kept.numbered; numbers = kept.numbers }
freeze_limits Fresh old new world kept fits = record {
  places = λ names. freezes_all (λ (f : Freeze). is_unknown new f.place ≡ false) (λ k f is. is) 1 world.transport.freezes fits.freezes;
  a_place = λ place. rw (freezes_count (names place) (λ k f. refl) 1 world.transport.freezes) (kept.a_place place);
  ledger = rw (freezes_length 1 world.transport.freezes) kept.ledger;
  numbered = subst (AreRising 0 (map freeze_key (freezes_from 1 world.transport.freezes))) (omega arith) (freezes_rise 0 world.transport.freezes);
  numbers = omega (arith, kept.ledger);
}

ccb_limits : (numbering : Numbering) (old new : Setup) (world : World) → CcbLimits old (left_by world) → Fits new world → CcbLimits new (taken_over numbering old new world)
ccb_limits Same old new world kept fits = record { queues = fits.ccbs; plain = fits.plain; a_queue = kept.a_queue; all = kept.all; rising = kept.rising; numbers = kept.numbers }
ccb_limits Fresh old new world kept fits = record {
  queues = ccbs_all (λ (c : LiveCcb). c.ccb.queue.0 < queue_count new) (λ k c is. is) 1 world.transport.live fits.ccbs;
  plain = λ without. ccbs_all IsPlain (λ k c is. is) 1 world.transport.live (fits.plain without);
  a_queue = λ queue. rw (ccbs_count (is_of queue) (λ k c. refl) 1 world.transport.live) (kept.a_queue queue);
  all = rw (ccbs_length 1 world.transport.live) kept.all;
  rising = subst (AreRising 0 (map ccb_key (ccbs_from 1 world.transport.live))) (omega arith) (ccbs_rise 0 world.transport.live);
  numbers = omega (arith, kept.all);
}

run_limits : (numbering : Numbering) (old new : Setup) (world : World) → RunLimits old (left_by world) → RunLimits new (taken_over numbering old new world)
run_limits Same old new world kept = record { queues = All-nil _; controllers = All-nil _; programs = All-nil _; all = omega arith; rising = omega arith; numbers = kept.numbers }
run_limits Fresh old new world kept = record { queues = All-nil _; controllers = All-nil _; programs = All-nil _; all = omega arith; rising = omega arith; numbers = omega arith }

-- a queue that both setups give the same number is one of both
known_openings : (old new : Setup) (queue : ℕ) → 1 ≤ (queue_setup new queue).openings → (queue_setup old queue).openings ≡ (queue_setup new queue).openings → queue < queue_count old
known_openings old new queue some same = by old.queues queue (omega (arith, some, same))
  where
    by : (queues : List QueueSetup) (k : ℕ) → 1 ≤ (get_or queues k no_queue).openings → k < length queues
    by [] k some = absurd (omega (arith, some))
    by (q ∷ queues) zero some = omega arith
    by (q ∷ queues) (suc k) some = omega (arith, by queues k some)

abbrev AreOpenings : ℕ → Type 0
AreOpenings n = (1 ≤ n) × (n ≤ most_openings)

openings_kept : (old new : Setup) (world : World) → IsLawful new → AnswerLimits old (left_by world) → (queue : ℕ) → queue < queue_count new → (1 ≤ openings_over old new world.transport.openings queue) × (openings_over old new world.transport.openings queue ≤ most_openings)
openings_kept old new world lawful kept queue below =
    let own : AreOpenings (queue_setup new queue).openings = (All-get_or (IsLawfulQueue new.limits) new.queues queue no_queue below lawful.queues).openings in
    let same = eqb (queue_setup old queue).openings (queue_setup new queue).openings in
    elim (cases_Bool same) [
      | inl equal ↦
          let known = known_openings old new queue own.0 (eqb-true _ _ equal) in
          let present : AreOpenings (get_or world.transport.openings queue 0) = All-get_or AreOpenings world.transport.openings queue 0 (omega (arith, known, kept.queues)) kept.openings in
          subst AreOpenings (sym (cond-true same (get_or world.transport.openings queue 0) (queue_setup new queue).openings equal)) present
      | inr apart ↦ subst AreOpenings (sym (cond-false same (get_or world.transport.openings queue 0) (queue_setup new queue).openings apart)) own
    ]

-- a table has its length, and words that fit
pub present_length : (old : Setup) (tables : List (List ℕ)) (table : ℕ) → map (λ (t : List ℕ). length t) tables ≡ old.limits.table_lengths → length (get_or tables table []) ≡ table_length old table
present_length old tables table is = by tables table ∙ ap (λ (ls : List ℕ). get_or ls table 0) is
  where
    by : (ts : List (List ℕ)) (k : ℕ) → length (get_or ts k []) ≡ get_or (map (λ (t : List ℕ). length t) ts) k 0
    by [] k = refl
    by (t ∷ ts) zero = refl
    by (t ∷ ts) (suc k) = by ts k

abbrev AreWords : List ℕ → Type 0
AreWords table = All (λ (w : ℕ). w < 2 ^ 64) table

present_words : (tables : List (List ℕ)) (table : ℕ) → All AreWords tables → AreWords (get_or tables table [])
present_words [] table all = All-nil _
present_words (t ∷ ts) zero all = All-head AreWords t ts all
present_words (t ∷ ts) (suc k) all = present_words ts k (All-tail AreWords t ts all)

-- a table that keeps its words has the same length in both
pub same_length : (old new : Setup) (table : ℕ) → keeps_words old new table ≡ true → table_length old table ≡ table_length new table
same_length old new table keeps =
    eqb-true _ _ (and_parts (eqb (table_length old table) (table_length new table)) (are_same_words (table_length new table) (first_words old table) (first_words new table)) keeps).0

words_length : (old new : Setup) (world : World) → IsLawful new → AnswerLimits old (left_by world) → (table : ℕ) → length (words_over old new world.runs.tables table) ≡ table_length new table
words_length old new world lawful kept table =
    let same = keeps_words old new table in
    elim (cases_Bool same) [
      | inl equal ↦ ap (λ (t : List ℕ). length t) (cond-true same (get_or world.runs.tables table []) (first_words new table) equal) ∙ (present_length old world.runs.tables table kept.lengths ∙ same_length old new table equal)
      | inr apart ↦ ap (λ (t : List ℕ). length t) (cond-false same (get_or world.runs.tables table []) (first_words new table) apart) ∙ present_length new new.tables table lawful.tables.lengths
    ]

words_fit : (old new : Setup) (world : World) → IsLawful new → AnswerLimits old (left_by world) → (table : ℕ) → All (λ (w : ℕ). w < 2 ^ 64) (words_over old new world.runs.tables table)
words_fit old new world lawful kept table =
    let same = keeps_words old new table in
    elim (cases_Bool same) [
      | inl equal ↦ subst AreWords (sym (cond-true same (get_or world.runs.tables table []) (first_words new table) equal)) (present_words world.runs.tables table kept.words)
      | inr apart ↦ subst AreWords (sym (cond-false same (get_or world.runs.tables table []) (first_words new table) apart)) (present_words new.tables table lawful.tables.words)
    ]

-- a list that has these elements
list_is : (xs ys : List ℕ) → length xs ≡ length ys → ((k : ℕ) → k < length ys → get_or xs k 0 ≡ get_or ys k 0) → xs ≡ ys
list_is [] [] same each = refl
list_is [] (y ∷ ys) same each = absurd (omega (arith, same))
list_is (x ∷ xs) [] same each = absurd (omega (arith, same))
list_is (x ∷ xs) (y ∷ ys) same each =
    let rest : xs ≡ ys = list_is xs ys (omega (arith, same)) (λ k below. each (suc k) (omega (arith, below))) in
    let first : x ≡ y = each 0 (omega arith) in
    ap (λ (z : ℕ). z ∷ xs) first ∙ ap (λ (zs : List ℕ). y ∷ zs) rest

all_of_range : {X : Type 0} (P : X → Type 0) (f : ℕ → X) (d : X) (n : ℕ) → ((k : ℕ) → k < n → P (f k)) → All P (map f (range_with_len 0 n))
all_of_range P f d n each =
    All-from_get_or P (map f (range_with_len 0 n)) d (λ k below.
    let within : k < n = omega (arith, below, length-map-range_with_len f 0 n) in
    subst P (sym (get_or-map-range_with_len f 0 n k k d within (omega arith))) (each k within))

answer_limits : (numbering : Numbering) (old new : Setup) (world : World) → IsLawful new → AnswerLimits old (left_by world) → AnswerLimits new (taken_over numbering old new world)
answer_limits numbering old new world lawful kept =
    let tables = map (words_over old new world.runs.tables) (range_with_len 0 (length new.limits.table_lengths)) in
    record {
      queues = length-map-range_with_len (openings_over old new world.transport.openings) 0 (queue_count new);
      openings = all_of_range AreOpenings (openings_over old new world.transport.openings) 0 (queue_count new) (openings_kept old new world lawful kept);
      lengths = list_is (map (λ (t : List ℕ). length t) tables) new.limits.table_lengths
          (length-map tables (λ (t : List ℕ). length t) ∙ length-map-range_with_len (words_over old new world.runs.tables) 0 (length new.limits.table_lengths))
          (λ k below. get_or-map (λ (t : List ℕ). length t) tables k [] 0 (omega (arith, below, length-map-range_with_len (words_over old new world.runs.tables) 0 (length new.limits.table_lengths)))
          ∙ (ap (λ (t : List ℕ). length t) (get_or-map-range_with_len (words_over old new world.runs.tables) 0 (length new.limits.table_lengths) k k [] below (omega arith)) ∙ words_length old new world lawful kept k));
      words = all_of_range AreWords (words_over old new world.runs.tables) [] (length new.limits.table_lengths) (λ k below. words_fit old new world lawful kept k);
      clock = kept.clock;
    }

-- ---- all of it

ccbs_carried : (numbering : Numbering) (ccbs : List LiveCcb) → All IsCarriedCcb ccbs → All IsCarriedCcb (ccbs_under numbering ccbs)
ccbs_carried Same ccbs all = all
ccbs_carried Fresh ccbs all = ccbs_all IsCarriedCcb (λ k live is. record { state = is.state; status = is.status; scsi = is.scsi; sense = is.sense; freeze = is.freeze; advice = is.advice }) 1 ccbs all

freezes_under_carried : (numbering : Numbering) (setup : Setup) (freezes : List Freeze) → All (IsCarriedFreeze setup) freezes → All (IsCarriedFreeze setup) (freezes_under numbering freezes)
freezes_under_carried Same setup freezes all = all
freezes_under_carried Fresh setup freezes all = freezes_all (IsCarriedFreeze setup) (λ k freeze is. record { place = is.place; holder = is.holder }) 1 freezes all

pub taken_over_begins : (numbering : Numbering) (old new : Setup) (world : World) → IsLawful new → IsBeginning old (left_by world) → Fits new world → IsBeginning new (taken_over numbering old new world)
taken_over_begins numbering old new world lawful begins fits = record {
  limits = record {
    freezes = freeze_limits numbering old new world begins.limits.freezes fits;
    ccbs = ccb_limits numbering old new world begins.limits.ccbs fits;
    runs = run_limits numbering old new world begins.limits.runs;
    answers = answer_limits numbering old new world lawful begins.limits.answers;
  };
  ccbs = ccbs_carried numbering world.transport.live begins.ccbs;
  freezes = freezes_under_carried numbering new world.transport.freezes (freezes_carried old new world.transport.freezes begins.freezes fits.freezes);
  no_run = refl;
  none_ended = refl;
}

-- Lines that are added one after the other are the lines of what is taken over.
use Rattle.std.proofs.Common.{◌≡◌, ℕ, zero, suc, ◌+◌, ◌<◌, ◌≤◌, List, [], ◌∷◌, ◌++◌, length, map, Bool, true, false, ◌||◌, eqb, leb, get_or, take, replicate, refl, ap, sym, subst, ◌∙◌, arith, inl, inr}
use Rattle.std.specs.List.{range_with_len}
use Rattle.std.proofs.lemmas.Bool.{cases_Bool, cond-true, cond-false, leb-true, lt-leb}
use Rattle.std.proofs.lemmas.List.{append-nil, append_assoc, get_or-map, length-map, length-take-le, take_all, take_more}
use Rattle.std.proofs.lemmas.List.FromFn.{get_or-map-range_with_len, length-map-range_with_len}
use Rattle.freeze_ledger.specs.declared.freeze.Freeze.{Freeze}
use Rattle.table_store.specs.Tables.{HasWord}
use Rattle.world_calls.specs.declared.carried_line.CarriedLine.{CarriedLine}
use Rattle.world_calls.specs.declared.carried_line.CarriedLine.TheVariants as lines
use Rattle.world.specs.Beginning.{IsBeginning}
use Rattle.world.specs.Capacities.{last_number, most_runs}
use Rattle.world.specs.World.{LiveCcb, Runs, Setup, Transport}
use Rattle.engine_core.specs.EngineState.{EngineState, IsRun}
use Rattle.engine_core.specs.Settings.{setup_over}
use Rattle.engine_beginning.specs.Lines.{ccb_in, ccb_lines, freeze_lines, lines_of, openings_from, tables_from, words_from}
use Rattle.engine_carried.specs.declared.numbering.Numbering.{Numbering}
use Rattle.engine_carried.specs.declared.numbering.Numbering.TheVariants.{Fresh, Same}
use Rattle.engine_carried.specs.FreezeAbove.{number_before}
use Rattle.engine_carried.specs.Leaving.{left_by}
use Rattle.engine_carried.specs.Left.{AreRunsLeft, IsLeft, number_under, world_left}
use Rattle.engine_carried.specs.TakenOver.{ccbs_from, ccbs_under, freezes_from, freezes_under, taken_over}
use Rattle.engine_carried.proofs.Beginning.{ccbs_length, freezes_length}
use Rattle.engine_carried.proofs.Free.{left_begins}

-- ---- a list that is added element by element

module _ {X : Type 0} where
  pub take_pushed : (full : List X) (k : ℕ) (x : X) (before items next : List X) → items ≡ before ++ take k full → next ≡ items ++ x ∷ [] → k < length full → get_or full k x ≡ x → next ≡ before ++ take (k + 1) full
  take_pushed full k x before items next so added below is =
      added ∙ (ap (λ (xs : List X). xs ++ x ∷ []) so ∙ (append_assoc before (take k full) (x ∷ [])
      ∙ ap (λ (xs : List X). before ++ xs) (ap (λ (y : X). take k full ++ y ∷ []) (sym is) ∙ sym (take_more full k x below))))

  pub taken_all : (full : List X) (k : ℕ) (before items : List X) → items ≡ before ++ take k full → length full ≤ k → items ≡ before ++ full
  taken_all full k before items so all = so ∙ ap (λ (xs : List X). before ++ xs) (take_all k full all)

-- ---- openings

pub openings_length : (n : ℕ) (os : List ℕ) → length (openings_from n os) ≡ length os
openings_length n [] = refl
openings_length n (o ∷ os) = ap suc (openings_length (n + 1) os)

pub openings_at : (n : ℕ) (os : List ℕ) (k : ℕ) (d : CarriedLine) → k < length os → get_or (openings_from n os) k d ≡ lines.Openings (n + k) (get_or os k 0)
openings_at n [] k d below = absurd (omega (arith, below))
openings_at n (o ∷ os) zero d below = ap (λ (q : ℕ). lines.Openings q o) (omega arith)
openings_at n (o ∷ os) (suc k) d below =
    openings_at (n + 1) os k d (omega (arith, below)) ∙ ap (λ (q : ℕ). lines.Openings q (get_or os k 0)) (omega arith)

pub openings_line : (f : ℕ → ℕ) (n k value : ℕ) (d : CarriedLine) → k < n → value ≡ f k → get_or (openings_from 0 (map f (range_with_len 0 n))) k d ≡ lines.Openings k value
openings_line f n k value d below is =
    openings_at 0 (map f (range_with_len 0 n)) k d (omega (arith, below, length-map-range_with_len f 0 n))
    ∙ (ap (λ (o : ℕ). lines.Openings (0 + k) o) (get_or-map-range_with_len f 0 n k k 0 below (omega arith) ∙ sym is)
    ∙ ap (λ (q : ℕ). lines.Openings q value) (omega arith))

pub openings_count : (f : ℕ → ℕ) (n : ℕ) → length (openings_from 0 (map f (range_with_len 0 n))) ≡ n
openings_count f n = openings_length 0 (map f (range_with_len 0 n)) ∙ length-map-range_with_len f 0 n

-- ---- words

words_append : (t i : ℕ) (xs ys : List ℕ) → words_from t i (xs ++ ys) ≡ words_from t i xs ++ words_from t (i + length xs) ys
words_append t i [] ys = ap (λ (j : ℕ). words_from t j ys) (omega arith)
words_append t i (x ∷ xs) ys =
    let more : words_from t (i + 1) (xs ++ ys) ≡ words_from t (i + 1) xs ++ words_from t (i + suc (length xs)) ys =
    words_append t (i + 1) xs ys ∙ ap (λ (j : ℕ). words_from t (i + 1) xs ++ words_from t j ys) (omega arith) in
    elim (cases_Bool (eqb x 0)) [
      | inl none ↦
          cond-true (eqb x 0) (words_from t (i + 1) (xs ++ ys)) (lines.Word t i x ∷ words_from t (i + 1) (xs ++ ys)) none
          ∙ (more ∙ ap (λ (ls : List CarriedLine). ls ++ words_from t (i + suc (length xs)) ys) (sym (cond-true (eqb x 0) (words_from t (i + 1) xs) (lines.Word t i x ∷ words_from t (i + 1) xs) none)))
      | inr some ↦
          cond-false (eqb x 0) (words_from t (i + 1) (xs ++ ys)) (lines.Word t i x ∷ words_from t (i + 1) (xs ++ ys)) some
          ∙ (ap (λ (ls : List CarriedLine). lines.Word t i x ∷ ls) more
          ∙ ap (λ (ls : List CarriedLine). ls ++ words_from t (i + suc (length xs)) ys) (sym (cond-false (eqb x 0) (words_from t (i + 1) xs) (lines.Word t i x ∷ words_from t (i + 1) xs) some)))
    ]

pub no_words : (t i n : ℕ) → words_from t i (replicate n 0) ≡ []
no_words t i zero = refl
no_words t i (suc n) = no_words t (i + 1) n

pub words_more : (t k word : ℕ) (words : List ℕ) (before items next : List CarriedLine) → items ≡ before ++ words_from t 0 (take k words) → next ≡ items ++ words_from t k (word ∷ []) → k < length words → word ≡ get_or words k 0
    → next ≡ before ++ words_from t 0 (take (k + 1) words)
words_more t k word words before items next so added below is =
    let front : take (k + 1) words ≡ take k words ++ word ∷ [] = take_more words k 0 below ∙ ap (λ (w : ℕ). take k words ++ w ∷ []) (sym is) in
    let at : length (take k words) ≡ k = length-take-le k words (omega (arith, below)) in
    let line : words_from t (0 + length (take k words)) (word ∷ []) ≡ words_from t k (word ∷ []) = ap (λ (j : ℕ). words_from t j (word ∷ [])) (omega (arith, at)) in
    added ∙ (ap (λ (ls : List CarriedLine). ls ++ words_from t k (word ∷ [])) so ∙ (append_assoc before (words_from t 0 (take k words)) (words_from t k (word ∷ []))
    ∙ ap (λ (ls : List CarriedLine). before ++ ls)
    (ap (λ (ls : List CarriedLine). words_from t 0 (take k words) ++ ls) (sym line) ∙ (sym (words_append t 0 (take k words) (word ∷ [])) ∙ ap (words_from t 0) (sym front)))))

-- a word of a table that has any is there
pub word_there : (tables : List (List ℕ)) (table index : ℕ) → index < length (get_or tables table []) → HasWord tables table index
word_there tables table index below = (by tables table below, below)
  where
    by : (ts : List (List ℕ)) (k : ℕ) → index < length (get_or ts k []) → k < length ts
    by [] k inside = absurd (omega (arith, inside))
    by (t ∷ ts) zero inside = omega arith
    by (t ∷ ts) (suc k) inside = omega (arith, by ts k inside)

-- ---- tables

tables_append : (n : ℕ) (xs : List (List ℕ)) (x : List ℕ) → tables_from n (xs ++ x ∷ []) ≡ tables_from n xs ++ words_from (n + length xs) 0 x
tables_append n [] x = append-nil (words_from n 0 x) ∙ ap (λ (t : ℕ). words_from t 0 x) (omega arith)
tables_append n (t ∷ ts) x =
    ap (λ (ls : List CarriedLine). words_from n 0 t ++ ls) (tables_append (n + 1) ts x ∙ ap (λ (j : ℕ). tables_from (n + 1) ts ++ words_from j 0 x) (omega arith))
    ∙ sym (append_assoc (words_from n 0 t) (tables_from (n + 1) ts) (words_from (n + suc (length ts)) 0 x))

pub tables_more : (f : ℕ → List ℕ) (n k table : ℕ) (before items next : List CarriedLine) → items ≡ before ++ tables_from 0 (take k (map f (range_with_len 0 n))) → next ≡ items ++ words_from table 0 (f table) → table ≡ k → k < n
    → next ≡ before ++ tables_from 0 (take (k + 1) (map f (range_with_len 0 n)))
tables_more f n k table before items next so added is below =
    let full = map f (range_with_len 0 n) in
    let within : k < length full = omega (arith, below, length-map-range_with_len f 0 n) in
    let front : take (k + 1) full ≡ take k full ++ f k ∷ [] = take_more full k [] within ∙ ap (λ (t : List ℕ). take k full ++ t ∷ []) (get_or-map-range_with_len f 0 n k k [] below (omega arith)) in
    let at : length (take k full) ≡ k = length-take-le k full (omega (arith, within)) in
    let line : words_from (0 + length (take k full)) 0 (f k) ≡ words_from k 0 (f k) = ap (λ (j : ℕ). words_from j 0 (f k)) (omega (arith, at)) in
    added ∙ (ap (λ (ls : List CarriedLine). ls ++ words_from table 0 (f table)) so ∙ (append_assoc before (tables_from 0 (take k full)) (words_from table 0 (f table))
    ∙ ap (λ (ls : List CarriedLine). before ++ ls)
    (ap (λ (j : ℕ). tables_from 0 (take k full) ++ words_from j 0 (f j)) is
    ∙ (ap (λ (ls : List CarriedLine). tables_from 0 (take k full) ++ ls) (sym line) ∙ (sym (tables_append 0 (take k full) (f k)) ∙ ap (tables_from 0) (sym front))))))

-- ---- CCBs

pub ccbs_count : (numbering : Numbering) (ccbs : List LiveCcb) → length (ccb_lines (ccbs_under numbering ccbs)) ≡ length ccbs
ccbs_count Same ccbs = length-map ccbs (λ live. lines.Ccb (ccb_in live))
ccbs_count Fresh ccbs = length-map (ccbs_from 1 ccbs) (λ live. lines.Ccb (ccb_in live)) ∙ ccbs_length 1 ccbs

abbrev pub ccb_as : LiveCcb → ℕ → CarriedLine
ccb_as live n = lines.Ccb (record (ccb_in live) { number = record { 0 = n } })

ccbs_from_at : (n : ℕ) (ccbs : List LiveCcb) (k : ℕ) (it : LiveCcb) (d : CarriedLine) → k < length ccbs → get_or (ccb_lines (ccbs_from n ccbs)) k d ≡ ccb_as (get_or ccbs k it) (n + k)
ccbs_from_at n [] k it d below = absurd (omega (arith, below))
ccbs_from_at n (live ∷ ccbs) zero it d below = ap (ccb_as live) (omega arith)
ccbs_from_at n (live ∷ ccbs) (suc k) it d below = ccbs_from_at (n + 1) ccbs k it d (omega (arith, below)) ∙ ap (ccb_as (get_or ccbs k it)) (omega arith)

pub ccb_there : (numbering : Numbering) (ccbs : List LiveCcb) (k : ℕ) (it : LiveCcb) (d : CarriedLine) → k < length ccbs → it ≡ get_or ccbs k it → get_or (ccb_lines (ccbs_under numbering ccbs)) k d ≡ ccb_as it (number_under numbering it.ccb.number.0 k)
ccb_there Same ccbs k it d below is =
    get_or-map (λ live. lines.Ccb (ccb_in live)) ccbs k it d below ∙ ap (λ (live : LiveCcb). lines.Ccb (ccb_in live)) (sym is)
ccb_there Fresh ccbs k it d below is =
    ccbs_from_at 1 ccbs k it d below ∙ (ap (λ (live : LiveCcb). ccb_as live (1 + k)) (sym is) ∙ ap (ccb_as it) (omega arith))

-- ---- freezes

pub freezes_count : (numbering : Numbering) (freezes : List Freeze) → length (freeze_lines (freezes_under numbering freezes)) ≡ length freezes
freezes_count Same freezes = length-map freezes (λ freeze. lines.Freeze freeze)
freezes_count Fresh freezes = length-map (freezes_from 1 freezes) (λ freeze. lines.Freeze freeze) ∙ freezes_length 1 freezes

abbrev pub freeze_as : Freeze → ℕ → CarriedLine
freeze_as freeze n = lines.Freeze (record freeze { number = n })

freezes_from_at : (n : ℕ) (freezes : List Freeze) (k : ℕ) (it : Freeze) (d : CarriedLine) → k < length freezes → get_or (freeze_lines (freezes_from n freezes)) k d ≡ freeze_as (get_or freezes k it) (n + k)
freezes_from_at n [] k it d below = absurd (omega (arith, below))
freezes_from_at n (freeze ∷ freezes) zero it d below = ap (freeze_as freeze) (omega arith)
freezes_from_at n (freeze ∷ freezes) (suc k) it d below = freezes_from_at (n + 1) freezes k it d (omega (arith, below)) ∙ ap (freeze_as (get_or freezes k it)) (omega arith)

pub freeze_there : (numbering : Numbering) (freezes : List Freeze) (k : ℕ) (it : Freeze) (d : CarriedLine) → k < length freezes → it ≡ get_or freezes k it → get_or (freeze_lines (freezes_under numbering freezes)) k d ≡ freeze_as it (number_under numbering it.number k)
freeze_there Same freezes k it d below is =
    get_or-map (λ freeze. lines.Freeze freeze) freezes k it d below ∙ ap (λ (freeze : Freeze). lines.Freeze freeze) (sym is)
freeze_there Fresh freezes k it d below is =
    freezes_from_at 1 freezes k it d below ∙ (ap (λ (freeze : Freeze). freeze_as freeze (1 + k)) (sym is) ∙ ap (freeze_as it) (omega arith))

-- the number of a freeze is the one before the next place
pub number_after : (freezes : List Freeze) (k : ℕ) (d : Freeze) → k < length freezes → (get_or freezes k d).number ≡ number_before (k + 1) freezes
number_after freezes k d below =
    let next : k + 1 ≡ suc k = omega arith in
    sym (ap (λ (j : ℕ). number_before j freezes) next ∙ get_or-map (λ (freeze : Freeze). freeze.number) freezes k d 0 below)

-- ---- the greatest run number

pub last_given : (runs : Runs) → runs.list ≡ [] → runs.greatest ≤ last_number → (leb most_runs (length runs.list) || leb last_number runs.greatest) ≡ true → last_number ≡ runs.greatest
last_given runs none last full =
    let empty : length runs.list ≡ 0 = ap length none in
    let few : leb most_runs (length runs.list) ≡ false = lt-leb _ _ (omega (arith, empty)) in
    let given : leb last_number runs.greatest ≡ true = subst (λ (b : Bool). (b || leb last_number runs.greatest) ≡ true) few full in
    let least = leb-true _ _ given in
    omega (arith, least, last)

-- ---- all lines

pub joined : (old os ts cs fs : List CarriedLine) (n k : CarriedLine) (one two three four five six : List CarriedLine)
    → one ≡ old ++ n ∷ [] → two ≡ one ++ k ∷ [] → three ≡ two ++ os → four ≡ three ++ ts → five ≡ four ++ cs → six ≡ five ++ fs
    → six ≡ old ++ n ∷ k ∷ (os ++ (ts ++ (cs ++ fs)))
joined old os ts cs fs n k one two three four five six e1 e2 e3 e4 e5 e6 =
    let two-is : two ≡ (old ++ n ∷ []) ++ k ∷ [] = e2 ∙ ap (λ (ls : List CarriedLine). ls ++ k ∷ []) e1 in
    let four-is : four ≡ (two ++ os) ++ ts = e4 ∙ ap (λ (ls : List CarriedLine). ls ++ ts) e3 in
    let six-is : six ≡ (four ++ cs) ++ fs = e6 ∙ ap (λ (ls : List CarriedLine). ls ++ fs) e5 in
    let rest = os ++ (ts ++ (cs ++ fs)) in
    let from-two : six ≡ two ++ rest =
    six-is ∙ (append_assoc four cs fs ∙ (ap (λ (ls : List CarriedLine). ls ++ (cs ++ fs)) four-is ∙ (append_assoc (two ++ os) ts (cs ++ fs) ∙ append_assoc two os (ts ++ (cs ++ fs))))) in
    from-two ∙ (ap (λ (ls : List CarriedLine). ls ++ rest) two-is ∙ (append_assoc (old ++ n ∷ []) (k ∷ []) rest ∙ append_assoc old (n ∷ []) (k ∷ rest)))

-- what is left of an engine without a live run, by its parts
pub parts_left : (state : EngineState) (config : Setup) (transport : Transport) (runs : Runs) → IsRun state → state.world.runs.list ≡ [] → setup_over config state.setup.carried ≡ state.setup → transport ≡ state.world.transport → runs ≡ state.world.runs
    → IsLeft config transport × AreRunsLeft config runs
parts_left state config transport runs run none setup-is transport-is runs-is =
    let begins : IsBeginning (setup_over config state.setup.carried) (left_by state.world) = subst (λ (s : Setup). IsBeginning s (left_by state.world)) (sym setup-is) (left_begins state run none) in
    let left : IsLeft config state.world.transport = record {
      openings = sym begins.limits.answers.queues;
      places = λ k d below. (begins.freezes k d below).place;
      numbered = begins.limits.freezes.numbered;
      freezes = begins.limits.freezes.ledger;
      ccbs = begins.limits.ccbs.all;
    } in
    let kept : AreRunsLeft config state.world.runs = record { none = begins.no_run; numbers = begins.limits.runs.numbers; tables = begins.limits.answers.lengths } in
    (subst (IsLeft config) (sym transport-is) left, subst (AreRunsLeft config) (sym runs-is) kept)

pub lines_are : (numbering : Numbering) (state : EngineState) (config new : Setup) (transport : Transport) (runs : Runs) → setup_over config state.setup.carried ≡ state.setup → transport ≡ state.world.transport → runs ≡ state.world.runs
    → lines_of (taken_over numbering config new (world_left transport runs)) ≡ lines_of (taken_over numbering state.setup new state.world)
lines_are numbering state config new transport runs setup-is transport-is runs-is =
    ap (λ (t : Transport). lines_of (taken_over numbering config new (world_left t runs))) transport-is
    ∙ (ap (λ (r : Runs). lines_of (taken_over numbering config new (world_left state.world.transport r))) runs-is
    ∙ ap (λ (s : Setup). lines_of (taken_over numbering s new (world_left state.world.transport state.world.runs))) setup-is)

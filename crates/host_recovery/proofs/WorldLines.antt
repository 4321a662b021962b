-- The lines of a world that an engine may take over are in order.
use Rattle.std.proofs.Common.{◌≡◌, ◌+◌, ◌<◌, ◌≤◌, ◌==◌, ℕ, Bool, true, false, Option, Some, None, List, [], ◌∷◌, ◌++◌, map, refl, ap, sym, subst, ◌∙◌, arith}
use Rattle.std.specs.Prelude.{if◌then◌else◌}
use Rattle.std.specs.List.{AllByRecursion}
use Rattle.std.proofs.lemmas.Bool.Decides.{nat_tests}
use Rattle.ccb.specs.Rising.{AreRising}
use Rattle.freeze_ledger.specs.declared.freeze.Freeze.{Freeze}
use Rattle.world_calls.specs.declared.carried_line.CarriedCcb.{CarriedCcb}
use Rattle.world_calls.specs.declared.carried_line.CarriedLine.{CarriedLine}
use Rattle.world_calls.specs.declared.carried_line.CarriedLine.TheVariants as lines
use Rattle.world.specs.Beginning.{IsBeginning}
use Rattle.world.specs.World.{LiveCcb, Setup, World}
use Rattle.engine_beginning.specs.Lines.{ccb_in, ccb_lines, freeze_lines, lines_of, openings_from as openings_of, tables_from, words_from}
use Rattle.carried_lines.specs.InOrder.{AreInOrder, IsCcbBefore, IsFreezeBefore, IsWordBefore, Rise, TableWord, openings_from, word_line}
use Rattle.whole_trace.specs.WholeText.{AreOrdered}
use Rattle.host_recovery.specs.SetupFor.{IsSetupFor}

-- ---- openings, CCBs and freezes

openings_are : (queue : ℕ) (openings : List ℕ) → openings_of queue openings ≡ openings_from queue openings
openings_are queue [] = refl
openings_are queue (openings ∷ more) = ap (λ (xs : List CarriedLine). lines.Openings queue openings ∷ xs) (openings_are (queue + 1) more)

abbrev ccb_line : CarriedCcb → CarriedLine
ccb_line it = lines.Ccb it

ccbs_are : (live : List LiveCcb) → ccb_lines live ≡ map ccb_line (map ccb_in live)
ccbs_are [] = refl
ccbs_are (it ∷ live) = ap (λ (xs : List CarriedLine). ccb_line (ccb_in it) ∷ xs) (ccbs_are live)

ccbs_rise : (low high : ℕ) (live : List LiveCcb) → AreRising low (map (λ (it : LiveCcb). it.ccb.number.0) live) high → Rise IsCcbBefore (map ccb_in live)
ccbs_rise low high [] h = tt
ccbs_rise low high (it ∷ []) h = tt
ccbs_rise low high (it ∷ next ∷ live) h = (h.1.0, ccbs_rise it.ccb.number.0 high (next ∷ live) h.1)

freezes_rise : (low high : ℕ) (freezes : List Freeze) → AreRising low (map (λ (it : Freeze). it.number) freezes) high → Rise IsFreezeBefore freezes
freezes_rise low high [] h = tt
freezes_rise low high (it ∷ []) h = tt
freezes_rise low high (it ∷ next ∷ freezes) h = (h.1.0, freezes_rise it.number high (next ∷ freezes) h.1)

-- ---- words

-- those that are not 0
words_in : (table index : ℕ) → List ℕ → List TableWord
words_in table index [] = []
words_in table index (word ∷ words) = if word == 0 then words_in table (index + 1) words else record { table = table; index = index; word = word } ∷ words_in table (index + 1) words

tables_in : ℕ → List (List ℕ) → List TableWord
tables_in table [] = []
tables_in table (words ∷ tables) = words_in table 0 words ++ tables_in (table + 1) tables

choice : (test : Bool) (xs : List CarriedLine) (x : CarriedLine) (ws : List TableWord) (w : TableWord) → xs ≡ map word_line ws → x ≡ word_line w → (if test then xs else x ∷ xs) ≡ map word_line (if test then ws else w ∷ ws)
choice true xs x ws w e f = e
choice false xs x ws w e f = ap (λ (y : CarriedLine). y ∷ xs) f ∙ ap (λ (ys : List CarriedLine). word_line w ∷ ys) e

words_are : (table index : ℕ) (words : List ℕ) → words_from table index words ≡ map word_line (words_in table index words)
unfolding words_in
words_are table index [] = refl
words_are table index (word ∷ words) =
    choice (word == 0) (words_from table (index + 1) words) (lines.Word table index word) (words_in table (index + 1) words) (record { table = table; index = index; word = word }) (words_are table (index + 1) words) refl

map_both : (xs ys : List TableWord) → map word_line (xs ++ ys) ≡ map word_line xs ++ map word_line ys
map_both [] ys = refl
map_both (x ∷ xs) ys = ap (λ (zs : List CarriedLine). word_line x ∷ zs) (map_both xs ys)

tables_are : (table : ℕ) (tables : List (List ℕ)) → tables_from table tables ≡ map word_line (tables_in table tables)
unfolding tables_in
tables_are table [] = refl
tables_are table (words ∷ tables) =
    ap (λ (xs : List CarriedLine). xs ++ tables_from (table + 1) tables) (words_are table 0 words)
    ∙ ap (λ (xs : List CarriedLine). map word_line (words_in table 0 words) ++ xs) (tables_are (table + 1) tables)
    ∙ sym (map_both (words_in table 0 words) (tables_in (table + 1) tables))

-- they rise from this table and this index, and none is 0
abbrev RisesFrom : (table index : ℕ) → List TableWord → Type 0
RisesFrom table index [] = Unit {0}
RisesFrom table index (w ∷ ws) = ((table ≤ w.table) × (table ≡ w.table → index ≤ w.index)) × (0 < w.word) × RisesFrom w.table (w.index + 1) ws

rises : (table index : ℕ) (ws : List TableWord) → RisesFrom table index ws → Rise IsWordBefore ws
rises table index [] h = tt
rises table index (w ∷ []) h = tt
rises table index (w ∷ next ∷ ws) h = ((h.2.0.0, λ same. omega (arith, h.2.0.1 same)), rises w.table (w.index + 1) (next ∷ ws) h.2)

are_there : (table index : ℕ) (ws : List TableWord) → RisesFrom table index ws → AllByRecursion (λ (it : TableWord). 0 < it.word) ws
are_there table index [] h = tt
are_there table index (w ∷ ws) h = (h.1, are_there w.table (w.index + 1) ws h.2)

earlier_key : (table index before place t i : ℕ) → before ≤ table → (before ≡ table → place ≤ index) → table ≤ t → (table ≡ t → index ≤ i) → before ≡ t → place ≤ i
earlier_key table index before place t i less low more high same =
    let one : before ≡ table = omega (arith, less, more, same) in
    let two : table ≡ t = omega (arith, less, more, same) in
    omega (arith, low one, high two)

-- so they rise from any earlier one
earlier : (table index before place : ℕ) (ws : List TableWord) → before ≤ table → (before ≡ table → place ≤ index) → RisesFrom table index ws → RisesFrom before place ws
earlier table index before place [] less low h = tt
earlier table index before place (w ∷ ws) less low h = ((omega (arith, less, h.0.0), λ same. earlier_key table index before place w.table w.index less low h.0.0 h.0.1 same), h.1, h.2)

one_word : (test : Bool) (table index word : ℕ) (ws more : List TableWord) → (test ≡ false → 0 < word) → RisesFrom table (index + 1) (ws ++ more) → RisesFrom table index ((if test then ws else record { table = table; index = index; word = word } ∷ ws) ++ more)
one_word true table index word ws more some h = earlier table (index + 1) table index (ws ++ more) (omega arith) (λ same. omega arith) h
one_word false table index word ws more some h = ((omega arith, λ same. omega arith), some refl, h)

not_zero : (word : ℕ) → (word == 0) ≡ false → 0 < word
not_zero word h = grind (arith, nat_tests)

words_rise : (table index : ℕ) (words : List ℕ) (more : List TableWord) → RisesFrom (table + 1) 0 more → RisesFrom table index (words_in table index words ++ more)
unfolding words_in
words_rise table index [] more h = earlier (table + 1) 0 table index more (omega arith) (λ same. absurd (omega (arith, same))) h
words_rise table index (word ∷ words) more h = one_word (word == 0) table index word (words_in table (index + 1) words) more (not_zero word) (words_rise table (index + 1) words more h)

tables_rise : (table : ℕ) (tables : List (List ℕ)) → RisesFrom table 0 (tables_in table tables)
unfolding tables_in
tables_rise table [] = tt
tables_rise table (words ∷ tables) = words_rise table 0 words (tables_in (table + 1) tables) (tables_rise (table + 1) tables)

-- ---- all of them

pub world_in_order : (setup : Setup) (world : World) → IsBeginning setup world → AreInOrder (lines_of world)
world_in_order setup world is =
    let transport = world.transport in
    let words = tables_in 0 world.runs.tables in
    let ccbs = map ccb_in transport.live in
    let rise = tables_rise 0 world.runs.tables in
    record {
      ccb = transport.greatest_ccb;
      freeze = transport.greatest_freeze;
      run = world.runs.greatest;
      reading = transport.clock;
      openings = transport.openings;
      words = words;
      ccbs = ccbs;
      freezes = transport.freezes;
      whole = ap (λ (xs : List CarriedLine). lines.Numbers transport.greatest_ccb transport.greatest_freeze world.runs.greatest ∷ lines.Clock transport.clock ∷ xs)
          (ap (λ (xs : List CarriedLine). xs ++ (tables_from 0 world.runs.tables ++ (ccb_lines transport.live ++ freeze_lines transport.freezes))) (openings_are 0 transport.openings)
          ∙ ap (λ (xs : List CarriedLine). openings_from 0 transport.openings ++ (xs ++ (ccb_lines transport.live ++ freeze_lines transport.freezes))) (tables_are 0 world.runs.tables)
          ∙ ap (λ (xs : List CarriedLine). openings_from 0 transport.openings ++ (map word_line words ++ (xs ++ freeze_lines transport.freezes))) (ccbs_are transport.live));
      words_rise = rises 0 0 words rise;
      words_there = are_there 0 0 words rise;
      ccbs_rise = ccbs_rise 0 transport.greatest_ccb transport.live is.limits.ccbs.rising;
      freezes_rise = freezes_rise 0 transport.greatest_freeze transport.freezes is.limits.freezes.numbered;
    }

-- so are the lines with which an engine begins
pub ordered_for : (config : Setup) (carried : Option (List CarriedLine)) (setup : Setup) → IsSetupFor config carried setup → AreOrdered carried
ordered_for config None setup fits = tt
ordered_for config (Some all) setup fits = subst AreInOrder fits.1.lines_are (world_in_order config fits.0 fits.1.is)

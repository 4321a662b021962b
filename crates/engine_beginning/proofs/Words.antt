-- The lines of tables whose words from a key on are 0, with one word more.
use Rattle.std.proofs.Common.{◌≡◌, ℕ, zero, suc, ◌+◌, ◌<◌, ◌≤◌, List, [], ◌∷◌, ◌++◌, length, map, set, replicate, Bool, true, false, cond, eqb, refl, ap, sym, ◌∙◌, arith, append_assoc, append-nil}
use Rattle.std.proofs.lemmas.Bool.{cond-true, cond-false, eq-eqb, ne_eqb}
use Rattle.table_store.specs.Tables.{HasWord, with_word, zero_table}
use Rattle.world_calls.specs.declared.carried_line.CarriedLine.{CarriedLine}
use Rattle.world_calls.specs.declared.carried_line.CarriedLine.TheVariants as lines
use Rattle.engine_beginning.specs.Lines.{tables_from, words_from}

-- the words from this index on are 0
abbrev pub ZeroFrom : List ℕ → ℕ → Type 0
ZeroFrom [] index = Unit {0}
ZeroFrom (word ∷ words) zero = (word ≡ 0) × ZeroFrom words zero
ZeroFrom (word ∷ words) (suc index) = ZeroFrom words index

-- and those of this table, and all words of later ones
abbrev pub ZeroTables : List (List ℕ) → (table index : ℕ) → Type 0
ZeroTables [] table index = Unit {0}
ZeroTables (words ∷ tables) zero index = ZeroFrom words index × ZeroTables tables zero zero
ZeroTables (words ∷ tables) (suc table) index = ZeroTables tables table index

-- ---- all of them

zero_words : (table index : ℕ) (words : List ℕ) → ZeroFrom words zero → words_from table index words ≡ []
zero_words table index [] zeros = refl
zero_words table index (word ∷ words) zeros =
    cond-true (eqb word 0) (words_from table (index + 1) words) (lines.Word table index word ∷ words_from table (index + 1) words) (eq-eqb word 0 zeros.0)
    ∙ zero_words table (index + 1) words zeros.1

pub zero_tables : (table : ℕ) (tables : List (List ℕ)) → ZeroTables tables zero zero → tables_from table tables ≡ []
zero_tables table [] zeros = refl
zero_tables table (words ∷ tables) zeros =
    ap (λ (xs : List CarriedLine). xs ++ tables_from (table + 1) tables) (zero_words table 0 words zeros.0) ∙ zero_tables (table + 1) tables zeros.1

zeros : (count : ℕ) → ZeroFrom (replicate count 0) zero
zeros zero = tt
zeros (suc count) = (refl, zeros count)

pub first_zeros : (lengths : List ℕ) → ZeroTables (map zero_table lengths) zero zero
first_zeros [] = tt
first_zeros (count ∷ lengths) = (zeros count, first_zeros lengths)

-- ---- from a later key on

later_words : (index later : ℕ) (words : List ℕ) → ZeroFrom words index → index ≤ later → ZeroFrom words later
later_words index later [] zeros le = tt
later_words zero zero (word ∷ words) zeros le = zeros
later_words zero (suc later) (word ∷ words) zeros le = later_words zero later words zeros.1 (omega arith)
later_words (suc index) zero (word ∷ words) zeros le = absurd (omega (arith, le))
later_words (suc index) (suc later) (word ∷ words) zeros le = later_words index later words zeros (omega (arith, le))

any_zeros : (table index : ℕ) (tables : List (List ℕ)) → ZeroTables tables zero zero → ZeroTables tables table index
any_zeros table index [] zeros = tt
any_zeros zero index (words ∷ tables) zeros = (later_words zero index words zeros.0 (omega arith), zeros.1)
any_zeros (suc table) index (words ∷ tables) zeros = any_zeros table index tables zeros.1

pub later_zeros : (table index later place : ℕ) (tables : List (List ℕ)) → ZeroTables tables table index → table ≤ later → (table ≡ later → index ≤ place) → ZeroTables tables later place
later_zeros table index later place [] zeros le below = tt
later_zeros zero index zero place (words ∷ tables) zeros le below = (later_words index place words zeros.0 (below refl), zeros.1)
later_zeros zero index (suc later) place (words ∷ tables) zeros le below = any_zeros later place tables zeros.1
later_zeros (suc table) index zero place (words ∷ tables) zeros le below = absurd (omega (arith, le))
later_zeros (suc table) index (suc later) place (words ∷ tables) zeros le below = later_zeros table index later place tables zeros (omega (arith, le)) (λ e. below (ap suc e))

-- ---- one word more

word_zeros : (index word : ℕ) (words : List ℕ) → ZeroFrom words index → ZeroFrom (set words index word) (suc index)
word_zeros index word [] zeros = tt
word_zeros zero word (old ∷ words) zeros = zeros.1
word_zeros (suc index) word (old ∷ words) zeros = word_zeros index word words zeros

pub zeros_after : (table index word : ℕ) (tables : List (List ℕ)) → ZeroTables tables table index → ZeroTables (with_word tables table index word) table (suc index)
zeros_after table index word [] zeros = tt
zeros_after zero index word (words ∷ tables) zeros = (word_zeros index word words zeros.0, zeros.1)
zeros_after (suc table) index word (words ∷ tables) zeros = zeros_after table index word tables zeros

-- by the test of the word before it
past : (b : Bool) (x : CarriedLine) (before after : List CarriedLine) (line : CarriedLine) → after ≡ before ++ line ∷ [] → cond b after (x ∷ after) ≡ cond b before (x ∷ before) ++ line ∷ []
past true x before after line is = is
past false x before after line is = ap (λ (xs : List CarriedLine). x ∷ xs) is

word_line : (table from index word : ℕ) (words : List ℕ) → ZeroFrom words index → index < length words → 0 < word → words_from table from (set words index word) ≡ words_from table from words ++ lines.Word table (from + index) word ∷ []
word_line table from index word [] zeros there some = absurd (omega (arith, there))
word_line table from zero word (old ∷ words) zeros there some =
    let here : from ≡ from + zero = omega arith in
    cond-false (eqb word 0) (words_from table (from + 1) words) (lines.Word table from word ∷ words_from table (from + 1) words) (ne_eqb word 0 (λ e. omega (arith, e, some)))
    ∙ (ap (λ (xs : List CarriedLine). lines.Word table from word ∷ xs) (zero_words table (from + 1) words zeros.1)
    ∙ (ap (λ (n : ℕ). lines.Word table n word ∷ []) here
    ∙ ap (λ (xs : List CarriedLine). xs ++ lines.Word table (from + zero) word ∷ []) (sym (zero_words table from (old ∷ words) zeros))))
word_line table from (suc index) word (old ∷ words) zeros there some =
    let on : (from + 1) + index ≡ from + suc index = omega arith in
    past (eqb old 0) (lines.Word table from old) (words_from table (from + 1) words) (words_from table (from + 1) (set words index word)) (lines.Word table (from + suc index) word)
    (word_line table (from + 1) index word words zeros (omega (arith, there)) some ∙ ap (λ (n : ℕ). words_from table (from + 1) words ++ lines.Word table n word ∷ []) on)

pub table_line : (from table index word : ℕ) (tables : List (List ℕ)) → ZeroTables tables table index → HasWord tables table index → 0 < word → tables_from from (with_word tables table index word) ≡ tables_from from tables ++ lines.Word (from + table) index word ∷ []
table_line from table index word [] zeros there some = absurd (omega (arith, there.0))
table_line from zero index word (words ∷ tables) zeros there some =
    let none = zero_tables (from + 1) tables zeros.1 in
    let here : from ≡ from + zero = omega arith in
    let at : 0 + index ≡ index = omega arith in
    let line : CarriedLine = lines.Word (from + zero) index word in
    let first : words_from from 0 (set words index word) ≡ words_from from 0 words ++ line ∷ [] =
    word_line from 0 index word words zeros.0 there.1 some ∙ (λ i. words_from from 0 words ++ lines.Word (here i) (at i) word ∷ []) in
    (λ i. first i ++ none i)
    ∙ (append-nil (words_from from 0 words ++ line ∷ [])
    ∙ (ap (λ (xs : List CarriedLine). xs ++ line ∷ []) (sym (append-nil (words_from from 0 words)))
    ∙ ap (λ (xs : List CarriedLine). (words_from from 0 words ++ xs) ++ line ∷ []) (sym none)))
table_line from (suc table) index word (words ∷ tables) zeros there some =
    let on : (from + 1) + table ≡ from + suc table = omega arith in
    let rest : tables_from (from + 1) (with_word tables table index word) ≡ tables_from (from + 1) tables ++ lines.Word (from + suc table) index word ∷ [] =
    table_line (from + 1) table index word tables zeros (omega (arith, there.0), there.1) some ∙ ap (λ (n : ℕ). tables_from (from + 1) tables ++ lines.Word n index word ∷ []) on in
    ap (λ (xs : List CarriedLine). words_from from 0 words ++ xs) rest ∙ sym (append_assoc (words_from from 0 words) (tables_from (from + 1) tables) (lines.Word (from + suc table) index word ∷ []))

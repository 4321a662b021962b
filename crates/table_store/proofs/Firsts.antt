-- Tables that begin with given words: how long they are, and what stands in them.
use Rattle.std.proofs.Common.{◌≡◌, ℕ, zero, suc, ◌+◌, ◌<◌, ◌≤◌, List, [], ◌∷◌, length, map, get_or, take, ◌++◌, refl, ap, sym, ◌∙◌, arith}
use Rattle.std.specs.Prelude.{All}
use Rattle.std.proofs.lemmas.List.{take_all, take_more}
use Rattle.std.proofs.lemmas.List.Elements.{All-nil, All-cons, All-head, All-tail}
use Rattle.table_store.specs.Tables.{table_with, tables_with, zero_table, word_at}

pub length_with : (n : ℕ) (words : List ℕ) → length (table_with n words) ≡ n
length_with zero words = refl
length_with (suc n) [] = omega (arith, length_with n [])
length_with (suc n) (word ∷ words) = omega (arith, length_with n words)

pub lengths_with : (lengths : List ℕ) (firsts : List (List ℕ)) → map (λ table. length table) (tables_with lengths firsts) ≡ lengths
lengths_with [] firsts = refl
lengths_with (n ∷ lengths) [] = λ i. length_with n [] i ∷ lengths_with lengths [] i
lengths_with (n ∷ lengths) (words ∷ firsts) = λ i. length_with n words i ∷ lengths_with lengths firsts i

-- without first words all are 0
pub zero_with : (n : ℕ) → table_with n [] ≡ zero_table n
zero_with zero = refl
zero_with (suc n) = ap (λ words. 0 ∷ words) (zero_with n)

pub zeros_with : (lengths : List ℕ) → tables_with lengths [] ≡ map zero_table lengths
zeros_with [] = refl
zeros_with (n ∷ lengths) = λ i. zero_with n i ∷ zeros_with lengths i

-- what holds of 0 and of each first word holds of each word
pub words_with : (P : ℕ → Type 0) (n : ℕ) (words : List ℕ) → P 0 → All P words → All P (table_with n words)
words_with P zero words none h = All-nil P
words_with P (suc n) [] none h = All-cons P 0 (table_with n []) none (words_with P n [] none (All-nil P))
words_with P (suc n) (word ∷ words) none h = All-cons P word (table_with n words) (All-head P word words h) (words_with P n words none (All-tail P word words h))

pub all_with : (P : ℕ → Type 0) (lengths : List ℕ) (firsts : List (List ℕ)) → P 0 → All (λ words. All P words) firsts → All (λ table. All P table) (tables_with lengths firsts)
all_with P [] firsts none h = All-nil (λ table. All P table)
all_with P (n ∷ lengths) [] none h =
    All-cons (λ table. All P table) (table_with n []) (tables_with lengths []) (words_with P n [] none (All-nil P)) (all_with P lengths [] none (All-nil (λ words. All P words)))
all_with P (n ∷ lengths) (words ∷ firsts) none h =
    All-cons (λ table. All P table) (table_with n words) (tables_with lengths firsts) (words_with P n words none (All-head (λ words. All P words) words firsts h))
    (all_with P lengths firsts none (All-tail (λ words. All P words) words firsts h))

-- where there is room for its words, a table says what they say, and 0 after them
at_with : (n : ℕ) (words : List ℕ) (i : ℕ) → length words ≤ n → get_or (table_with n words) i 0 ≡ get_or words i 0
at_with zero [] i le = refl
at_with zero (word ∷ words) i le = absurd (omega (arith, le))
at_with (suc n) [] zero le = refl
at_with (suc n) [] (suc i) le = at_with n [] i (omega arith)
at_with (suc n) (word ∷ words) zero le = refl
at_with (suc n) (word ∷ words) (suc i) le = at_with n words i (omega (arith, le))

pub word_with : (lengths : List ℕ) (firsts : List (List ℕ)) (table index : ℕ) → length firsts ≤ length lengths
    → ((k : ℕ) → k < length firsts → length (get_or firsts k []) ≤ get_or lengths k 0) → word_at (tables_with lengths firsts) table index ≡ word_at firsts table index
word_with [] [] table index few fit = refl
word_with [] (words ∷ firsts) table index few fit = absurd (omega (arith, few))
word_with (n ∷ lengths) [] zero index few fit = at_with n [] index (omega arith)
word_with (n ∷ lengths) [] (suc table) index few fit = word_with lengths [] table index (omega arith) (λ k less. absurd (omega (arith, less)))
word_with (n ∷ lengths) (words ∷ firsts) zero index few fit = at_with n words index (fit 0 (omega arith))
word_with (n ∷ lengths) (words ∷ firsts) (suc table) index few fit = word_with lengths firsts table index (omega (arith, few)) (λ k less. fit (suc k) (omega (arith, less)))

-- the words of a table, one after another
at_inside : (n : ℕ) (words : List ℕ) (i : ℕ) → i < n → get_or (table_with n words) i 0 ≡ get_or words i 0
at_inside zero words i less = absurd (omega (arith, less))
at_inside (suc n) [] zero less = refl
at_inside (suc n) [] (suc i) less = at_inside n [] i (omega (arith, less))
at_inside (suc n) (word ∷ words) zero less = refl
at_inside (suc n) (word ∷ words) (suc i) less = at_inside n words i (omega (arith, less))

pub more_words : (n : ℕ) (words : List ℕ) (index : ℕ) (before after : List ℕ) (word : ℕ) → index < n → word ≡ get_or words index 0 → after ≡ before ++ word ∷ []
    → before ≡ take index (table_with n words) → after ≡ take (index + 1) (table_with n words)
more_words n words index before after word less is longer so =
    longer ∙ ((λ i. so i ++ (is ∙ sym (at_inside n words index less)) i ∷ [])
    ∙ sym (take_more (table_with n words) index 0 (omega (arith, length_with n words, less))))

pub whole_table : (n : ℕ) (words : List ℕ) (index : ℕ) (table : List ℕ) → n ≤ index → table ≡ take index (table_with n words) → table ≡ table_with n words
whole_table n words index table past so = so ∙ take_all index (table_with n words) (omega (arith, length_with n words, past))

-- and the tables
count_with : (lengths : List ℕ) (firsts : List (List ℕ)) → length (tables_with lengths firsts) ≡ length lengths
count_with [] firsts = refl
count_with (n ∷ lengths) [] = omega (arith, count_with lengths [])
count_with (n ∷ lengths) (words ∷ firsts) = omega (arith, count_with lengths firsts)

table_at : (lengths : List ℕ) (firsts : List (List ℕ)) (k : ℕ) → k < length lengths → get_or (tables_with lengths firsts) k [] ≡ table_with (get_or lengths k 0) (get_or firsts k [])
table_at [] firsts k less = absurd (omega (arith, less))
table_at (n ∷ lengths) [] zero less = refl
table_at (n ∷ lengths) [] (suc k) less = table_at lengths [] k (omega (arith, less))
table_at (n ∷ lengths) (words ∷ firsts) zero less = refl
table_at (n ∷ lengths) (words ∷ firsts) (suc k) less = table_at lengths firsts k (omega (arith, less))

pub more_tables : (lengths : List ℕ) (firsts : List (List ℕ)) (k : ℕ) (before after : List (List ℕ)) (table : List ℕ) → k < length lengths → table ≡ table_with (get_or lengths k 0) (get_or firsts k [])
    → after ≡ before ++ table ∷ [] → before ≡ take k (tables_with lengths firsts) → after ≡ take (k + 1) (tables_with lengths firsts)
more_tables lengths firsts k before after table less is longer so =
    longer ∙ ((λ i. so i ++ (is ∙ sym (table_at lengths firsts k less)) i ∷ [])
    ∙ sym (take_more (tables_with lengths firsts) k [] (omega (arith, count_with lengths firsts, less))))

pub whole_tables : (lengths : List ℕ) (firsts : List (List ℕ)) (k : ℕ) (tables : List (List ℕ)) → length lengths ≤ k → tables ≡ take k (tables_with lengths firsts) → tables ≡ tables_with lengths firsts
whole_tables lengths firsts k tables past so = so ∙ take_all k (tables_with lengths firsts) (omega (arith, count_with lengths firsts, past))

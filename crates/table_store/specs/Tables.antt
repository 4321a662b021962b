-- Tables as lists of words, and what one change of a word makes of them.
use Rattle.std.specs.Prelude.{ℕ, zero, suc, ◌<◌, List, [], ◌∷◌, length, replicate, slice_index, slice_index_or, slice_set}

-- a table of this length with all words 0
abbrev pub zero_table : ℕ → List ℕ
zero_table n = replicate n 0

-- a table of this length that begins with these words, as many as it has room for; the rest are 0
abbrev pub table_with : ℕ → List ℕ → List ℕ
table_with zero words = []
table_with (suc n) [] = 0 ∷ table_with n []
table_with (suc n) (word ∷ words) = word ∷ table_with n words

-- a table of each of these lengths, which begins with the words of its list, if there is one
abbrev pub tables_with : List ℕ → List (List ℕ) → List (List ℕ)
tables_with [] firsts = []
tables_with (n ∷ lengths) [] = table_with n [] ∷ tables_with lengths []
tables_with (n ∷ lengths) (words ∷ firsts) = table_with n words ∷ tables_with lengths firsts

-- the words of a table, none where there is no such table
abbrev pub table_at : List (List ℕ) → ℕ → List ℕ
table_at tables table = slice_index_or tables table []

-- there is such a table, and the index is below its length
abbrev pub HasWord : List (List ℕ) → ℕ → ℕ → Type 0
HasWord tables table index = (table < length tables) × (index < length (table_at tables table))

-- the word at an index of a table
abbrev pub word_at : List (List ℕ) → ℕ → ℕ → ℕ
word_at tables table index = slice_index (table_at tables table) index

-- the tables with this one word changed
abbrev pub with_word : List (List ℕ) → ℕ → ℕ → ℕ → List (List ℕ)
with_word tables table index value = slice_set tables table (slice_set (table_at tables table) index value)

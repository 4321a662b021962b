-- What holds of each row: its word is a word of its own, stands in one word, and is found again; what comes last is its last field.
use Rattle.std.proofs.Common.{◌≡◌, ℕ, true, Option, Some, None, List, refl, sym, ap, ◌∙◌, rules}
use Rattle.std.specs.Prelude.{find}
use Rattle.std.specs.List.{list_all}
use Rattle.std.specs.Option.{option_map}
use Rattle.trace_lines.specs.declared.word.Word.{Word}
use Rattle.trace_lines.specs.declared.table.Row.{Row}
use Rattle.trace_lines.specs.declared.table.TheConstants.{LINES}
use Rattle.trace_lines.specs.Calls.{word_text}
use Rattle.trace_lines.specs.Rows.{row_of, word_named, is_named}
use Rattle.trace_lines.specs.Reading.{is_black, are_last}
use Rattle.trace_lines.proofs.Tests.{found_passes, same_bytes}

pub word_black : (word : Word) → list_all is_black (word_text word) ≡ true
word_black word = search rules

pub row_stops : (word : Word) → are_last (row_of word).fields ≡ true
unfolding row_of
row_stops word = search rules

-- the row of a word is its own
pub rows_own : (word : Word) → (row_of word).word ≡ word
unfolding row_of
rows_own word = search rules

-- a word is found by its text
pub found_again : (word : Word) → word_named (word_text word) ≡ Some word
unfolding word_named row_of
found_again word = search rules

-- ---- what is found

mapped : (o : Option Row) (word : Word) → option_map (λ (row : Row). row.word) o ≡ Some word → (row : Row) × (o ≡ Some row) × (row.word ≡ word)
mapped None word e = absurd cc
mapped (Some row) word e = (row, refl, cc)

-- it has that text
pub found_is : (name : List ℕ) (word : Word) → word_named name ≡ Some word → word_text word ≡ name
unfolding word_named
found_is name word e =
    let row = mapped (find (is_named name) LINES) word e in
    ap word_text (sym row.2) ∙ same_bytes (word_text row.0.word) name (found_passes (is_named name) LINES row.0 row.1)

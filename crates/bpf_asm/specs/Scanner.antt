-- A text's lines and a line's lexemes from the front, as a scanner goes.
use Rattle.std.specs.Prelude.{◌≡◌, ◌<◌, ◌≤◌, ◌+◌, ◌-◌, ℕ, List, [], ◌∷◌, length, drop, if◌then◌else◌}
use Rattle.std.specs.List.{prefix_len, position_or_len}
use Rattle.bpf_asm.specs.Bytes.{is_word, is_blank, is_hash, is_line_feed}
use Rattle.bpf_asm.specs.Lexemes.{spans}

-- how many bytes of a text stand before its first line feed
abbrev pub line_len : List ℕ → ℕ
line_len text = position_or_len is_line_feed text

-- how many blanks stand in front, and how many bytes of a word
abbrev pub blanks_len : List ℕ → ℕ
blanks_len line = prefix_len is_blank line

abbrev pub word_len : List ℕ → ℕ
word_len bytes = prefix_len is_word bytes

-- what follows the blanks in front
abbrev pub behind_blanks : List ℕ → List ℕ
behind_blanks line = drop (blanks_len line) line

-- how many bytes the lexeme has with which bytes begin that begin with no blank, and 0 where they begin with none
unfoldable pub lexeme_len : List ℕ → ℕ
lexeme_len [] = 0
lexeme_len (byte ∷ bytes) = if is_hash byte then 0 else (if is_word byte then word_len (byte ∷ bytes) else 1)

-- The first lexeme of a line is this one, and this stands after it: so where it ends is told by the lengths.
pub record IsFirstSpan (line word rest : List ℕ) : Type 0 where
  pub not_empty : 0 < length word
  pub shorter : length word + length rest ≤ length line
  pub first : (place : ℕ) → spans place line
      ≡ record { start = place + (length line - length rest) - length word; end = place + (length line - length rest) } ∷ spans (place + (length line - length rest)) rest

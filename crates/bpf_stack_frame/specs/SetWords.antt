-- A set of bytes as it is kept: eight words of 64 bits, the lowest bit first, in which a 1 says that the byte is there.
use Rattle.std.specs.Prelude.{◌≡◌, ℕ, ◌+◌, ◌*◌, ◌/◌, ◌%◌, ◌^◌, ◌<◌, ◌==◌, Bool, true, false, List, [], ◌∷◌, map, length, take, drop, slice_index}
use Rattle.std.specs.List.{range_with_len}
use Rattle.std.specs.Int.{bit_at}

-- whether a bit of the words is 1
abbrev pub has_bit : List ℕ → ℕ → Bool
has_bit words k = bit_at (slice_index words (k / 64)) (k % 64) == 1

unfoldable pub set_of : List ℕ → List Bool
set_of words = map (has_bit words) (range_with_len 0 512)

-- the number with these bits
abbrev pub word_of : List Bool → ℕ
word_of [] = 0
word_of (true ∷ bits) = 2 * word_of bits + 1
word_of (false ∷ bits) = 2 * word_of bits

unfoldable pub words_of : List Bool → List ℕ
words_of set = map (λ k. word_of (take 64 (drop (64 * k) set))) (range_with_len 0 8)

pub record AreWords (words : List ℕ) : Type 0 where
  pub count : length words ≡ 8
  pub fit : (k : ℕ) → slice_index words k < 2 ^ 64
  pub same : words_of (set_of words) ≡ words

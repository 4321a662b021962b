-- Bytes as numbers: what is read is below 2 to its bits, and what is stored are bytes.
use Rattle.std.proofs.Common.{◌≡◌, ℕ, zero, suc, ◌^◌, ◌<◌, List, length, refl, ap, arith, inl, inr}
use Rattle.std.specs.Prelude.{All, slice_index}
use Rattle.std.proofs.lemmas.Bool.{cases_lt}
use Rattle.std.proofs.lemmas.List.{get_or_past}
use Rattle.std.specs.Int.{byte_at, bytes_low_first}
use Rattle.byteorder.specs.Endian.{little_from}

byte_below : (xs : List ℕ) (i : ℕ) → All (λ byte. byte < 256) xs → slice_index xs i < 256
byte_below xs i each = elim (cases_lt i (length xs)) [
  | inl inside ↦ each i 0 inside
  | inr past ↦ omega (arith, get_or_past xs i 0 past)
]

-- n bytes from place i on are below 256 ^ n
pub number_below : (n i : ℕ) (xs : List ℕ) → All (λ byte. byte < 256) xs → little_from i n xs < 256 ^ n
number_below zero i xs each = omega arith
number_below (suc n) i xs each =
    let first = byte_below xs i each in
    let rest = number_below n (suc i) xs each in
    omega (arith, first, rest)

byte_at_below : (i word : ℕ) → byte_at i word < 256
byte_at_below zero word = omega arith
byte_at_below (suc i) word = omega arith

-- the low bytes of a word are bytes
pub bytes_below : (i n word : ℕ) → All (λ byte. byte < 256) (bytes_low_first i n word)
bytes_below i zero word k d lt = absurd (omega (arith, lt))
bytes_below i (suc n) word zero d lt = byte_at_below i word
bytes_below i (suc n) word (suc k) d lt = bytes_below (suc i) n word k d (omega (arith, lt))

pub length-low_bytes : (i n word : ℕ) → length (bytes_low_first i n word) ≡ n
length-low_bytes i zero word = refl
length-low_bytes i (suc n) word = ap suc (length-low_bytes (suc i) n word)

-- Bytes as pairs of lower case hexadecimal digits.
use Rattle.std.specs.Prelude.{ℕ, Bool, true, false, ◌||◌, ◌==◌, List, [], ◌∷◌, Option, Some, None, option_map, if◌then◌else◌}
use Rattle.base.specs.Hexadecimal.{byte_in}

-- a space, a tab or a line feed
abbrev pub is_blank : ℕ → Bool
is_blank code = (code == 32) || (code == 9) || (code == 10)

abbrev pub with_first : Option ℕ → Option (List ℕ) → Option (List ℕ)
with_first (Some byte) (Some bytes) = Some (byte ∷ bytes)
with_first (Some byte) None = None
with_first None rest = None

-- the bytes that pairs of digits spell; blanks may stand before, between and after them
unfoldable pub bytes_in : List ℕ → Option (List ℕ)
bytes_in [] = Some []
bytes_in (code ∷ []) = if is_blank code then Some [] else None
bytes_in (high ∷ low ∷ rest) = if is_blank high then bytes_in (low ∷ rest) else with_first (byte_in (high ∷ low ∷ [])) (bytes_in rest)

-- a blank, or the byte of the first pair, and what follows it
abbrev pub blank_or : Bool → List ℕ → Option (Option ℕ × List ℕ) → Option (Option ℕ × List ℕ)
blank_or true rest pair = Some (None, rest)
blank_or false rest pair = pair

abbrev pub first_in : List ℕ → Option (Option ℕ × List ℕ)
first_in [] = None
first_in (code ∷ []) = blank_or (is_blank code) [] None
first_in (high ∷ low ∷ rest) = blank_or (is_blank high) (low ∷ rest) (option_map (λ byte. (Some byte, rest)) (byte_in (high ∷ low ∷ [])))

-- Bytes as pairs of lower case hexadecimal digits.
use Rattle.std.specs.Prelude.{ℕ, ◌+◌, ◌-◌, ◌*◌, ◌&&◌, ◌||◌, Bool, nat_le, List, [], ◌∷◌, Option, Some, None, if◌then◌else◌}

-- the codes of `0` to `9`, and of `a` to `f`
abbrev pub is_decimal : ℕ → Bool
is_decimal code = nat_le 48 code && nat_le code 57

abbrev pub is_letter : ℕ → Bool
is_letter code = nat_le 97 code && nat_le code 102

abbrev pub is_digit : ℕ → Bool
is_digit code = is_decimal code || is_letter code

abbrev pub digit_value : ℕ → ℕ
digit_value code = if is_decimal code then code - 48 else if is_letter code then code - 97 + 10 else 0

abbrev pub pair_value : ℕ → ℕ → ℕ
pair_value high low = 16 * digit_value high + digit_value low

-- the byte that a word spells
abbrev pub byte_in : List ℕ → Option ℕ
byte_in [] = None
byte_in (high ∷ []) = None
byte_in (high ∷ low ∷ []) = if is_digit high && is_digit low then Some (pair_value high low) else None
byte_in (high ∷ low ∷ next ∷ rest) = None

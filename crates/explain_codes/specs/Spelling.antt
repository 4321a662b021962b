-- Which words are spelled as codes are: by a letter of either case, and one to three digits.
use Rattle.std.specs.Prelude.{ℕ, Bool, false, ◌&&◌, ◌||◌, nat_le, List, [], ◌∷◌, length}
use Rattle.std.specs.List.{list_all}

abbrev pub is_between : ℕ → ℕ → ℕ → Bool
is_between low high byte = nat_le low byte && nat_le byte high

unfoldable pub is_letter : ℕ → Bool
is_letter byte = is_between 65 90 byte || is_between 97 122 byte

unfoldable pub is_digit : ℕ → Bool
is_digit byte = is_between 48 57 byte

abbrev pub are_digits : List ℕ → Bool
are_digits bytes = nat_le 1 (length bytes) && nat_le (length bytes) 3 && list_all is_digit bytes

abbrev pub is_spelled_as_code : List ℕ → Bool
is_spelled_as_code [] = false
is_spelled_as_code (letter ∷ digits) = is_letter letter && are_digits digits

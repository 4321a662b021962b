-- Which lexemes are tokens, and the value of a number. A number of 2^64 or more is in no range that is asked for, so its
-- value is None.
use Rattle.std.specs.Prelude.{ℕ, ◌+◌, ◌-◌, ◌*◌, ◌^◌, Bool, false, ◌&&◌, ◌||◌, nat_lt, List, [], ◌∷◌, length, take, drop, Option, Some, None, is_some, codes, bytes_eq, if◌then◌else◌}
use Rattle.std.specs.List.{list_all}
use Rattle.bpf_asm.specs.Bytes.{is_between, is_letter, is_digit, is_hexadecimal_digit, is_word, is_mark}

-- a letter, and then letters, digits and `_`
abbrev pub is_name : List ℕ → Bool
is_name [] = false
is_name (byte ∷ bytes) = is_letter byte && list_all is_word bytes

-- decimal digits, leading zeros too
abbrev pub is_decimal : List ℕ → Bool
is_decimal word = nat_lt 0 (length word) && list_all is_digit word

-- `0x` and at least one digit of base 16
abbrev pub is_hexadecimal : List ℕ → Bool
is_hexadecimal word = bytes_eq (take 2 word) (codes "0x") && nat_lt 0 (length (drop 2 word)) && list_all is_hexadecimal_digit (drop 2 word)

-- the value of a digit of base 16, and 0 of any other byte
unfoldable pub digit_of : ℕ → ℕ
digit_of byte = if is_between 48 57 byte then byte - 48 else (if is_between 97 102 byte then byte - 87 else 0)

-- the number that digits write after those of the number so far
abbrev pub value_after : ℕ → ℕ → List ℕ → ℕ
value_after radix value [] = value
value_after radix value (byte ∷ bytes) = value_after radix (value * radix + digit_of byte) bytes

abbrev pub below_64_bits : ℕ → Option ℕ
below_64_bits value = if nat_lt value (2 ^ 64) then Some value else None

-- the value of a number without its sign, if the lexeme is a number
unfoldable pub number_of : List ℕ → Option (Option ℕ)
number_of word =
    if is_hexadecimal word then Some (below_64_bits (value_after 16 0 (drop 2 word)))
    else (if is_decimal word then Some (below_64_bits (value_after 10 0 word)) else None)

-- the lexeme is this mark
abbrev pub is_the_mark : ℕ → List ℕ → Bool
is_the_mark mark word = bytes_eq word (mark ∷ [])

abbrev pub is_some_mark : List ℕ → Bool
is_some_mark [] = false
is_some_mark (byte ∷ []) = is_mark byte
is_some_mark (byte ∷ second ∷ bytes) = false

-- what the format knows: a name, a number or a mark
unfoldable pub is_token : List ℕ → Bool
is_token word = is_name word || is_some (number_of word) || is_some_mark word

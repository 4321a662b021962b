-- What single bytes of a text are: letters are lower-case ones, and a blank is a space or a tab.
use Rattle.std.specs.Prelude.{ℕ, Bool, ◌&&◌, ◌||◌, ◌==◌, nat_le}

abbrev pub is_between : ℕ → ℕ → ℕ → Bool
is_between low high byte = nat_le low byte && nat_le byte high

unfoldable pub is_letter : ℕ → Bool
is_letter byte = is_between 97 122 byte

unfoldable pub is_digit : ℕ → Bool
is_digit byte = is_between 48 57 byte

-- a digit of base 16
unfoldable pub is_hexadecimal_digit : ℕ → Bool
is_hexadecimal_digit byte = is_between 48 57 byte || is_between 97 102 byte

-- a letter, a digit or `_`: the longest runs of these are names and numbers
unfoldable pub is_word : ℕ → Bool
is_word byte = is_between 97 122 byte || is_between 48 57 byte || (byte == 95)

unfoldable pub is_blank : ℕ → Bool
is_blank byte = (byte == 32) || (byte == 9)

-- one of , : [ ] + -
unfoldable pub is_mark : ℕ → Bool
is_mark byte = (byte == 44) || (byte == 58) || (byte == 91) || (byte == 93) || (byte == 43) || (byte == 45)

-- `#`, after which the rest of a line is a comment
abbrev pub is_hash : ℕ → Bool
is_hash byte = byte == 35

abbrev pub is_line_feed : ℕ → Bool
is_line_feed byte = byte == 10

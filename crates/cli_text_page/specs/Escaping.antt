-- How a text from outside is shown to people.
use Rattle.std.specs.Prelude.{ℕ, ◌/◌, ◌%◌, Bool, true, false, List, [], ◌∷◌, ◌++◌, ◌==◌, if◌then◌else◌, nat_lt, codes, chars, encode_utf8}
use Rattle.std.specs.List.{flat_map}
use Rattle.std.specs.Fmt.{digit_glyph, digits}
use Rattle.ucd_category.specs.GeneralCategory.{general_category}
use Rattle.ucd_category.specs.declared.GeneralCategory.{GeneralCategory}
use Rattle.ucd_category.specs.declared.GeneralCategory.TheVariants.{Control, Format, Surrogate, PrivateUse, Unassigned, LineSeparator, ParagraphSeparator}

-- Unicode's general categories Cc, Cf, Cs, Co, Cn, Zl and Zp: what a terminal obeys, what moves other characters, and what may mean
-- anything
abbrev pub is_harmless : GeneralCategory → Bool
is_harmless Control = false
is_harmless Format = false
is_harmless Surrogate = false
is_harmless PrivateUse = false
is_harmless Unassigned = false
is_harmless LineSeparator = false
is_harmless ParagraphSeparator = false
is_harmless _ = true

-- the character is shown as it is
unfoldable pub is_shown : ℕ → Bool
is_shown c = is_harmless (general_category c)

-- what is shown for a character that is not: a letter, two digits of base 16, or its code
abbrev pub escape_of : ℕ → List ℕ
escape_of c = if c == 10 then codes "\\n"
    else if c == 13 then codes "\\r"
    else if c == 9 then codes "\\t"
    else if nat_lt c 128 then codes "\\x" ++ (digit_glyph false (c / 16) ∷ digit_glyph false (c % 16) ∷ [])
    else codes "\\u{" ++ digits 16 false c ++ codes "}"

-- what is shown for a character
abbrev pub shown_as : ℕ → List ℕ
shown_as c = if is_shown c then encode_utf8 c else escape_of c

-- what is shown for a text
abbrev pub escaped : List ℕ → List ℕ
escaped text = flat_map shown_as (chars text)

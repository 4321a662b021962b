-- What a call puts on a page.
use Rattle.std.specs.Prelude.{◌≡◌, ℕ, ◌/◌, ◌%◌, false, List, [], ◌∷◌, ◌++◌, ◌&&◌, if◌then◌else◌, nat_le, string_bytes}
use Rattle.std.specs.Fmt.{digit_glyph}
use Rattle.cli_text_page.specs.declared.page.Page.{Page}

-- a page that is not torn afterwards was not torn before, and has that text after what stood on it
abbrev pub Puts : Page → List ℕ → Page → Type 0
Puts old text new = new.is_torn ≡ false → (old.is_torn ≡ false) × (string_bytes new.text ≡ string_bytes old.text ++ text)

-- the same for some text
abbrev pub Adds : Page → Page → Type 0
Adds old new = (text : List ℕ) × Puts old text new

-- a byte as two digits of base 16
abbrev pub byte_digits : ℕ → List ℕ
byte_digits byte = digit_glyph false (byte / 16) ∷ digit_glyph false (byte % 16) ∷ []

-- the character that a byte is, if it is a printable one of ASCII, else a dot
abbrev pub printable : ℕ → ℕ
printable byte = if nat_le 32 byte && nat_le byte 126 then byte else 46

-- Reading a field from the front of a text, as the code does it: what was read, and what is after it.
use Rattle.std.specs.Prelude.{◌≡◌, ◌^◌, ℕ, ◌==◌, ◌&&◌, not, nat_lt, Bool, Option, Some, None, List, [], ◌∷◌, length, if◌then◌else◌}
use Rattle.std.specs.Char.{is_ascii_digit}
use Rattle.std.specs.List.{list_all}
use Rattle.std.specs.Str.Parse.{digits_value}
use Rattle.trace_lines.specs.Reading.{has_leading_zero}

-- what a call read, seen by view, is what reading gives
abbrev pub ReadsAs : {X Y : Type 0} → (X → Y) → Option X → Option Y → Type 0
ReadsAs view None read = read ≡ None
ReadsAs view (Some x) read = read ≡ Some (view x)

-- and then, if something was read
infixl 10 ◌>>=◌
abbrev pub ◌>>=◌ : {A B : Type 0} → Option A → (A → Option B) → Option B
None >>= f = None
(Some x) >>= f = f x

-- the word in front up to the first blank, which is 32, and what is after it
unfoldable pub cut : List ℕ → List ℕ × List ℕ
cut [] = ([], [])
cut (byte ∷ bytes) = if byte == 32 then ([], byte ∷ bytes) else (byte ∷ (cut bytes).0, (cut bytes).1)

-- a field, which follows a blank
unfoldable pub field_in : List ℕ → Option (List ℕ × List ℕ)
field_in [] = None
field_in (byte ∷ bytes) = if byte == 32 then Some (cut bytes) else None

-- the number below 2^64 that has these digits and no leading zeros
abbrev pub is_number : List ℕ → Bool
is_number word = (not (has_leading_zero word) && list_all is_ascii_digit word) && (nat_lt 0 (length word) && nat_lt (digits_value 10 word) (2 ^ 64))

unfoldable pub value_of : List ℕ → Option ℕ
value_of word = if is_number word then Some (digits_value 10 word) else None

-- a field that is a number below 2^64, and one that is below 2^32
unfoldable pub long_number_in : List ℕ → Option (ℕ × List ℕ)
long_number_in text = field_in text >>= λ field. value_of field.0 >>= λ number. Some (number, field.1)

unfoldable pub number_in : List ℕ → Option (ℕ × List ℕ)
number_in text = long_number_in text >>= λ long. if nat_lt long.0 (2 ^ 32) then Some long else None

-- nothing is after what was read
unfoldable pub ended : {A : Type 0} → A → List ℕ → Option A
ended read [] = Some read
ended read (byte ∷ bytes) = None

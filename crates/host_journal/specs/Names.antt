-- What a name in the folder of a journal is, and which names are those of a journal.
use Rattle.std.specs.Prelude.{◌+◌, ◌-◌, ◌*◌, ◌==◌, ◌&&◌, ◌||◌, ℕ, Bool, not, nat_eq, nat_le, if◌then◌else◌, Option, Some, None, List, [], ◌∷◌, length, take, slice_index, bytes_eq, codes}
use Rattle.std.specs.Char.{is_ascii_digit}
use Rattle.std.specs.List.{ends_with, list_all}
use Rattle.host_journal.specs.declared.names.NameKind.{NameKind}
use Rattle.host_journal.specs.declared.names.NameKind.TheVariants.{Segment, Manifest, Ignored, Foreign}

-- ---- a name, as bytes

abbrev pub are_digits : List ℕ → Bool
are_digits digits = list_all is_ascii_digit digits

-- six digits, or more without a zero in front, of which a 64-bit number has room for all
abbrev pub is_number : List ℕ → Bool
is_number digits = nat_le 6 (length digits) && nat_le (length digits) 18 && are_digits digits && (length digits == 6 || not (slice_index digits 0 == 48))

-- the value of digits after others of this value
abbrev pub value_from : ℕ → List ℕ → ℕ
value_from value [] = value
value_from value (digit ∷ digits) = value_from (10 * value + (digit - 48)) digits

abbrev pub number_in : List ℕ → Option ℕ
number_in digits = if is_number digits then (if value_from 0 digits == 0 then None else Some (value_from 0 digits)) else None

abbrev pub number_before : (end name : List ℕ) → Option ℕ
number_before end name = if ends_with nat_eq name end then number_in (take (length name - length end) name) else None

abbrev pub kind_of_numbers : Option ℕ → Option ℕ → NameKind
kind_of_numbers (Some number) manifest = Segment number
kind_of_numbers None (Some number) = Manifest number
kind_of_numbers None None = Foreign

abbrev pub kind_of : List ℕ → NameKind
kind_of name =
    if bytes_eq name (codes "lock") || ends_with nat_eq name (codes ".new") then Ignored
    else kind_of_numbers (number_before (codes ".trace") name) (number_before (codes ".toml") name)

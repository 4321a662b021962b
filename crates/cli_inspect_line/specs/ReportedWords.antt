-- What the words after options say of what was reported.
use Rattle.std.specs.Prelude.{ℕ, ◌==◌, ◌&&◌, Bool, List, Option, Some, None, bytes_eq, codes, if◌then◌else◌, length, slice_index}
use Rattle.base.specs.Hexadecimal.{is_digit, pair_value}
use Rattle.ccb.specs.CallRefusalText.{refusal_coded}
use Rattle.ccb.specs.declared.call_refusal.CallRefusal.{CallRefusal}
use Rattle.show_events.specs.declared.filter.SenseFilter.{SenseFilter}
use Rattle.show_events.specs.declared.filter.RefusedFilter.{RefusedFilter}
use Rattle.show_events.specs.declared.filter.RefusedFilter.TheVariants.{Any, So}

-- a slash with two digits after it
unfoldable pub is_pair : ℕ → ℕ → ℕ → Bool
is_pair slash high low = (slash == 47) && (is_digit high && is_digit low)

-- a sense key, whose digit is the lower one of a byte
unfoldable pub by_key : ℕ → Option SenseFilter
by_key key = if is_digit key then Some (record { key = pair_value 48 key; asc = None; ascq = None }) else None

-- a key and an additional sense code
unfoldable pub by_code : ℕ → ℕ → ℕ → ℕ → Option SenseFilter
by_code key slash high low =
    if is_digit key && is_pair slash high low then Some (record { key = pair_value 48 key; asc = Some (pair_value high low); ascq = None }) else None

-- with its qualifier
unfoldable pub with_ascq : Option SenseFilter → ℕ → ℕ → ℕ → Option SenseFilter
with_ascq None slash high low = None
with_ascq (Some filter) slash high low =
    if is_pair slash high low then Some (record { key = filter.key; asc = filter.asc; ascq = Some (pair_value high low) }) else None

-- the sense data that a word names, by how many characters it has: a key alone, with a code, or with a code and a qualifier
unfoldable pub sense_in : List ℕ → Option SenseFilter
sense_in word =
    if length word == 1 then by_key (slice_index word 0)
    else (if length word == 4 then by_code (slice_index word 0) (slice_index word 1) (slice_index word 2) (slice_index word 3)
    else (if length word == 7
    then with_ascq (by_code (slice_index word 0) (slice_index word 1) (slice_index word 2) (slice_index word 3)) (slice_index word 4) (slice_index word 5) (slice_index word 6)
    else None))

abbrev pub so : Option CallRefusal → Option RefusedFilter
so None = None
so (Some refusal) = Some (So refusal)

-- the refusals that a word names
unfoldable pub refused_in : List ℕ → Option RefusedFilter
refused_in word = if bytes_eq word (codes "any") then Some Any else so (refusal_coded word)

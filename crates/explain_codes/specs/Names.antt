-- How a code is spelled, and which one a word is.
use Rattle.std.specs.Prelude.{ℕ, Option, None, Some, List, [], ◌∷◌, ◌==◌, ◌+◌, ◌-◌, ◌/◌, ◌%◌, bytes_eq, find, if◌then◌else◌, map, nat_lt}
use Rattle.std.specs.List.{range_with_len}
use Rattle.explain_codes.specs.declared.code.Code.{Code}
use Rattle.explain_codes.specs.declared.code.Series.{Series}
use Rattle.explain_codes.specs.declared.code.TheConstants.{SERIES}

-- the digits of a number of one or two
abbrev pub digits_of : ℕ → List ℕ
digits_of number = if nat_lt number 10 then (48 + number) ∷ [] else (48 + number / 10) ∷ (48 + number % 10) ∷ []

-- its name: a letter and its digits
abbrev pub name_of : Code → List ℕ
name_of code = code.letter ∷ digits_of code.number

-- the codes of a letter, from 1
abbrev pub codes_of : Series → List Code
codes_of series = map (λ number. record { letter = series.letter; number = number }) (range_with_len 1 (series.end - 1))

-- the codes of a letter, if it has any
unfoldable pub series_of : ℕ → Option Series
series_of letter = find (λ series. series.letter == letter) SERIES

abbrev pub code_in : Option Series → List ℕ → Option Code
code_in None word = None
code_in (Some series) word = find (λ code. bytes_eq (name_of code) word) (codes_of series)

-- the code of a name, which is among the codes of its first letter
abbrev pub code_named : List ℕ → Option Code
code_named [] = None
code_named (letter ∷ rest) = code_in (series_of letter) (letter ∷ rest)

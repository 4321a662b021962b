-- Numbers and their decimal digits without leading zeros.
use Rattle.std.proofs.Common.{◌≡◌, ◌<◌, ◌≤◌, ◌^◌, ◌&&◌, not, ℕ, zero, suc, Bool, true, false, Option, Some, None, Result, Ok, Err, List, [], ◌∷◌, length, get_or, refl, sym, ap, ◌∙◌, arith, rules, nat_lt, lit<, subst}
use Rattle.std.proofs.lemmas.Bool.{ltb-true, lt-ltb}
use Rattle.std.specs.Prelude.{decimal}
use Rattle.std.specs.Char.{is_ascii_digit}
use Rattle.std.specs.List.{list_all}
use Rattle.std.specs.Result.{result_ok}
use Rattle.std.specs.Str.Parse.{ParsesUnsigned, digits_value}
use Rattle.std.proofs.lemmas.Bool.Decides.{nat_tests}
use Rattle.std.proofs.lemmas.Str.Parse.{IsNumeralModel, numerals_by_value, parse_digits}
use Rattle.std.proofs.lemmas.Fmt.{parse-decimal, digits_decimal, decimal-digits_value, decimal_digit, first_decimal}
use Rattle.trace_lines.specs.Reading.{has_leading_zero, is_black}
use Rattle.trace_lines.specs.Texts.{where_true}
use Rattle.trace_lines.specs.Written.{Reads}
use Rattle.trace_lines.proofs.Tests.{passed, both}

abbrev are_digits : List ℕ → Type 0
are_digits word = list_all is_ascii_digit word ≡ true

own : IsNumeralModel are_digits (digits_value 10)
own = numerals_by_value are_digits (search rules)

-- a number below 2^bits
abbrev pub bits_text : ℕ → ℕ → Option (List ℕ)
bits_text bits number = where_true (nat_lt number (2 ^ bits)) (decimal number)

shortest : (word : List ℕ) → has_leading_zero word ≡ false → 0 < length word → get_or word 0 0 ≡ 48 → length word ≡ 1
shortest [] h some is = absurd (omega arith)
shortest (x ∷ []) h some is = refl
shortest (x ∷ y ∷ rest) h some is = absurd (grind (arith, nat_tests))

no_zero_first : (word : List ℕ) → 48 < get_or word 0 0 → has_leading_zero word ≡ false
no_zero_first [] h = refl
no_zero_first (x ∷ []) h = refl
no_zero_first (x ∷ y ∷ rest) h = grind (arith, nat_tests)

no_leading_zero : (number : ℕ) → number < 2 ^ 64 → has_leading_zero (decimal number) ≡ false
no_leading_zero zero fits = ap has_leading_zero (decimal_digit 0 (lit< tt))
no_leading_zero (suc n) fits = no_zero_first (decimal (suc n)) (first_decimal (suc n) (omega arith) fits)

below : (bits number : ℕ) → 2 ^ bits ≤ 2 ^ 64 → nat_lt number (2 ^ bits) ≡ true → (number < 2 ^ bits) × (number < 2 ^ 64)
below bits number small test =
    let one : number < 2 ^ bits = ltb-true number (2 ^ bits) test in
    (one, omega (arith, one, small))

-- what is printed of a number passes the test of words
pub is_tested : (bits : ℕ) (word : List ℕ) (number : ℕ) → 2 ^ bits ≤ 2 ^ 64 → bits_text bits number ≡ Some word → (not (has_leading_zero word) && list_all is_ascii_digit word) ≡ true
is_tested bits word number small is =
    let told = passed (nat_lt number (2 ^ bits)) (decimal number) word is in
    let fits = below bits number small told.0 in
    let e = told.1 in
    let lead : has_leading_zero word ≡ false = ap has_leading_zero (sym e) ∙ no_leading_zero number fits.1 in
    let digits : list_all is_ascii_digit word ≡ true = ap (list_all is_ascii_digit) (sym e) ∙ digits_decimal own number fits.1 in
    rw (lead, digits) refl

-- what fails that test is nothing that is printed of a number
pub not_read : (bits : ℕ) (word : List ℕ) → 2 ^ bits ≤ 2 ^ 64 → (not (has_leading_zero word) && list_all is_ascii_digit word) ≡ false → Reads (bits_text bits) word None
not_read bits word small fails = record {
  said = tt;
  back = λ number is. let passes = is_tested bits word number small is in absurd cc;
}

-- it is read again as the number
again : {E : Type 0} (bits : ℕ) (word : List ℕ) (parsed : Result ℕ E) → 2 ^ bits ≤ 2 ^ 64 → ParsesUnsigned bits 10 word parsed
    → (number : ℕ) → bits_text bits number ≡ Some word → result_ok parsed ≡ Some number
again bits word parsed small parses number is =
    let told = passed (nat_lt number (2 ^ bits)) (decimal number) word is in
    let fits = below bits number small told.0 in
    let e = parse-decimal bits number word parsed fits.0 fits.1 (sym told.1) parses in
    rw e refl

-- and what passes that test is read as the number that is printed so
pub is_read : {E : Type 0} (bits : ℕ) (word : List ℕ) (parsed : Result ℕ E) → 2 ^ bits ≤ 2 ^ 64 → (not (has_leading_zero word) && list_all is_ascii_digit word) ≡ true
    → ParsesUnsigned bits 10 word parsed → Reads (bits_text bits) word (result_ok parsed)
is_read {E} bits word (Ok number) small test parses =
    let parts = both (not (has_leading_zero word)) (list_all is_ascii_digit word) test in
    let lead : has_leading_zero word ≡ false = grind (arith, nat_tests) in
    let found = parse_digits own {E = E} bits word (Ok number) parses parts.1 in
    let fits : number < 2 ^ bits = subst (λ n. n < 2 ^ bits) (sym found.1) found.0.1 in
    let small_value : digits_value 10 word < 2 ^ 64 = omega (arith, found.0.1, small) in
    let spelled : decimal number ≡ word = ap decimal found.1 ∙ decimal-digits_value own word parts.1 found.0.0 (shortest word lead found.0.0) small_value in
    let test_number : nat_lt number (2 ^ bits) ≡ true = lt-ltb number (2 ^ bits) fits in
    record {
      said = ap (λ (b : Bool). where_true b (decimal number)) test_number ∙ ap Some spelled;
      back = again {E = E} bits word (Ok number) small parses;
    }
is_read {E} bits word (Err fault) small test parses = record {
  said = tt;
  back = again {E = E} bits word (Err fault) small parses;
}

black_digit : (c : ℕ) → is_ascii_digit c ≡ true → is_black c ≡ true
black_digit c h = grind (arith, nat_tests)

black_digits : (word : List ℕ) → list_all is_ascii_digit word ≡ true → list_all is_black word ≡ true
black_digits [] h = refl
black_digits (c ∷ word) h = let parts = both (is_ascii_digit c) (list_all is_ascii_digit word) h in rw (black_digit c parts.0, black_digits word parts.1) refl

-- no digit is a blank
pub decimal_black : (number : ℕ) → number < 2 ^ 64 → list_all is_black (decimal number) ≡ true
decimal_black number fits = black_digits (decimal number) (digits_decimal own number fits)

pub decimal_digits : (number : ℕ) → number < 2 ^ 64 → list_all is_ascii_digit (decimal number) ≡ true
decimal_digits number fits = digits_decimal own number fits

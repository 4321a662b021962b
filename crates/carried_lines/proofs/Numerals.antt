-- What is read of a word as a number is the number with these digits.
use Rattle.std.proofs.Common.{◌≡◌, ◌<◌, ◌^◌, ◌&&◌, not, ℕ, Bool, true, false, Option, Some, None, List, [], ◌∷◌, length, get_or, refl, sym, ap, ◌∙◌, arith, rules, nat_lt}
use Rattle.std.specs.Prelude.{decimal}
use Rattle.std.specs.Char.{is_ascii_digit}
use Rattle.std.specs.List.{list_all}
use Rattle.std.specs.Str.Parse.{digits_value}
use Rattle.std.proofs.lemmas.Bool.{ltb-true, lt-ltb}
use Rattle.std.proofs.lemmas.Bool.Decides.{nat_tests}
use Rattle.std.proofs.lemmas.Option.{cond_some}
use Rattle.std.proofs.lemmas.Str.Parse.{IsNumeralModel, numerals_by_value}
use Rattle.std.proofs.lemmas.Fmt.{decimal-digits_value, digits_value-decimal, decimal_nonempty}
use Rattle.trace_lines.specs.Reading.{has_leading_zero}
use Rattle.trace_lines.specs.Texts.{where_true, long_number_text}
use Rattle.trace_lines.specs.Written.{Reads}
use Rattle.trace_lines.proofs.Decimals.{is_tested}
use Rattle.trace_lines.proofs.Tests.{both, passed}
use Rattle.carried_lines.specs.FieldReading.{is_number, value_of}

abbrev are_digits : List ℕ → Type 0
are_digits word = list_all is_ascii_digit word ≡ true

own : IsNumeralModel are_digits (digits_value 10)
own = numerals_by_value are_digits (search rules)

shortest : (word : List ℕ) → has_leading_zero word ≡ false → 0 < length word → get_or word 0 0 ≡ 48 → length word ≡ 1
shortest [] h some is = absurd (omega arith)
shortest (x ∷ []) h some is = refl
shortest (x ∷ y ∷ rest) h some is = absurd (grind (arith, nat_tests))

was_not : (a : Bool) → not a ≡ true → a ≡ false
was_not true h = absurd cc
was_not false h = refl

-- a number's digits are read as it
pub number_again : (number : ℕ) (word : List ℕ) → long_number_text number ≡ Some word → value_of word ≡ Some number
unfolding value_of
number_again number word e =
    let told = passed (nat_lt number (2 ^ 64)) (decimal number) word e in
    let fits = ltb-true number (2 ^ 64) told.0 in
    let value : digits_value 10 word ≡ number = ap (digits_value 10) (sym told.1) ∙ digits_value-decimal own number fits in
    let some : nat_lt 0 (length word) ≡ true = ap (λ (t : List ℕ). nat_lt 0 (length t)) (sym told.1) ∙ lt-ltb 0 (length (decimal number)) (decimal_nonempty number fits) in
    let small : nat_lt (digits_value 10 word) (2 ^ 64) ≡ true = ap (λ (n : ℕ). nat_lt n (2 ^ 64)) value ∙ told.0 in
    rw (is_tested 64 word number (omega arith) e, some, small) (ap Some value)

-- and what is read as a number is its digits
pub number_said : (word : List ℕ) (number : ℕ) → value_of word ≡ Some number → long_number_text number ≡ Some word
unfolding value_of
number_said word number e =
    let found = cond_some (is_number word) (digits_value 10 word) number e in
    let halves = both (not (has_leading_zero word) && list_all is_ascii_digit word) (nat_lt 0 (length word) && nat_lt (digits_value 10 word) (2 ^ 64)) found.0 in
    let first = both (not (has_leading_zero word)) (list_all is_ascii_digit word) halves.0 in
    let second = both (nat_lt 0 (length word)) (nat_lt (digits_value 10 word) (2 ^ 64)) halves.1 in
    let some = ltb-true 0 (length word) second.0 in
    let small = ltb-true (digits_value 10 word) (2 ^ 64) second.1 in
    let spelled : decimal (digits_value 10 word) ≡ word = decimal-digits_value own word first.1 some (shortest word (was_not (has_leading_zero word) first.0) some) small in
    let told : long_number_text (digits_value 10 word) ≡ Some word = ap (λ (b : Bool). where_true b (decimal (digits_value 10 word))) second.1 ∙ ap Some spelled in
    ap long_number_text (sym found.1) ∙ told

-- so whatever reads it both ways reads just that
none_read : (word : List ℕ) (found : Option ℕ) → Reads long_number_text word None → value_of word ≡ found → None ≡ value_of word
none_read word None reads e = sym e
none_read word (Some number) reads e = let there = reads.back number (number_said word number e) in absurd cc

pub one_reading : (word : List ℕ) (read : Option ℕ) → Reads long_number_text word read → read ≡ value_of word
one_reading word (Some number) reads = sym (number_again number word reads.said)
one_reading word None reads = none_read word (value_of word) reads refl

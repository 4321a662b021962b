-- The numbers of workers that `clap` accepts.
use Rattle.std.proofs.Common.{◌≡◌, ◌∙◌, ◌≢◌, [], ◌∷◌, true, false, get_or, refl, subst, sym, arith}
use Rattle.std.proofs.lemmas.Int.{ints}
use Rattle.std.proofs.lemmas.Str.Parse.{digit_from_value, without_leading_plus_none}
use Rattle.std.specs.Str.Parse.{IsNumeral, digits_value, starts_with_minus, without_leading_plus}
use Rattle.clap.specs.Words.{Text}
use Rattle.clap.specs.ValueTests.{accepts}
use Rattle.clap.proofs.ValueTestLemmas.{Accepts-accepts}
use Rattle.cli_line.specs.RunLine.{IsPlain, SpellsNoLawfulNumber}
use Rattle.cli_line.proofs.Readings.{one_to_sixteen}

no_minus : (word : Text) → IsPlain word → starts_with_minus word ≡ false
no_minus [] plain = refl
no_minus (x ∷ rest) plain = plain

not_plus : (word : Text) → IsNumeral 10 word → get_or word 0 0 ≢ 43
not_plus [] numeral is = omega (arith, numeral.0)
not_plus (x ∷ rest) numeral is = let range = digit_from_value x numeral.1.0 in omega (arith, range, is)

-- digits alone have no sign to be left out
pub no_plus : (word : Text) → IsNumeral 10 word → without_leading_plus word ≡ word
no_plus word numeral = without_leading_plus_none word (not_plus word numeral)

pub refused_number : (word : Text) → IsPlain word → accepts false one_to_sixteen word ≡ false → SpellsNoLawfulNumber word
refused_number word plain refused n spells lawful =
    let minus = no_minus word plain in
    let read : IsNumeral 10 (without_leading_plus word) × (n ≡ digits_value 10 (without_leading_plus word)) =
    subst (λ w. IsNumeral 10 w × (n ≡ digits_value 10 w)) (sym (no_plus word spells.0)) spells in
    let passes : accepts false one_to_sixteen word ≡ true = Accepts-accepts false one_to_sixteen word
    (rw minus read.0, rw minus (record { sfits = omega arith }), rw minus (omega (arith, ints)), rw minus (omega (arith, ints))) in
    let bad : true ≡ false = sym passes ∙ refused in
    cc

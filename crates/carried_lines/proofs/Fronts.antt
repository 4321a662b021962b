-- A field that is read in front of fields, there and back.
use Rattle.std.proofs.Common.{◌≡◌, ◌^◌, ℕ, Bool, true, Option, Some, None, List, [], ◌∷◌, ◌++◌, refl, sym, ap, ◌∙◌, arith, codes, nat_lt}
use Rattle.std.specs.Prelude.{decimal, if◌then◌else◌}
use Rattle.std.specs.List.{list_all}
use Rattle.std.proofs.lemmas.Bool.{ltb-true, lt-ltb}
use Rattle.std.proofs.lemmas.Option.{cond_some}
use Rattle.trace_lines.specs.Reading.{is_black, ends_word}
use Rattle.trace_lines.specs.Texts.{where_true, number_text, long_number_text}
use Rattle.trace_lines.proofs.Decimals.{decimal_black}
use Rattle.trace_lines.proofs.Tests.{parts_of, joined, passed, same_text}
use Rattle.carried_lines.specs.CarriedText.{after_blank, after_blanks}
use Rattle.carried_lines.specs.FieldReading.{◌>>=◌, ended, field_in, long_number_in, number_in, value_of}
use Rattle.carried_lines.proofs.Cuts.{field_again, field_whole}
use Rattle.carried_lines.proofs.Numerals.{number_again, number_said}

-- what both steps gave
pub then_some : {A B : Type 0} (o : Option A) (f : A → Option B) (y : B) → (o >>= f) ≡ Some y → (x : A) × (o ≡ Some x) × (f x ≡ Some y)
then_some None f y e = absurd cc
then_some (Some x) f y e = (x, refl, e)

-- ---- fields as texts

-- what begins with a blank, or is nothing, ends a word
pub fields_end : (fields : List (Option (List ℕ))) (text : List ℕ) → after_blanks fields ≡ Some text → ends_word text ≡ true
fields_end [] text e = let none : [] ≡ text = same_text [] text e in ap ends_word (sym none)
fields_end (field ∷ fields) text e =
    let parts = parts_of (after_blank field) (after_blanks fields) text e in
    let front = parts_of (Some (codes " ")) field parts.0 parts.2 in
    let blank : codes " " ≡ front.0 = same_text (codes " ") front.0 front.2 in
    ap ends_word (parts.4 ∙ ap (λ (t : List ℕ). t ++ parts.1) (front.4 ∙ ap (λ (t : List ℕ). t ++ front.1) (sym blank)))

-- the field in front, and the fields after it
pub first_of : (field : Option (List ℕ)) (fields : List (Option (List ℕ))) (text : List ℕ) → after_blanks (field ∷ fields) ≡ Some text
    → (word : List ℕ) × (rest : List ℕ) × (field ≡ Some word) × (after_blanks fields ≡ Some rest) × (text ≡ 32 ∷ (word ++ rest))
first_of None fields text e = absurd cc
first_of (Some word) fields text e =
    let parts = parts_of (after_blank (Some word)) (after_blanks fields) text e in
    let front : 32 ∷ word ≡ parts.0 = same_text (32 ∷ word) parts.0 parts.2 in
    (word, parts.1, refl, parts.3, parts.4 ∙ ap (λ (t : List ℕ). t ++ parts.1) (sym front))

pub with_first : (field : Option (List ℕ)) (word : List ℕ) (fields : List (Option (List ℕ))) (rest text : List ℕ) → field ≡ Some word → after_blanks fields ≡ Some rest → text ≡ 32 ∷ (word ++ rest)
    → after_blanks (field ∷ fields) ≡ Some text
with_first field word fields rest text f fs e = joined (after_blank field) (after_blanks fields) (32 ∷ word) rest (ap after_blank f) fs ∙ ap Some (sym e)

-- ---- a word

pub word_said : (text : List ℕ) (found : List ℕ × List ℕ) (fields : List (Option (List ℕ))) → field_in text ≡ Some found → after_blanks fields ≡ Some found.1 → after_blanks (Some found.0 ∷ fields) ≡ Some text
word_said text found fields e fs = with_first (Some found.0) found.0 fields found.1 text refl fs (field_whole text found e)

pub word_back : (field : Option (List ℕ)) (fields : List (Option (List ℕ))) (text : List ℕ) → ((word : List ℕ) → field ≡ Some word → list_all is_black word ≡ true) → after_blanks (field ∷ fields) ≡ Some text
    → (word : List ℕ) × (rest : List ℕ) × (field ≡ Some word) × (after_blanks fields ≡ Some rest) × (field_in text ≡ Some (word, rest))
word_back field fields text black e =
    let its = first_of field fields text e in
    (its.0, its.1, its.2, its.3, ap field_in its.4 ∙ field_again its.0 its.1 (black its.0 its.2) (fields_end fields its.1 its.3))

-- ---- a long number

long_black : (number : ℕ) (word : List ℕ) → long_number_text number ≡ Some word → list_all is_black word ≡ true
long_black number word e =
    let told = passed (nat_lt number (2 ^ 64)) (decimal number) word e in
    ap (list_all is_black) (sym told.1) ∙ decimal_black number (ltb-true number (2 ^ 64) told.0)

pub long_said : (text : List ℕ) (found : ℕ × List ℕ) (fields : List (Option (List ℕ))) → long_number_in text ≡ Some found → after_blanks fields ≡ Some found.1
    → after_blanks (long_number_text found.0 ∷ fields) ≡ Some text
unfolding long_number_in
long_said text found fields e fs =
    let field = then_some (field_in text) _ found e in
    let number = then_some (value_of field.0.0) _ found field.2 in
    let is : (number.0, field.0.1) ≡ found = cc in
    let rest : after_blanks fields ≡ Some field.0.1 = fs ∙ ap (λ (p : ℕ × List ℕ). Some p.1) (sym is) in
    let here = with_first (long_number_text number.0) field.0.0 fields field.0.1 text (number_said field.0.0 number.0 number.1) rest (field_whole text field.0 field.1) in
    ap (λ (p : ℕ × List ℕ). after_blanks (long_number_text p.0 ∷ fields)) (sym is) ∙ here

pub long_back : (number : ℕ) (fields : List (Option (List ℕ))) (text : List ℕ) → after_blanks (long_number_text number ∷ fields) ≡ Some text
    → (rest : List ℕ) × (long_number_in text ≡ Some (number, rest)) × (after_blanks fields ≡ Some rest)
unfolding long_number_in
long_back number fields text e =
    let its = word_back (long_number_text number) fields text (long_black number) e in
    (its.1, rw (its.4, number_again number its.0 its.2) refl, its.3)

-- ---- a number

short_is_long : (number : ℕ) → nat_lt number (2 ^ 32) ≡ true → number_text number ≡ long_number_text number
short_is_long number e =
    let fits = ltb-true number (2 ^ 32) e in
    let long : nat_lt number (2 ^ 64) ≡ true = lt-ltb number (2 ^ 64) (omega (arith, fits)) in
    ap (λ (b : Bool). where_true b (decimal number)) (e ∙ sym long)

pub short_said : (text : List ℕ) (found : ℕ × List ℕ) (fields : List (Option (List ℕ))) → number_in text ≡ Some found → after_blanks fields ≡ Some found.1
    → after_blanks (number_text found.0 ∷ fields) ≡ Some text
unfolding number_in
short_said text found fields e fs =
    let long = then_some (long_number_in text) _ found e in
    let test = cond_some (nat_lt long.0.0 (2 ^ 32)) long.0 found long.2 in
    let rest : after_blanks fields ≡ Some long.0.1 = fs ∙ ap (λ (p : ℕ × List ℕ). Some p.1) (sym test.1) in
    let here : after_blanks (number_text long.0.0 ∷ fields) ≡ Some text =
    ap (λ (t : Option (List ℕ)). after_blanks (t ∷ fields)) (short_is_long long.0.0 test.0) ∙ long_said text long.0 fields long.1 rest in
    ap (λ (p : ℕ × List ℕ). after_blanks (number_text p.0 ∷ fields)) (sym test.1) ∙ here

short_front : (o : Option (ℕ × List ℕ)) (number : ℕ) (rest : List ℕ) → o ≡ Some (number, rest) → nat_lt number (2 ^ 32) ≡ true → (o >>= λ long. if nat_lt long.0 (2 ^ 32) then Some long else None) ≡ Some (number, rest)
short_front o number rest e test = rw (e, test) refl

pub short_back : (number : ℕ) (fields : List (Option (List ℕ))) (text : List ℕ) → after_blanks (number_text number ∷ fields) ≡ Some text
    → (rest : List ℕ) × (number_in text ≡ Some (number, rest)) × (after_blanks fields ≡ Some rest)
unfolding number_in
short_back number fields text e =
    let its = first_of (number_text number) fields text e in
    let told = passed (nat_lt number (2 ^ 32)) (decimal number) its.0 its.2 in
    let long = long_back number fields text (ap (λ (t : Option (List ℕ)). after_blanks (t ∷ fields)) (sym (short_is_long number told.0)) ∙ e) in
    (long.0, short_front (long_number_in text) number long.0 long.1 told.0, long.2)

-- ---- the end

pub end_said : {A : Type 0} (read : A) (text : List ℕ) (found : A) → ended read text ≡ Some found → (after_blanks [] ≡ Some text) × (read ≡ found)
unfolding ended
end_said read [] found e = (refl, cc)
end_said read (b ∷ bytes) found e = absurd cc

pub end_back : {A : Type 0} (read : A) (text : List ℕ) → after_blanks [] ≡ Some text → ended read text ≡ Some read
unfolding ended
end_back read [] e = refl
end_back read (b ∷ bytes) e = absurd cc

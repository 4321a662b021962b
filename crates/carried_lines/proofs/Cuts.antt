-- A text is cut at its first blank, as the code cuts it.
use Rattle.std.proofs.Common.{◌≡◌, ◌≢◌, ◌==◌, not, ℕ, Bool, true, false, cond, Some, None, List, [], ◌∷◌, ◌++◌, refl, sym, ap, ◌∙◌, arith}
use Rattle.std.proofs.lemmas.Bool.Decides.{nat_tests}
use Rattle.std.specs.List.{list_all}
use Rattle.trace_lines.specs.Reading.{is_black, ends_word, IsCut}
use Rattle.trace_lines.proofs.Tests.{both}
use Rattle.carried_lines.specs.FieldReading.{cut, field_in}

was_not : (a : Bool) → not a ≡ true → a ≡ false
was_not true h = absurd cc
was_not false h = refl

-- a word before what ends it is found again
pub cut_again : (word rest : List ℕ) → list_all is_black word ≡ true → ends_word rest ≡ true → cut (word ++ rest) ≡ (word, rest)
unfolding cut
cut_again [] [] black ends = refl
cut_again [] (b ∷ rest) black ends = rw ends refl
cut_again (a ∷ word) rest black ends =
    let parts = both (is_black a) (list_all is_black word) black in
    rw (was_not (a == 32) parts.0, cut_again word rest parts.1 ends) refl

pub cut_of : (text word rest : List ℕ) → IsCut text word rest → (word, rest) ≡ cut text
cut_of text word rest is = sym (ap cut is.whole ∙ cut_again word rest is.black is.ends)

one_more : (b : ℕ) (bytes : List ℕ) (blank : Bool) → (b == 32) ≡ blank → bytes ≡ (cut bytes).0 ++ (cut bytes).1 → b ∷ bytes ≡ (cut (b ∷ bytes)).0 ++ (cut (b ∷ bytes)).1
unfolding cut
one_more b bytes true is e = rw is refl
one_more b bytes false is e = rw is (ap (λ (t : List ℕ). b ∷ t) e)

-- both parts are all of the text
pub cut_whole : (text : List ℕ) → text ≡ (cut text).0 ++ (cut text).1
unfolding cut
cut_whole [] = refl
cut_whole (b ∷ bytes) = one_more b bytes (b == 32) refl (cut_whole bytes)

-- ---- a field

pub field_again : (word rest : List ℕ) → list_all is_black word ≡ true → ends_word rest ≡ true → field_in (32 ∷ (word ++ rest)) ≡ Some (word, rest)
unfolding field_in
field_again word rest black ends = ap Some (cut_again word rest black ends)

by_test : (b : ℕ) (bytes : List ℕ) (found : List ℕ × List ℕ) (blank : Bool) → (b == 32) ≡ blank → cond blank (Some (cut bytes)) None ≡ Some found → b ∷ bytes ≡ 32 ∷ (found.0 ++ found.1)
by_test b bytes found true is e =
    let same : cut bytes ≡ found = cc in
    let whole : bytes ≡ found.0 ++ found.1 = cut_whole bytes ∙ ap (λ (p : List ℕ × List ℕ). p.0 ++ p.1) same in
    let blank : b ≡ 32 = grind (arith, nat_tests) in
    ap (λ (n : ℕ). n ∷ bytes) blank ∙ ap (λ (t : List ℕ). 32 ∷ t) whole
by_test b bytes found false is e = absurd cc

-- what was read is in front, after its blank
pub field_whole : (text : List ℕ) (found : List ℕ × List ℕ) → field_in text ≡ Some found → text ≡ 32 ∷ (found.0 ++ found.1)
unfolding field_in
field_whole [] found e = absurd cc
field_whole (b ∷ bytes) found e = by_test b bytes found (b == 32) refl e

not_blank : (b : ℕ) (bytes : List ℕ) (blank : Bool) → (b == 32) ≡ blank → ((rest : List ℕ) → b ∷ bytes ≢ 32 ∷ rest) → blank ≡ false
not_blank b bytes true is apart = let blank : b ≡ 32 = grind (arith, nat_tests) in absurd (apart bytes (ap (λ (n : ℕ). n ∷ bytes) blank))
not_blank b bytes false is apart = refl

-- no field is in front of what begins with no blank
pub no_field : (text : List ℕ) → ((rest : List ℕ) → text ≢ 32 ∷ rest) → field_in text ≡ None
unfolding field_in
no_field [] apart = refl
no_field (b ∷ bytes) apart = rw (not_blank b bytes (b == 32) refl apart) refl

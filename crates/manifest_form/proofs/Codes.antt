-- What a text spells, by the blank or the pair that stands first.
use Rattle.std.proofs.Common.{arith, length, ◌<◌, append_assoc, append-nil, if◌then◌else◌, ◌≡◌, ℕ, Bool, true, false, List, [], ◌∷◌, ◌++◌, Option, Some, None, option_map, refl, ap, ◌∙◌, sym}
use Rattle.base.specs.Hexadecimal.{byte_in}
use Rattle.manifest_form.specs.Code.{bytes_in, first_in, blank_or, is_blank, with_first}

abbrev pub after : Option ℕ → Option (List ℕ) → Option (List ℕ)
after None bytes = bytes
after (Some byte) bytes = with_first (Some byte) bytes

abbrev byte_read : Option (Option ℕ × List ℕ) → Option ℕ
byte_read None = None
byte_read (Some read) = read.0

abbrev rest_read : Option (Option ℕ × List ℕ) → List ℕ
rest_read None = []
rest_read (Some read) = read.1

one_goes : (blank : Bool) (byte : Option ℕ) (rest : List ℕ) → blank_or blank [] None ≡ Some (byte, rest) → (if blank then Some [] else None) ≡ after byte (bytes_in rest)
unfolding bytes_in
one_goes true byte rest is =
    rw (← ap byte_read is, ← ap rest_read is)
one_goes false byte rest is = cc

two_goes : (blank : Bool) (pair : Option ℕ) (low : ℕ) (more : List ℕ) (byte : Option ℕ) (rest : List ℕ) → blank_or blank (low ∷ more) (option_map (λ b. (Some b, more)) pair) ≡ Some (byte, rest) → (if blank then bytes_in (low ∷ more) else with_first pair (bytes_in more)) ≡ after byte (bytes_in rest)
two_goes true pair low more byte rest is =
    rw (← ap byte_read is, ← ap rest_read is)
two_goes false None low more byte rest is = cc
two_goes false (Some b) low more byte rest is =
    rw (← ap byte_read is, ← ap rest_read is)

pub first_goes : (text : List ℕ) (byte : Option ℕ) (rest : List ℕ) → first_in text ≡ Some (byte, rest) → bytes_in text ≡ after byte (bytes_in rest)
unfolding bytes_in
first_goes [] byte rest is = cc
first_goes (code ∷ []) byte rest is = one_goes (is_blank code) byte rest is
first_goes (high ∷ low ∷ more) byte rest is = two_goes (is_blank high) (byte_in (high ∷ low ∷ [])) low more byte rest is

one_fails : (blank : Bool) → blank_or blank [] None ≡ None → ◌≡◌ {A = Option (List ℕ)} (if blank then Some [] else None) None
one_fails true is = cc
one_fails false is = refl

two_fails : (blank : Bool) (pair : Option ℕ) (low : ℕ) (more : List ℕ) → blank_or blank (low ∷ more) (option_map (λ b. (Some b, more)) pair) ≡ None → (if blank then bytes_in (low ∷ more) else with_first pair (bytes_in more)) ≡ None
two_fails true pair low more is = cc
two_fails false None low more is = refl
two_fails false (Some b) low more is = cc

-- what begins with neither is not of the form
pub first_fails : (text : List ℕ) → first_in text ≡ None → 0 < length text → bytes_in text ≡ None
unfolding bytes_in
first_fails [] is some = absurd (omega arith)
first_fails (code ∷ []) is some = one_fails (is_blank code) is
first_fails (high ∷ low ∷ more) is some = two_fails (is_blank high) (byte_in (high ∷ low ∷ [])) low more is

with_more : (bytes : List ℕ) (byte : ℕ) (rest : Option (List ℕ)) → option_map (λ more. (bytes ++ byte ∷ []) ++ more) rest ≡ option_map (λ more. bytes ++ more) (with_first (Some byte) rest)
with_more bytes byte None = refl
with_more bytes byte (Some more) = ap Some (append_assoc bytes (byte ∷ []) more)

-- a pair more
pub pair_more : (bytes : List ℕ) (byte : ℕ) (new text rest : List ℕ) (whole : Option (List ℕ)) → new ≡ bytes ++ byte ∷ [] → first_in text ≡ Some (Some byte, rest)
    → option_map (λ more. bytes ++ more) (bytes_in text) ≡ whole → option_map (λ more. new ++ more) (bytes_in rest) ≡ whole
pair_more bytes byte new text rest whole is first before =
    rw is (with_more bytes byte (bytes_in rest) ∙ ap (option_map (λ (more : List ℕ). bytes ++ more)) (sym (first_goes text (Some byte) rest first)) ∙ before)

-- a blank more
pub blank_more : (bytes text rest : List ℕ) (whole : Option (List ℕ)) → first_in text ≡ Some (None, rest)
    → option_map (λ more. bytes ++ more) (bytes_in text) ≡ whole → option_map (λ more. bytes ++ more) (bytes_in rest) ≡ whole
blank_more bytes text rest whole first before = ap (option_map (λ (more : List ℕ). bytes ++ more)) (sym (first_goes text None rest first)) ∙ before

-- the rest is not of the form
pub fails_here : (bytes text : List ℕ) (whole : Option (List ℕ)) → first_in text ≡ None → 0 < length text
    → option_map (λ more. bytes ++ more) (bytes_in text) ≡ whole → None ≡ whole
fails_here bytes text whole first some before = ap (option_map (λ (more : List ℕ). bytes ++ more)) (sym (first_fails text first some)) ∙ before

-- nothing is left
pub ends_here : (bytes text : List ℕ) (whole : Option (List ℕ)) → length text ≡ 0
    → option_map (λ more. bytes ++ more) (bytes_in text) ≡ whole → Some bytes ≡ whole
unfolding bytes_in
ends_here bytes [] whole is before = ap Some (sym (append-nil bytes)) ∙ before
ends_here bytes (x ∷ xs) whole is before = absurd (omega arith)

same : (o : Option (List ℕ)) → option_map (λ (more : List ℕ). [] ++ more) o ≡ o
same None = refl
same (Some bytes) = refl

pub begins_here : (text : List ℕ) → option_map (λ (more : List ℕ). [] ++ more) (bytes_in text) ≡ bytes_in text
begins_here text = same (bytes_in text)

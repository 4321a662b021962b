-- Where texts stand in a list of texts.
use Rattle.std.proofs.Common.{◌≡◌, ◌≢◌, ◌∙◌, ◌<◌, ◌+◌, ◌⊎◌, ℕ, Bool, true, false, Decides, Global, String, List, [], ◌∷◌, ◌++◌, Some, MatchBool, ap, arith, get_or, inl, inr, length, map, refl, string_bytes, subst, sym}
use Rattle.std.specs.Prelude.{slice_get}
use Rattle.std.specs.BTreeMap.{BTreeMap, get_by_text}
use Rattle.std.specs.Option.{option_map}
use Rattle.std.specs.Str.{bytes_eq}
use Rattle.std.proofs.Math.Seq.{get_or-append_seam}
use Rattle.std.proofs.lemmas.List.{get_or_append_left, length-append, length-map, map-append}
use Rattle.std.proofs.lemmas.Option.{slice_get-get_or, slice_get-map}
use Rattle.std.proofs.lemmas.Slice.Eq.{bytes_eq-Decides}
use Rattle.show_decision.specs.Numbered.{AreApart, AreFound, IsNumbered, text_at}

abbrev bytes_of : String Global → List ℕ
bytes_of text = string_bytes text

is_so : (b : Bool) (P : Type 0) → Decides b P → MatchBool b P (P → ⊥)
is_so true P decides = decides.0 refl
is_so false P decides = λ so. let bad : false ≡ true = decides.1 so in cc

-- the text of that number, as bytes
at_number : (texts : List (String Global)) (k : ℕ) (known : String Global) → k < length texts → known ≡ get_or texts k known → slice_get (map bytes_of texts) k ≡ Some (string_bytes known)
at_number texts k known below is =
    slice_get-map bytes_of texts k ∙ ap (option_map bytes_of) (slice_get-get_or texts k known below) ∙ ap (λ (text : String Global). Some (string_bytes text)) (sym is)

-- whether that text has the number
pub text_is_at : (texts : List (String Global)) (k : ℕ) (known : String Global) (text : List ℕ) (b : Bool) → k < length texts → known ≡ get_or texts k known → b ≡ bytes_eq (string_bytes known) text
    → MatchBool b (slice_get (map bytes_of texts) k ≡ Some text) (slice_get (map bytes_of texts) k ≡ Some text → ⊥)
text_is_at texts k known text b below is test =
    subst (λ (now : Bool). MatchBool now (slice_get (map bytes_of texts) k ≡ Some text) (slice_get (map bytes_of texts) k ≡ Some text → ⊥)) (sym test)
    (is_so (bytes_eq (string_bytes known) text) (slice_get (map bytes_of texts) k ≡ Some text) (
      (λ yes. at_number texts k known below is ∙ ap Some ((bytes_eq-Decides (string_bytes known) text).0 yes)),
      (λ same. (bytes_eq-Decides (string_bytes known) text).1 (let there : Some (string_bytes known) ≡ Some text = sym (at_number texts k known below is) ∙ same in cc)),
    ))

at_end : (texts : List (List ℕ)) (text : List ℕ) → slice_get (texts ++ text ∷ []) (length texts) ≡ Some text
at_end [] text = refl
at_end (first ∷ texts) text = at_end texts text

-- the texts with one more after them, as bytes
pub texts_more : (texts new : List (String Global)) (added text : String Global) → new ≡ texts ++ added ∷ [] → string_bytes added ≡ string_bytes text → map bytes_of new ≡ map bytes_of texts ++ string_bytes text ∷ []
texts_more texts new added text pushed same = ap (map bytes_of) pushed ∙ map-append bytes_of texts (added ∷ []) ∙ ap (λ (t : List ℕ). map bytes_of texts ++ t ∷ []) same

-- a text that comes after all others
pub numbered_last : (texts new : List (String Global)) (added text : String Global) (number : ℕ) → new ≡ texts ++ added ∷ [] → string_bytes added ≡ string_bytes text → number ≡ length texts
    → IsNumbered (map bytes_of texts) (string_bytes text) (map bytes_of new) number
numbered_last texts new added text number pushed same is =
    let new_is = texts_more texts new added text pushed same in
    record {
      more = string_bytes text ∷ [];
      same = new_is;
      is = subst (λ (now : List (List ℕ)). slice_get now number ≡ Some (string_bytes text)) (sym new_is)
          (subst (λ (k : ℕ). slice_get (map bytes_of texts ++ string_bytes text ∷ []) k ≡ Some (string_bytes text)) (sym (is ∙ sym (length-map texts bytes_of)))
          (at_end (map bytes_of texts) (string_bytes text)));
    }

before_or_last : (k count : ℕ) → k < count + 1 → (k < count) ⊎ (k ≡ count)
before_or_last k count below = grind arith

-- a text that comes after all others, and is none of them, is found under its number
pub found_more : (places new_places : BTreeMap (String Global) ℕ) (texts new : List (List ℕ)) (text : List ℕ) (number : ℕ) → AreFound places texts → ((k : ℕ) → k < length texts → text_at texts k ≢ text)
    → new ≡ texts ++ text ∷ [] → number ≡ length texts → get_by_text new_places text ≡ Some number → ((other : List ℕ) → other ≢ text → get_by_text new_places other ≡ get_by_text places other)
    → AreFound new_places new
found_more places new_places texts new text number found apart new_is number_is here others =
    subst (AreFound new_places) (sym new_is) (λ k below. elim (before_or_last k (length texts) (omega (arith, below, length-append texts (text ∷ [])))) [
      | inl before ↦
          let same : text_at (texts ++ text ∷ []) k ≡ text_at texts k = get_or_append_left texts (text ∷ []) [] k before in
          ap (get_by_text new_places) same ∙ others (text_at texts k) (apart k before) ∙ found k before
      | inr last ↦
          let same : text_at (texts ++ text ∷ []) k ≡ text = ap (text_at (texts ++ text ∷ [])) last ∙ get_or-append_seam texts text [] [] in
          ap (get_by_text new_places) same ∙ here ∙ ap Some (number_is ∙ sym last)
    ])

-- texts that are found under their numbers are there once
pub found_once : (places : BTreeMap (String Global) ℕ) (texts : List (List ℕ)) → AreFound places texts → AreApart texts
found_once places texts found = λ one other below fits same.
    let so : Some one ≡ Some other = sym (found one below) ∙ ap (get_by_text places) same ∙ found other fits in
    cc

-- a text that has a number at all has the one that is found
pub at_found : (texts : List (List ℕ)) (text : List ℕ) (number place : ℕ) → number < length texts → text_at texts number ≡ text → place ≡ number → slice_get texts place ≡ Some text
at_found texts text number place below is found = subst (λ (k : ℕ). slice_get texts k ≡ Some text) (sym found) (slice_get-get_or texts number [] below ∙ ap Some is)

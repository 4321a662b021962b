-- Whether bytes that come piece by piece begin with a text.
use Rattle.std.proofs.Common.{◌≡◌, ◌∙◌, ◌≤◌, ◌<◌, ◌≢◌, ◌==◌, ℕ, Option, Some, None, Ok, Bool, true, false, List, [], ◌∷◌, ◌++◌, length, take, drop, inl, inr, ◌⊎◌, refl, sym, ap, subst, append_assoc, append-nil, arith}
use Rattle.std.specs.Prelude.{IfSome, MatchOption}
use Rattle.std.specs.Borrow.{Bor}
use Rattle.std.specs.Io.KnownBytes.{Consumes, IsAtEnd}
use Rattle.std.proofs.lemmas.Bool.{eqb-true}
use Rattle.std.proofs.lemmas.List.{take-append-drop, take-append-le}
use Rattle.std.proofs.Math.Seq.{take-append_seam}
use Rattle.host_journal.specs.Linked.{BeginsSo, IsMatched, IsOther, LeftAfter}
use Rattle.host_journal.specs.Texts.{Says, Tells}

-- a text that begins with another one has it at its front
front_at : (front text : List ℕ) → BeginsSo front text → take (length front) text ≡ front
front_at front text begins = ap (take (length front)) begins.1 ∙ take-append_seam front begins.0

pub not_in_front : (text front start rest : List ℕ) → start ≡ take (length front) text → start ≢ front → BeginsSo front text → ⊥
not_in_front text front start rest is other begins = other (is ∙ front_at front text begins)

pub in_front : (text front start rest : List ℕ) → start ≡ take (length front) text → rest ≡ drop (length front) text → start ≡ front → text ≡ front ++ rest
in_front text front start rest is left same =
    sym (take-append-drop (length front) text) ∙ (ap (λ (t : List ℕ). t ++ drop (length front) text) (sym is ∙ same) ∙ ap (λ (t : List ℕ). front ++ t) (sym left))

-- a piece that is no longer than the text, and not its front
pub other_short : (left piece : List ℕ) → length piece ≤ length left → (BeginsSo piece left → ⊥) → IsOther left piece
other_short left piece few other = λ more begins.
    let cut : take (length piece) left ≡ piece = sym (take-append-le (length piece) left begins.0 few) ∙ (ap (take (length piece)) (sym begins.1) ∙ take-append_seam piece more) in
    other (drop (length piece) left, sym (take-append-drop (length piece) left) ∙ ap (λ (t : List ℕ). t ++ drop (length piece) left) cut)

-- a longer one, of which the text is no front
pub other_long : (left piece : List ℕ) → length left ≤ length piece → (BeginsSo left piece → ⊥) → IsOther left piece
other_long left piece few other = λ more begins.
    let cut : take (length left) piece ≡ left = sym (take-append-le (length left) piece more few) ∙ (ap (take (length left)) begins.1 ∙ take-append_seam left begins.0) in
    other (drop (length left) piece, sym (take-append-drop (length left) piece) ∙ ap (λ (t : List ℕ). t ++ drop (length left) piece) cut)

-- ---- piece by piece

pub matched_first : (from : Option (List ℕ)) (front : List ℕ) → IsMatched from from front front
matched_first None front = record { taken = []; front_is = refl; more = []; ends = inr refl; came = tt }
matched_first (Some all) front = record { taken = []; front_is = refl; more = []; ends = inr refl; came = (all, refl, refl) }

cancel : (front xs ys : List ℕ) → front ++ xs ≡ front ++ ys → xs ≡ ys
cancel [] xs ys same = same
cancel (x ∷ front) xs ys same = let less : front ++ xs ≡ front ++ ys = cc in cancel front xs ys less

nothing_left : (left rest : List ℕ) → left ++ rest ≡ [] → left ≡ []
nothing_left [] rest none = refl
nothing_left (x ∷ left) rest none = absurd (let bad : x ∷ (left ++ rest) ≡ [] = none in cc)

none_more : (left more : List ℕ) → left ≢ [] → left ≡ [] ⊎ more ≡ [] → more ≡ []
none_more left more some ends = elim ends [ inl none ↦ absurd (some none) | inr none ↦ none ]

-- what comes after what was read begins with what is left, if all begins with the text
goes_on : (all front left : List ℕ) (now : Option (List ℕ)) → left ≢ [] → (it : IsMatched (Some all) now front left) → (begins : BeginsSo front all) → it.came.0 ≡ left ++ begins.0
goes_on all front left now some it begins =
    let none = none_more left it.more some it.ends in
    let whole : it.taken ++ (it.more ++ it.came.0) ≡ it.taken ++ (left ++ begins.0) = sym it.came.2 ∙ (begins.1 ∙ (ap (λ (f : List ℕ). f ++ begins.0) it.front_is ∙ append_assoc it.taken left begins.0)) in
    ap (λ (m : List ℕ). m ++ it.came.0) (sym none) ∙ cancel it.taken (it.more ++ it.came.0) (left ++ begins.0) whole

consumed : (rest : List ℕ) (now : Option (List ℕ)) (piece : List ℕ) → Consumes (Some rest) now piece → (later : List ℕ) × (now ≡ Some later) × (rest ≡ piece ++ later)
consumed rest None piece given = absurd given
consumed rest (Some later) piece given = (later, refl, given)

at_end_none : (now : Option (List ℕ)) (later : List ℕ) → now ≡ Some later → IsAtEnd now → later ≡ []
at_end_none None later is at_end = absurd (let bad = is in cc)
at_end_none (Some it) later is at_end = let same : it ≡ later = cc in sym same ∙ at_end

-- the end came too soon
pub matched_none : (E : Type 0) (from between now : Option (List ℕ)) (front left : List ℕ) → left ≢ [] → IsMatched from between front left → Consumes between now [] → IsAtEnd now → Says {E = E} (BeginsSo front) from (Ok false)
matched_none E None between now front left some it given at_end = tt
matched_none E (Some all) between now front left some it given at_end = λ begins.
    let later = consumed it.came.0 now [] (subst (λ (b : Option (List ℕ)). Consumes b now []) it.came.1 given) in
    some (nothing_left left begins.0 (sym (goes_on all front left between some it begins) ∙ (later.2 ∙ at_end_none now later.0 later.1 at_end)))

pub matched_other : (E : Type 0) (from between now : Option (List ℕ)) (front left piece : List ℕ) → left ≢ [] → IsMatched from between front left → Consumes between now piece → IsOther left piece → Says {E = E} (BeginsSo front) from (Ok false)
matched_other E None between now front left piece some it given other = tt
matched_other E (Some all) between now front left piece some it given other = λ begins.
    let later = consumed it.came.0 now piece (subst (λ (b : Option (List ℕ)). Consumes b now piece) it.came.1 given) in
    other later.0 (begins.0, sym later.2 ∙ goes_on all front left between some it begins)

pub matched_more : (from between now : Option (List ℕ)) (front left piece rest : List ℕ) → left ≢ [] → IsMatched from between front left → Consumes between now piece → LeftAfter left piece rest → IsMatched from now front rest
matched_more None between now front left piece rest some it given after = elim after [
  | inl a ↦ record { taken = it.taken ++ piece; front_is = it.front_is ∙ (ap (λ (l : List ℕ). it.taken ++ l) a ∙ sym (append_assoc it.taken piece rest)); more = []; ends = inr refl; came = tt }
  | inr a ↦ record { taken = it.taken ++ left; front_is = it.front_is ∙ (sym (append-nil (it.taken ++ left)) ∙ ap (λ (r : List ℕ). (it.taken ++ left) ++ r) (sym a.0)); more = []; ends = inr refl; came = tt }
]
matched_more (Some all) between now front left piece rest some it given after =
    let later = consumed it.came.0 now piece (subst (λ (b : Option (List ℕ)). Consumes b now piece) it.came.1 given) in
    let none = none_more left it.more some it.ends in
    let whole : all ≡ it.taken ++ (piece ++ later.0) = it.came.2 ∙ (ap (λ (m : List ℕ). it.taken ++ (m ++ it.came.0)) none ∙ ap (λ (r : List ℕ). it.taken ++ r) later.2) in
    elim after [
      | inl a ↦ record {
        taken = it.taken ++ piece;
        front_is = it.front_is ∙ (ap (λ (l : List ℕ). it.taken ++ l) a ∙ sym (append_assoc it.taken piece rest));
        more = [];
        ends = inr refl;
        came = (later.0, later.1, whole ∙ sym (append_assoc it.taken piece later.0));
      }
      | inr a ↦ record {
        taken = it.taken ++ left;
        front_is = it.front_is ∙ (sym (append-nil (it.taken ++ left)) ∙ ap (λ (r : List ℕ). (it.taken ++ left) ++ r) (sym a.0));
        more = a.1.0;
        ends = inl a.0;
        came = (later.0, later.1, whole ∙ (ap (λ (p : List ℕ). it.taken ++ (p ++ later.0)) a.1.1 ∙ (ap (λ (t : List ℕ). it.taken ++ t) (append_assoc left a.1.0 later.0) ∙ sym (append_assoc it.taken left (a.1.0 ++ later.0)))));
      }
    ]

pub matched_all : (E : Type 0) (from now : Option (List ℕ)) (front left : List ℕ) → left ≡ [] → IsMatched from now front left → Says {E = E} (BeginsSo front) from (Ok true)
matched_all E None now front left none it = tt
matched_all E (Some all) now front left none it =
    (it.more ++ it.came.0, it.came.2 ∙ ap (λ (f : List ℕ). f ++ (it.more ++ it.came.0)) (sym (it.front_is ∙ (ap (λ (l : List ℕ). it.taken ++ l) none ∙ append-nil it.taken))))

pub nonempty : (left : List ℕ) → false ≡ (length left == 0) → left ≢ []
nonempty left is = λ none. let bad : false ≡ true = is ∙ ap (λ (l : List ℕ). length l == 0) none in cc

zero_by : (n : ℕ) → true ≡ (n == 0) → n ≡ 0
zero_by n is = eqb-true n 0 (sym is)

pub is_empty : (left : List ℕ) → true ≡ (length left == 0) → left ≡ []
is_empty [] is = refl
is_empty (x ∷ left) is = absurd (let bad : true ≡ (length (x ∷ left) == 0) = is in omega (arith, zero_by (length (x ∷ left)) bad))

-- what is left after a piece that is no longer than the text
pub short_after : (left piece : List ℕ) (result : Option (Bor (List ℕ))) → length piece ≤ length left → MatchOption result (BeginsSo piece left → ⊥) (λ rest. left ≡ piece ++ rest.now) → MatchOption result (IsOther left piece) (λ rest. LeftAfter left piece rest.now)
short_after left piece None few other = other_short left piece few other
short_after left piece (Some rest) few is = inl is

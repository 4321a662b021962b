-- A text is cut at its first line feed, and a line at its ` = `, in one way.
use Rattle.std.proofs.Common.{◌≡◌, ◌≢◌, ◌<◌, ◌==◌, ℕ, zero, suc, Bool, true, false, Some, None, List, [], ◌∷◌, ◌++◌, length, get_or, refl, sym, ap, ◌∙◌, arith, codes, not, Bor, lit<}
use Rattle.std.specs.List.{list_all}
use Rattle.std.proofs.lemmas.Bool.Decides.{nat_tests}
use Rattle.std.proofs.lemmas.List.Folds.{list_all-append}
use Rattle.std.proofs.lemmas.Str.Pattern.{IsSplitOnceResult, split_after, split_parts}
use Rattle.trace_lines.proofs.Plain.{is_plain, ArePlain}
use Rattle.trace_lines.proofs.Tests.{both}

-- ---- the first line feed

-- no line feed, which is 10
abbrev pub is_in_line : ℕ → Bool
is_in_line byte = not (byte == 10)

abbrev pub IsOneLine : List ℕ → Type 0
IsOneLine text = list_all is_in_line text ≡ true

pub line_of_plain : (text : List ℕ) → ArePlain text → IsOneLine text
line_of_plain [] h = refl
line_of_plain (b ∷ text) h =
    let parts = both (is_plain b) (list_all is_plain text) h in
    rw ((both (is_in_line b) (not (b == 61)) parts.0).0, line_of_plain text parts.1) refl

pub line_both : (xs ys : List ℕ) → IsOneLine xs → IsOneLine ys → IsOneLine (xs ++ ys)
line_both xs ys p q = list_all-append is_in_line xs ys ∙ rw (p, q) refl

no_feed : (b : ℕ) → is_in_line b ≡ true → b ≢ 10
no_feed b h = λ is. absurd (grind (arith, nat_tests))

has_none : (text : List ℕ) → IsOneLine text → (i : ℕ) → i < length text → get_or text i 0 ≢ 10
has_none [] h i within = absurd (omega arith)
has_none (b ∷ text) h zero within = no_feed b (both (is_in_line b) (list_all is_in_line text) h).0
has_none (b ∷ text) h (suc i) within = has_none text (both (is_in_line b) (list_all is_in_line text) h).1 i (omega arith)

-- the text is this line and this rest, and no other line is in front
pub record IsFirstLine (text line rest : List ℕ) : Type 0 where
  pub whole : text ≡ line ++ 10 ∷ rest
  pub once : (xs ys : List ℕ) → IsOneLine xs → text ≡ xs ++ 10 ∷ ys → (line ≡ xs) × (rest ≡ ys)

module _ (p : ℕ → Bool) (f : ℕ) (bad : p f ≡ false) where
  apart_from : (y : ℕ) (b : List ℕ) → list_all p (y ∷ b) ≡ true → f ≡ y → ⊥
  apart_from y b h same = let clash : true ≡ false = sym (both (p y) (list_all p b) h).0 ∙ ap p (sym same) ∙ bad in absurd cc

  cut_once : (a b r s : List ℕ) → list_all p a ≡ true → list_all p b ≡ true → a ++ f ∷ r ≡ b ++ f ∷ s → (a ≡ b) × (r ≡ s)
  cut_once [] [] r s g h e = (refl, cc)
  cut_once [] (y ∷ b) r s g h e = let head : f ≡ y = cc in absurd (apart_from y b h head)
  cut_once (x ∷ a) [] r s g h e = let head : f ≡ x = cc in absurd (apart_from x a g head)
  cut_once (x ∷ a) (y ∷ b) r s g h e =
      let heads : x ≡ y = cc in
      let tails : a ++ f ∷ r ≡ b ++ f ∷ s = cc in
      let more = cut_once a b r s (both (p x) (list_all p a) g).1 (both (p y) (list_all p b) h).1 tails in
      (cc (heads, more.0), more.1)

-- one line in front is the first
pub first_of : (text line rest : List ℕ) → IsOneLine line → text ≡ line ++ 10 ∷ rest → IsFirstLine text line rest
first_of text line rest one is = record { whole = is; once = λ xs ys other same. cut_once is_in_line 10 refl line xs rest ys one other (sym is ∙ same) }

-- no line is in front
abbrev pub HasNoFeed : List ℕ → Type 0
HasNoFeed text = (xs ys : List ℕ) → IsOneLine xs → text ≢ xs ++ 10 ∷ ys

pub first_line : (text : List ℕ) (line rest : Bor (List ℕ)) → IsSplitOnceResult 10 text (Some (line, rest)) → IsFirstLine text line.now rest.now
first_line text line rest cut = record {
  whole = (split_parts 10 text (Some (line, rest)) cut (lit< tt)).0;
  once = λ xs ys one is. split_after 10 text xs ys (Some (line, rest)) cut (lit< tt) is (has_none xs one);
}

pub no_first_line : (text : List ℕ) → IsSplitOnceResult 10 text None → HasNoFeed text
no_first_line text cut = λ xs ys one is. split_after 10 text xs ys None cut (lit< tt) is (has_none xs one)

-- ---- what is asked and what is told

-- a mark that stands between two others, of which only it fails the test
module _ (p : ℕ → Bool) (t s : ℕ) (good : p t ≡ true) (bad : p s ≡ false) where
  apart : t ≡ s → ⊥
  apart same = let clash : true ≡ false = sym good ∙ ap p same ∙ bad in absurd cc

  mark_inside : (c d : List ℕ) → list_all p (c ++ t ∷ s ∷ t ∷ d) ≡ true → ⊥
  mark_inside [] d h =
      let one = both (p t) (list_all p (s ∷ t ∷ d)) h in
      let two = both (p s) (list_all p (t ∷ d)) one.1 in
      let clash : true ≡ false = sym two.0 ∙ bad in
      absurd cc
  mark_inside (y ∷ c) d h = mark_inside c d (both (p y) (list_all p (c ++ t ∷ s ∷ t ∷ d)) h).1

  no_second : (c b d : List ℕ) → list_all p b ≡ true → s ∷ t ∷ b ≡ c ++ t ∷ s ∷ t ∷ d → ⊥
  no_second [] b d plain e = let head : s ≡ t = cc in apart (sym head)
  no_second (y ∷ c) b d plain e =
      let tails : t ∷ b ≡ c ++ t ∷ s ∷ t ∷ d = cc in
      let all : list_all p (t ∷ b) ≡ true = rw (good, plain) refl in
      mark_inside c d (ap (list_all p) (sym tails) ∙ all)

  no_first : (a b d : List ℕ) → list_all p a ≡ true → a ++ t ∷ s ∷ t ∷ b ≡ s ∷ t ∷ d → ⊥
  no_first [] b d plain e = let head : t ≡ s = cc in apart head
  no_first (x ∷ a) b d plain e =
      let head : x ≡ s = cc in
      let clash : true ≡ false = sym (both (p x) (list_all p a) plain).0 ∙ ap p head ∙ bad in
      absurd cc

  pub mark_once : (a c b d : List ℕ) → list_all p a ≡ true → list_all p b ≡ true → a ++ t ∷ s ∷ t ∷ b ≡ c ++ t ∷ s ∷ t ∷ d → (c ≡ a) × (d ≡ b)
  mark_once [] [] b d q r e = (refl, cc)
  mark_once [] (y ∷ c) b d q r e = let tails : s ∷ t ∷ b ≡ c ++ t ∷ s ∷ t ∷ d = cc in absurd (no_second c b d r tails)
  mark_once (x ∷ a) [] b d q r e = let tails : a ++ t ∷ s ∷ t ∷ b ≡ s ∷ t ∷ d = cc in absurd (no_first a b d (both (p x) (list_all p a) q).1 tails)
  mark_once (x ∷ a) (y ∷ c) b d q r e =
      let heads : x ≡ y = cc in
      let tails : a ++ t ∷ s ∷ t ∷ b ≡ c ++ t ∷ s ∷ t ∷ d = cc in
      let more = mark_once a c b d (both (p x) (list_all p a) q).1 r tails in
      (cc (heads, more.0), more.1)

-- the line is what is asked and what is told, and no other plain texts are
pub record IsAskedAndTold (line asked told : List ℕ) : Type 0 where
  pub whole : line ≡ asked ++ (codes " = " ++ told)
  pub once : (xs ys : List ℕ) → ArePlain xs → ArePlain ys → line ≡ xs ++ (codes " = " ++ ys) → (asked ≡ xs) × (told ≡ ys)

pub asked_and_told : (line asked told : List ℕ) → line ≡ asked ++ (codes " = " ++ told) → IsAskedAndTold line asked told
asked_and_told line asked told is = record {
  whole = is;
  once = λ xs ys p q other. mark_once is_plain 32 61 refl refl xs asked ys told p q (sym other ∙ is);
}

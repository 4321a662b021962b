-- How many of a list's values pass a test, one by one, and which of them comes after so many.
use Rattle.std.proofs.Common.{◌≡◌, ◌∙◌, ℕ, ◌+◌, ◌<◌, suc, Bool, true, false, cond, List, ◌∷◌, Some, get_or, length, take, refl, ap, sym, arith}
use Rattle.std.specs.Prelude.{filter, slice_get}
use Rattle.std.proofs.lemmas.List.Filters.{length-filter_more}

module _ {X : Type 0} (p : X → Bool) where
  more : (xs : List X) (place : ℕ) (x : X) → place < length xs → x ≡ get_or xs place x
      → length (filter p (take (place + 1) xs)) ≡ length (filter p (take place xs)) + cond (p x) 1 0
  more xs place x within is = length-filter_more p xs place x within ∙ ap (λ (y : X). length (filter p (take place xs)) + cond (p y) 1 0) (sym is)

  pub one_more : (xs : List X) (place : ℕ) (x : X) → place < length xs → x ≡ get_or xs place x → p x ≡ true
      → length (filter p (take (place + 1) xs)) ≡ length (filter p (take place xs)) + 1
  one_more xs place x within is holds = more xs place x within is ∙ ap (λ (b : Bool). length (filter p (take place xs)) + cond b 1 0) holds

  pub no_more : (xs : List X) (place : ℕ) (x : X) → place < length xs → x ≡ get_or xs place x → p x ≡ false
      → length (filter p (take (place + 1) xs)) ≡ length (filter p (take place xs))
  no_more xs place x within is fails =
      let same = more xs place x within is ∙ ap (λ (b : Bool). length (filter p (take place xs)) + cond b 1 0) fails in
      omega (arith, same)

  -- the one that comes after so many
  pub comes_first : (x : X) (rest : List X) → p x ≡ true → slice_get (filter p (x ∷ rest)) 0 ≡ Some x
  comes_first x rest holds = rw holds refl

  pub comes_later : (x : X) (rest : List X) (left : ℕ) → p x ≡ true → slice_get (filter p (x ∷ rest)) (left + 1) ≡ slice_get (filter p rest) left
  comes_later x rest left holds =
      let on : left + 1 ≡ suc left = omega arith in
      ap (λ (n : ℕ). slice_get (filter p (x ∷ rest)) n) on ∙ rw holds refl

  pub passes_by : (x : X) (rest : List X) (left : ℕ) → p x ≡ false → slice_get (filter p (x ∷ rest)) left ≡ slice_get (filter p rest) left
  passes_by x rest left fails = rw fails refl

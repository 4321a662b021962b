-- How many of a list's values pass a test, one by one.
use Rattle.std.proofs.Common.{◌≡◌, ◌∙◌, ℕ, ◌+◌, ◌<◌, Bool, true, false, cond, List, get_or, length, take, ap, sym, arith}
use Rattle.std.specs.Prelude.{filter}
use Rattle.std.proofs.lemmas.List.Filters.{length-filter_more}

module _ {X : Type 0} (p : X → Bool) where
  more : (xs : List X) (place : ℕ) (x : X) → place < length xs → x ≡ get_or xs place x
      → length (filter p (take (place + 1) xs)) ≡ length (filter p (take place xs)) + cond (p x) 1 0
  more xs place x within is = length-filter_more p xs place x within ∙ ap (λ (y : X). length (filter p (take place xs)) + cond (p y) 1 0) (sym is)

  pub one_more : (xs : List X) (place : ℕ) (x : X) → place < length xs → x ≡ get_or xs place x → p x ≡ true
      → length (filter p (take (place + 1) xs)) ≡ length (filter p (take place xs)) + 1
  one_more xs place x within is holds = more xs place x within is ∙ ap (λ (b : Bool). length (filter p (take place xs)) + cond b 1 0) holds

  pub no_more : (xs : List X) (place : ℕ) (x : X) → place < length xs → x ≡ get_or xs place x → p x ≡ false
      → length (filter p (take (place + 1) xs)) ≡ length (filter p (take place xs))
  no_more xs place x within is fails =
      let same = more xs place x within is ∙ ap (λ (b : Bool). length (filter p (take place xs)) + cond b 1 0) fails in
      omega (arith, same)

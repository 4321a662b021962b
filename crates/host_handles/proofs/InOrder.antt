-- Lists in the order of their numbers: one is taken out, or is not there.
use Rattle.std.proofs.Common.{◌≡◌, ℕ, ◌+◌, ◌<◌, ◌≤◌, ◌⊎◌, inl, inr, List, get_or, length, arith}
use Rattle.std.specs.Prelude.{◌≢◌}
use Rattle.std.specs.List.{AllWithin, remove}
use Rattle.std.specs.List.Sorted.{IsNonDecreasingBy}
use Rattle.std.proofs.lemmas.Bool.{cases_lt}
use Rattle.std.proofs.lemmas.List.Edits.{get_or-remove_above, get_or-remove_below, length-remove}

module _ {X : Type 0} (n : X → ℕ) (xs : List X) (place : ℕ) where
  stays_sorted : place < length xs → IsNonDecreasingBy n xs → (i j : ℕ) (d : X) → i ≤ j → j + 1 < length xs → (i < place) ⊎ (place ≤ i) → (j < place) ⊎ (place ≤ j) → n (get_or (remove xs place) i d) ≤ n (get_or (remove xs place) j d)
  stays_sorted within sorted i j d le inside (inl low) (inl lower) =
      rw (get_or-remove_below xs place d i low within, get_or-remove_below xs place d j lower within) (sorted i j d le (omega arith))
  stays_sorted within sorted i j d le inside (inl low) (inr high) =
      rw (get_or-remove_below xs place d i low within, get_or-remove_above xs place d j high within) (sorted i (j + 1) d (omega arith) inside)
  stays_sorted within sorted i j d le inside (inr high) (inl lower) = absurd (omega arith)
  stays_sorted within sorted i j d le inside (inr high) (inr higher) =
      rw (get_or-remove_above xs place d i high within, get_or-remove_above xs place d j higher within) (sorted (i + 1) (j + 1) d (omega arith) inside)

  pub removed_sorted : place < length xs → IsNonDecreasingBy n xs → IsNonDecreasingBy n (remove xs place)
  removed_sorted within sorted i j d le inside =
      stays_sorted within sorted i j d le (omega (arith, length-remove xs place within, inside)) (cases_lt i place) (cases_lt j place)

  -- none has the number, where all before a place have lower ones and the others none that is lower, and what stands there has another
  module _ (number : ℕ) (lower : AllWithin (λ it. n it < number) xs 0 place) (others : AllWithin (λ it. number ≤ n it) xs place (length xs)) (sorted : IsNonDecreasingBy n xs) (other : (d : X) → place < length xs → n (get_or xs place d) ≢ number) where
    none_at : (i : ℕ) (d : X) → i < length xs → (i < place) ⊎ (place ≤ i) → n (get_or xs i d) ≢ number
    none_at i d within (inl low) same = omega (arith, lower i d (omega arith) low, same)
    none_at i d within (inr high) same =
        let inside : place < length xs = omega arith in
        let is : n (get_or xs place d) ≡ number = omega (arith, others place d (omega arith) inside, sorted place i d high within, same) in
        other d inside is

    pub none_there : (i : ℕ) (d : X) → i < length xs → n (get_or xs i d) ≢ number
    none_there i d within = none_at i d within (cases_lt i place)

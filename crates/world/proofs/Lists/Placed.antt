-- Lists whose elements bear rising numbers, by place: what stands at a place is what its number finds, so a change by
-- place is one by number.
use Rattle.std.proofs.Common.{◌≡◌, ℕ, zero, suc, ◌<◌, ◌≤◌, List, [], ◌∷◌, map, length, get_or, set, Some, None, refl, ap, sym, ◌∙◌, arith}
use Rattle.std.specs.List.{remove}
use Rattle.ccb.specs.Rising.{AreRising}
use Rattle.world.proofs.Lists.Found.{at, put, leave, at_head, at_tail, put_tail, leave_tail}
use Rattle.world.proofs.Lists.Rising.{rising_high, missing_low, put_here, leave_here}

module _ {A : Type 0} (key : A → ℕ) where
  pub above : (low : ℕ) (xs : List A) (high k : ℕ) (d : A) → k < length xs → AreRising low (map key xs) high → low < key (get_or xs k d)
  above low [] high k d l h = absurd (omega arith)
  above low (x ∷ xs) high zero d l h = h.0
  above low (x ∷ xs) high (suc k) d l h = omega (arith, above (key x) xs high k d (omega arith) h.1, h.0)

  pub below : (low : ℕ) (xs : List A) (high k : ℕ) (d : A) → k < length xs → AreRising low (map key xs) high → key (get_or xs k d) ≤ high
  below low [] high k d l h = absurd (omega arith)
  below low (x ∷ xs) high zero d l h = rising_high (key x) (map key xs) high h.1
  below low (x ∷ xs) high (suc k) d l h = below (key x) xs high k d (omega arith) h.1

  -- numbers do not fall from place to place
  pub rises : (low : ℕ) (xs : List A) (high i j : ℕ) (d : A) → i ≤ j → j < length xs → AreRising low (map key xs) high → key (get_or xs i d) ≤ key (get_or xs j d)
  rises low [] high i j d le l h = absurd (omega arith)
  rises low (x ∷ xs) high zero zero d le l h = omega arith
  rises low (x ∷ xs) high zero (suc j) d le l h = omega (arith, above (key x) xs high j d (omega arith) h.1)
  rises low (x ∷ xs) high (suc i) zero d le l h = absurd (omega arith)
  rises low (x ∷ xs) high (suc i) (suc j) d le l h = rises (key x) xs high i j d (omega arith) (omega arith) h.1

  -- numbers tell places apart
  pub apart : (low : ℕ) (xs : List A) (high i j : ℕ) (d e : A) → i < length xs → j < length xs → (i ≡ j → ⊥) → AreRising low (map key xs) high → key (get_or xs i d) ≡ key (get_or xs j e) → ⊥
  apart low [] high i j d e li lj other h same = absurd (omega arith)
  apart low (x ∷ xs) high zero zero d e li lj other h same = other refl
  apart low (x ∷ xs) high zero (suc j) d e li lj other h same = omega (arith, above (key x) xs high j e (omega arith) h.1, same)
  apart low (x ∷ xs) high (suc i) zero d e li lj other h same = omega (arith, above (key x) xs high i d (omega arith) h.1, same)
  apart low (x ∷ xs) high (suc i) (suc j) d e li lj other h same = apart (key x) xs high i j d e (omega arith) (omega arith) (λ q. other (ap suc q)) h.1 same

  -- what stands at a place is what its number finds
  pub found_at : (low : ℕ) (xs : List A) (high k n : ℕ) (d : A) → k < length xs → AreRising low (map key xs) high → key (get_or xs k d) ≡ n → at key n xs ≡ Some (get_or xs k d)
  found_at low [] high k n d l h e = absurd (omega arith)
  found_at low (x ∷ xs) high zero n d l h e = at_head key n x xs e
  found_at low (x ∷ xs) high (suc k) n d l h e =
      let up = above (key x) xs high k d (omega arith) h.1 in
      at_tail key n x xs (λ same. omega (arith, up, same, e)) ∙ found_at (key x) xs high k n d (omega arith) h.1 e

  -- where all before a place have lower numbers, and those from it on have others that are not lower, none has the number
  pub missing_at : (low : ℕ) (xs : List A) (high k n : ℕ) → AreRising low (map key xs) high → ((j : ℕ) (d : A) → j < k → j < length xs → key (get_or xs j d) < n) → ((j : ℕ) (d : A) → k ≤ j → j < length xs → n ≤ key (get_or xs j d)) → ((d : A) → k < length xs → key (get_or xs k d) ≡ n → ⊥) → at key n xs ≡ None
  missing_at low [] high k n h lower others other = refl
  missing_at low (x ∷ xs) high zero n h lower others other =
      let le : n ≤ key x = others 0 x (omega arith) (omega arith) in
      at_tail key n x xs (other x (omega arith)) ∙ missing_low key (key x) xs high n le h.1
  missing_at low (x ∷ xs) high (suc k) n h lower others other =
      let lt : key x < n = lower 0 x (omega arith) (omega arith) in
      at_tail key n x xs (λ e. omega (arith, lt, e))
      ∙ missing_at (key x) xs high k n h.1 (λ j d l w. lower (suc j) d (omega arith) (omega arith))
      (λ j d l w. others (suc j) d (omega arith) (omega arith)) (λ d w. other d (omega arith))

  -- a change by place is one by number
  pub set_is_put : (low : ℕ) (xs : List A) (high k : ℕ) (c d : A) → k < length xs → AreRising low (map key xs) high → key (get_or xs k d) ≡ key c → set xs k c ≡ put key c xs
  set_is_put low [] high k c d l h e = absurd (omega arith)
  set_is_put low (x ∷ xs) high zero c d l h e =
      sym (put_here key low xs high c x h e)
  set_is_put low (x ∷ xs) high (suc k) c d l h e =
      let up = above (key x) xs high k d (omega arith) h.1 in
      ap (λ (zs : List A). x ∷ zs) (set_is_put (key x) xs high k c d (omega arith) h.1 e)
      ∙ sym (put_tail key c x xs (λ same. omega (arith, up, same, e)))

  -- so is a removal
  pub remove_is_leave : (low : ℕ) (xs : List A) (high k n : ℕ) (d : A) → k < length xs → AreRising low (map key xs) high → key (get_or xs k d) ≡ n → remove xs k ≡ leave key n xs
  remove_is_leave low [] high k n d l h e = absurd (omega arith)
  remove_is_leave low (x ∷ xs) high zero n d l h e =
      sym (leave_here key low xs high n x h e)
  remove_is_leave low (x ∷ xs) high (suc k) n d l h e =
      let up = above (key x) xs high k d (omega arith) h.1 in
      ap (λ (zs : List A). x ∷ zs) (remove_is_leave (key x) xs high k n d (omega arith) h.1 e)
      ∙ sym (leave_tail key n x xs (λ same. omega (arith, up, same, e)))

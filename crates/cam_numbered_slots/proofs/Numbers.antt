-- Numbers that rise, by place: which are lower, which are missing, and what is left without one.
use Rattle.std.proofs.Common.{◌≡◌, ℕ, zero, suc, ◌<◌, ◌≤◌, List, [], ◌∷◌, ◌++◌, map, length, get_or, Contains, refl, ap, arith}
use Rattle.std.specs.List.{remove}
use Rattle.std.proofs.lemmas.List.{get_or-map, length-map}
use Rattle.ccb.specs.Rising.{AreRising}

pub above : (low : ℕ) (ns : List ℕ) (high k d : ℕ) → k < length ns → AreRising low ns high → low < get_or ns k d
above low [] high k d l h = absurd (omega arith)
above low (n ∷ ns) high zero d l h = h.0
above low (n ∷ ns) high (suc k) d l h = omega (arith, above n ns high k d (omega arith) h.1, h.0)

-- a later number is greater
pub rises : (low : ℕ) (ns : List ℕ) (high i j d : ℕ) → i < j → j < length ns → AreRising low ns high → get_or ns i d < get_or ns j d
rises low [] high i j d lt l h = absurd (omega arith)
rises low (n ∷ ns) high i zero d lt l h = absurd (omega arith)
rises low (n ∷ ns) high zero (suc j) d lt l h = above n ns high j d (omega arith) h.1
rises low (n ∷ ns) high (suc i) (suc j) d lt l h = rises n ns high i j d (omega arith) (omega arith) h.1

-- with one more that is greater than all
pub rising_more : (low : ℕ) (ns : List ℕ) (high n : ℕ) → AreRising low ns high → high < n → AreRising low (ns ++ n ∷ []) n
rising_more low [] high n h l = (omega (arith, h), omega arith)
rising_more low (m ∷ ns) high n h l = (h.0, rising_more m ns high n h.1 l)

rising_lower : (low lower : ℕ) (ns : List ℕ) (high : ℕ) → lower ≤ low → AreRising low ns high → AreRising lower ns high
rising_lower low lower [] high le h = omega arith
rising_lower low lower (n ∷ ns) high le h = (omega (arith, h.0), h.1)

pub rising_remove : (low : ℕ) (ns : List ℕ) (high k : ℕ) → k < length ns → AreRising low ns high → AreRising low (remove ns k) high
rising_remove low [] high k l h = absurd (omega arith)
rising_remove low (n ∷ ns) high zero l h = rising_lower n low ns high (omega (arith, h.0)) h.1
rising_remove low (n ∷ ns) high (suc k) l h = (h.0, rising_remove n ns high k (omega arith) h.1)

-- one fewer, seen through a function
pub map_remove : {A B : Type 0} (f : A → B) (xs : List A) (k : ℕ) → k < length xs → map f (remove xs k) ≡ remove (map f xs) k
map_remove f [] k l = absurd (omega arith)
map_remove f (x ∷ xs) zero l = refl
map_remove f (x ∷ xs) (suc k) l = ap (λ ys. f x ∷ ys) (map_remove f xs k (omega arith))

module _ {A : Type 0} (key : A → ℕ) where
  pub key_at : (xs : List A) (k : ℕ) (x : A) (d : ℕ) → k < length xs → get_or (map key xs) k d ≡ key (get_or xs k x)
  key_at xs k x d l = get_or-map key xs k x d l

  -- numbers do not fall from place to place
  pub never_falls : (low : ℕ) (xs : List A) (high i j : ℕ) (d : A) → i ≤ j → j < length xs → AreRising low (map key xs) high → key (get_or xs i d) ≤ key (get_or xs j d)
  never_falls low [] high i j d le l h = absurd (omega arith)
  never_falls low (x ∷ xs) high zero zero d le l h = omega arith
  never_falls low (x ∷ xs) high zero (suc j) d le l h =
      omega (arith, above (key x) (map key xs) high j 0 (omega (arith, length-map xs key)) h.1, key_at xs j d 0 (omega arith))
  never_falls low (x ∷ xs) high (suc i) zero d le l h = absurd (omega arith)
  never_falls low (x ∷ xs) high (suc i) (suc j) d le l h = never_falls (key x) xs high i j d (omega arith) (omega arith) h.1

  -- where all before a place have lower numbers, and those from it on have none that is lower, and the one there has
  -- another, none has the number
  pub missing : (low : ℕ) (xs : List A) (high k n : ℕ) → AreRising low (map key xs) high → ((j : ℕ) (d : A) → j < k → j < length xs → key (get_or xs j d) < n) → ((j : ℕ) (d : A) → k ≤ j → j < length xs → n ≤ key (get_or xs j d)) → ((d : A) → k < length xs → key (get_or xs k d) ≡ n → ⊥) → Contains (map key xs) n → ⊥
  missing low [] high k n h lower others other (i, l, e) = omega (arith, l)
  missing low (x ∷ xs) high zero n h lower others other (zero, l, e) = other x (omega arith) e
  missing low (x ∷ xs) high zero n h lower others other (suc i, l, e) =
      omega (arith, others 0 x (omega arith) (omega arith), above (key x) (map key xs) high i n (omega (arith, l)) h.1, e)
  missing low (x ∷ xs) high (suc k) n h lower others other (zero, l, e) = omega (arith, lower 0 x (omega arith) (omega arith), e)
  missing low (x ∷ xs) high (suc k) n h lower others other (suc i, l, e) =
      missing (key x) xs high k n h.1 (λ j d b w. lower (suc j) d (omega arith) (omega arith))
      (λ j d b w. others (suc j) d (omega arith) (omega arith)) (λ d w. other d (omega arith)) (i, omega (arith, l), e)

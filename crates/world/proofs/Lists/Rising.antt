-- What rising numbers say of a list: numbers tell its elements apart, so a change of one by its number is a change of
-- one alone.
use Rattle.std.proofs.Common.{◌≡◌, ℕ, ◌+◌, ◌<◌, ◌≤◌, List, [], ◌∷◌, ◌++◌, map, Bool, true, false, not, cond, eqb, Some, None, inl, inr, refl, ap, sym, subst, ◌∙◌, arith}
use Rattle.std.specs.List.{find, filter, count_by}
use Rattle.std.proofs.lemmas.Bool.{cases_Bool, cases_eq, cond-true, cond-false, cond_both}
use Rattle.std.proofs.lemmas.List.Sums.{sum_by-cons}
use Rattle.ccb.specs.Rising.{AreRising}
use Rattle.world.proofs.Lists.Found.{at, put, leave, found_key, at_head, at_tail, put_head, put_tail, leave_head, leave_tail, filter_no, missing_filter}

pub rising_lower : (low lower : ℕ) (ns : List ℕ) (high : ℕ) → lower ≤ low → AreRising low ns high → AreRising lower ns high
rising_lower low lower [] high le h = omega arith
rising_lower low lower (n ∷ ns) high le h = (omega (arith, h.0), h.1)

pub rising_high : (low : ℕ) (ns : List ℕ) (high : ℕ) → AreRising low ns high → low ≤ high
rising_high low [] high h = h
rising_high low (n ∷ ns) high h = omega (arith, h.0, rising_high n ns high h.1)

module _ {A : Type 0} (key : A → ℕ) where
  pub rising_push : (low : ℕ) (xs : List A) (high : ℕ) (y : A) → AreRising low (map key xs) high → key y ≡ high + 1 → AreRising low (map key (xs ++ y ∷ [])) (high + 1)
  rising_push low [] high y h e = (omega (arith, h, e), omega (arith, e))
  rising_push low (x ∷ xs) high y h e = (h.0, rising_push (key x) xs high y h.1 e)

  -- some of them
  pub rising_filter : (p : A → Bool) (low : ℕ) (xs : List A) (high : ℕ) → AreRising low (map key xs) high → AreRising low (map key (filter p xs)) high
  rising_filter p low [] high h = h
  rising_filter p low (x ∷ xs) high h =
      let rest = rising_filter p (key x) xs high h.1 in
      cond_both (p x) (x ∷ filter p xs) (filter p xs) (λ ys. AreRising low (map key ys) high)
      (λ _. (h.0, rest)) (λ _. rising_lower (key x) low (map key (filter p xs)) high (omega (arith, h.0)) rest)

  pub rising_leave : (low : ℕ) (xs : List A) (high m : ℕ) → AreRising low (map key xs) high → AreRising low (map key (leave key m xs)) high
  rising_leave low xs high m h = rising_filter (λ (x : A). not (eqb (key x) m)) low xs high h

  pub found_bounds : (low : ℕ) (xs : List A) (high n : ℕ) (x : A) → AreRising low (map key xs) high → at key n xs ≡ Some x → (low < n) × (n ≤ high)
  found_bounds low [] high n x h e = absurd (let bad : None ≡ Some x = e in cc)
  found_bounds low (y ∷ xs) high n x h e =
      elim (cases_eq (key y) n) [
        | inl same ↦ (omega (arith, same, h.0), omega (arith, same, rising_high (key y) (map key xs) high h.1))
        | inr apart ↦
            let rest = found_bounds (key y) xs high n x h.1 (sym (at_tail key n y xs apart) ∙ e) in
            (omega (arith, rest.0, h.0), rest.1)
      ]

  pub missing_low : (low : ℕ) (xs : List A) (high n : ℕ) → n ≤ low → AreRising low (map key xs) high → at key n xs ≡ None
  missing_low low [] high n le h = refl
  missing_low low (y ∷ xs) high n le h =
      at_tail key n y xs (λ e. omega (arith, e, le, h.0)) ∙ missing_low (key y) xs high n (omega (arith, le, h.0)) h.1

  pub missing_high : (low : ℕ) (xs : List A) (high n : ℕ) → high < n → AreRising low (map key xs) high → at key n xs ≡ None
  missing_high low [] high n lt h = refl
  missing_high low (y ∷ xs) high n lt h =
      at_tail key n y xs (λ e. omega (arith, e, lt, rising_high (key y) (map key xs) high h.1)) ∙ missing_high (key y) xs high n lt h.1

  -- nothing is changed where all numbers are above
  pub put_low : (low : ℕ) (xs : List A) (high : ℕ) (c : A) → key c ≤ low → AreRising low (map key xs) high → put key c xs ≡ xs
  put_low low [] high c le h = refl
  put_low low (y ∷ xs) high c le h =
      put_tail key c y xs (λ e. omega (arith, e, le, h.0))
      ∙ ap (λ (zs : List A). y ∷ zs) (put_low (key y) xs high c (omega (arith, le, h.0)) h.1)

  pub leave_low : (low : ℕ) (xs : List A) (high m : ℕ) → m ≤ low → AreRising low (map key xs) high → leave key m xs ≡ xs
  leave_low low [] high m le h = refl
  leave_low low (y ∷ xs) high m le h =
      leave_tail key m y xs (λ e. omega (arith, e, le, h.0))
      ∙ ap (λ (zs : List A). y ∷ zs) (leave_low (key y) xs high m (omega (arith, le, h.0)) h.1)

  -- where the first has the number, it alone is changed or left out
  pub put_here : (low : ℕ) (xs : List A) (high : ℕ) (c y : A) → AreRising low (map key (y ∷ xs)) high → key y ≡ key c → put key c (y ∷ xs) ≡ c ∷ xs
  put_here low xs high c y h same = put_head key c y xs same ∙ ap (λ (zs : List A). c ∷ zs) (put_low (key y) xs high c (omega (arith, same)) h.1)

  pub leave_here : (low : ℕ) (xs : List A) (high m : ℕ) (y : A) → AreRising low (map key (y ∷ xs)) high → key y ≡ m → leave key m (y ∷ xs) ≡ xs
  leave_here low xs high m y h same = leave_head key m y xs same ∙ leave_low (key y) xs high m (omega (arith, same)) h.1

  -- to put an element where it stands changes nothing
  pub put_self : (low : ℕ) (xs : List A) (high : ℕ) (x : A) → AreRising low (map key xs) high → at key (key x) xs ≡ Some x → put key x xs ≡ xs
  put_self low [] high x h e = refl
  put_self low (y ∷ xs) high x h e =
      elim (cases_eq (key y) (key x)) [
        | inl same ↦
            let both : Some y ≡ Some x = sym (at_head key (key x) y xs same) ∙ e in
            let is : x ≡ y = cc in
            put_here low xs high x y h same ∙ ap (λ (z : A). z ∷ xs) is
        | inr apart ↦
            put_tail key x y xs apart
            ∙ ap (λ (zs : List A). y ∷ zs) (put_self (key y) xs high x h.1 (sym (at_tail key (key x) y xs apart) ∙ e))
      ]

  abbrev one : Bool → ℕ
  one b = cond b 1 0

  -- a change of one moves a count by that one alone
  pub count_put : (p : A → Bool) (low : ℕ) (xs : List A) (high : ℕ) (c x : A) → AreRising low (map key xs) high → at key (key c) xs ≡ Some x → count_by p (put key c xs) + cond (p x) 1 0 ≡ count_by p xs + cond (p c) 1 0
  count_put p low [] high c x h e = absurd (let bad : None ≡ Some x = e in cc)
  count_put p low (y ∷ xs) high c x h e =
      let all = sum_by-cons (λ (z : A). cond (p z) 1 0) y xs in
      elim (cases_eq (key y) (key c)) [
        | inl same ↦
            let both : Some y ≡ Some x = sym (at_head key (key c) y xs same) ∙ e in
            let is : y ≡ x = cc in
            let left : count_by p (put key c (y ∷ xs)) ≡ count_by p (c ∷ xs) = ap (count_by p) (put_here low xs high c y h same) in
            let after = sum_by-cons (λ (z : A). cond (p z) 1 0) c xs in
            let one_is : cond {A = ℕ} (p y) 1 0 ≡ cond (p x) 1 0 = ap (λ (z : A). cond {A = ℕ} (p z) 1 0) is in
            omega (arith, all, left, after, one_is)
        | inr apart ↦
            let rest = count_put p (key y) xs high c x h.1 (sym (at_tail key (key c) y xs apart) ∙ e) in
            let left : count_by p (put key c (y ∷ xs)) ≡ count_by p (y ∷ put key c xs) = ap (count_by p) (put_tail key c y xs apart) in
            let after = sum_by-cons (λ (z : A). cond (p z) 1 0) y (put key c xs) in
            omega (arith, all, rest, left, after)
      ]

  -- to leave some out takes at most from a count
  pub count_filter : (p q : A → Bool) (xs : List A) → count_by p (filter q xs) ≤ count_by p xs
  count_filter p q [] = omega arith
  count_filter p q (y ∷ xs) =
      let rest = count_filter p q xs in
      let all = sum_by-cons (λ (z : A). cond (p z) 1 0) y xs in
      let after = sum_by-cons (λ (z : A). cond (p z) 1 0) y (filter q xs) in
      cond_both (q y) (y ∷ filter q xs) (filter q xs) (λ ys. count_by p ys ≤ count_by p (y ∷ xs))
      (λ _. omega (arith, rest, all, after)) (λ _. omega (arith, rest, all))

  pub count_leave : (p : A → Bool) (xs : List A) (m : ℕ) → count_by p (leave key m xs) ≤ count_by p xs
  count_leave p xs m = count_filter p (λ (y : A). not (eqb (key y) m)) xs

  -- one fewer takes itself alone from a count
  pub count_gone : (p : A → Bool) (low : ℕ) (xs : List A) (high n : ℕ) (x : A) → AreRising low (map key xs) high → at key n xs ≡ Some x → count_by p (leave key n xs) + cond (p x) 1 0 ≡ count_by p xs
  count_gone p low [] high n x h e = absurd (let bad : None ≡ Some x = e in cc)
  count_gone p low (y ∷ xs) high n x h e =
      let all = sum_by-cons (λ (z : A). cond (p z) 1 0) y xs in
      elim (cases_eq (key y) n) [
        | inl same ↦
            let both : Some y ≡ Some x = sym (at_head key n y xs same) ∙ e in
            let is : y ≡ x = cc in
            let left : count_by p (leave key n (y ∷ xs)) ≡ count_by p xs = ap (count_by p) (leave_here low xs high n y h same) in
            let one_is : cond {A = ℕ} (p y) 1 0 ≡ cond (p x) 1 0 = ap (λ (z : A). cond {A = ℕ} (p z) 1 0) is in
            omega (arith, all, left, one_is)
        | inr apart ↦
            let rest = count_gone p (key y) xs high n x h.1 (sym (at_tail key n y xs apart) ∙ e) in
            let left : count_by p (leave key n (y ∷ xs)) ≡ count_by p (y ∷ leave key n xs) = ap (count_by p) (leave_tail key n y xs apart) in
            let after = sum_by-cons (λ (z : A). cond (p z) 1 0) y (leave key n xs) in
            omega (arith, all, rest, left, after)
      ]

  -- what is found is counted
  pub found_counts : (p : A → Bool) (n : ℕ) (xs : List A) (x : A) → at key n xs ≡ Some x → cond {A = ℕ} (p x) 1 0 ≤ count_by p xs
  found_counts p n [] x e = absurd (let bad : None ≡ Some x = e in cc)
  found_counts p n (y ∷ xs) x e =
      let all = sum_by-cons (λ (z : A). cond (p z) 1 0) y xs in
      elim (cases_eq (key y) n) [
        | inl same ↦
            let both : Some y ≡ Some x = sym (at_head key n y xs same) ∙ e in
            let is : y ≡ x = cc in
            let one_is : cond {A = ℕ} (p y) 1 0 ≡ cond (p x) 1 0 = ap (λ (z : A). cond {A = ℕ} (p z) 1 0) is in
            omega (arith, all, one_is)
        | inr apart ↦ omega (arith, all, found_counts p n xs x (sym (at_tail key n y xs apart) ∙ e))
      ]

  -- what a search among some of the elements finds is what its number finds
  pub found_among : (test some : A → Bool) (low : ℕ) (xs : List A) (high : ℕ) (x : A) → AreRising low (map key xs) high → find test (filter some xs) ≡ Some x → (at key (key x) xs ≡ Some x) × (some x ≡ true)
  found_among test some low [] high x h e = absurd (let bad : None ≡ Some x = e in cc)
  found_among test some low (y ∷ xs) high x h e =
      let later : find test (filter some xs) ≡ Some x → (at key (key x) (y ∷ xs) ≡ Some x) × (some x ≡ true) = λ l.
      let it = found_among test some (key y) xs high x h.1 l in
      (at_tail key (key x) y xs (λ same. omega (arith, same, (found_bounds (key y) xs high (key x) x h.1 it.0).0)) ∙ it.0, it.1) in
      elim (cases_Bool (some y)) [
        | inl is_one ↦
            let listed : find test (y ∷ filter some xs) ≡ Some x = sym (ap (find test) (cond-true (some y) (y ∷ filter some xs) (filter some xs) is_one)) ∙ e in
            elim (cases_Bool (test y)) [
              | inl passes ↦
                  let both : Some y ≡ Some x = sym (cond-true (test y) (Some y) (find test (filter some xs)) passes) ∙ listed in
                  let is : y ≡ x = cc in
                  (at_head key (key x) y xs (ap key is) ∙ both, subst (λ (z : A). some z ≡ true) is is_one)
              | inr fails ↦ later (sym (cond-false (test y) (Some y) (find test (filter some xs)) fails) ∙ listed)
            ]
        | inr is_none ↦ later (sym (ap (find test) (cond-false (some y) (y ∷ filter some xs) (filter some xs) is_none)) ∙ e)
      ]

  -- what is found among some of the elements is found among all
  pub found_unfiltered : (p : A → Bool) (low : ℕ) (xs : List A) (high n : ℕ) (x : A) → AreRising low (map key xs) high → at key n (filter p xs) ≡ Some x → at key n xs ≡ Some x
  found_unfiltered p low xs high n x h e =
      let named : key x ≡ n = found_key key n (filter p xs) x e in
      subst (λ (k : ℕ). at key k xs ≡ Some x) named (found_among (λ (y : A). eqb (key y) n) p low xs high x h e).0

  -- and what fails is found among some no more
  pub filtered_out : (p : A → Bool) (low : ℕ) (xs : List A) (high n : ℕ) (x : A) → AreRising low (map key xs) high → at key n xs ≡ Some x → p x ≡ false → at key n (filter p xs) ≡ None
  filtered_out p low [] high n x h e fails = refl
  filtered_out p low (y ∷ xs) high n x h e fails =
      elim (cases_eq (key y) n) [
        | inl same ↦
            let both : Some y ≡ Some x = sym (at_head key n y xs same) ∙ e in
            let is_x : y ≡ x = cc in
            ap (at key n) (filter_no key p y xs (subst (λ (z : A). p z ≡ false) (sym is_x) fails))
            ∙ missing_filter key p n xs (missing_low (key y) xs high n (omega (arith, same)) h.1)
        | inr apart ↦
            let rest = filtered_out p (key y) xs high n x h.1 (sym (at_tail key n y xs apart) ∙ e) fails in
            cond_both (p y) (y ∷ filter p xs) (filter p xs) (λ ys. at key n ys ≡ None) (λ _. at_tail key n y (filter p xs) apart ∙ rest) (λ _. rest)
      ]

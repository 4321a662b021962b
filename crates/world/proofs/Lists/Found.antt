-- Lists whose elements bear numbers: what is found by a number after one more at the end, one that is changed in its
-- place, and one fewer; and what rising numbers say.
use Rattle.std.proofs.Common.{◌≡◌, ℕ, List, [], ◌∷◌, ◌++◌, map, Bool, true, false, not, cond, eqb, Option, Some, None, ◌⊎◌, inl, inr, refl, ap, sym, subst, ◌∙◌}
use Rattle.std.specs.List.{find, filter}
use Rattle.std.proofs.lemmas.Bool.{cases_Bool, cases_eq, cond-true, cond-false, eq-eqb, ne_eqb, not_from_true, not_from_false}

module _ {A : Type 0} (key : A → ℕ) where
  -- the element of a number
  abbrev pub at : ℕ → List A → Option A
  at n xs = find (λ x. eqb (key x) n) xs

  -- with this element in the place of the one that has its number
  abbrev pub put : A → List A → List A
  put c xs = map (λ x. cond (eqb (key x) (key c)) c x) xs

  -- all elements but that of a number
  abbrev pub leave : ℕ → List A → List A
  leave n xs = filter (λ x. not (eqb (key x) n)) xs

  pub at_head : (n : ℕ) (y : A) (xs : List A) → key y ≡ n → at n (y ∷ xs) ≡ Some y
  at_head n y xs e = cond-true (eqb (key y) n) (Some y) (at n xs) (eq-eqb _ _ e)

  pub at_tail : (n : ℕ) (y : A) (xs : List A) → (key y ≡ n → ⊥) → at n (y ∷ xs) ≡ at n xs
  at_tail n y xs apart = cond-false (eqb (key y) n) (Some y) (at n xs) (ne_eqb _ _ apart)

  pub found_key : (n : ℕ) (xs : List A) (x : A) → at n xs ≡ Some x → key x ≡ n
  found_key n [] x e = absurd (let bad : None ≡ Some x = e in cc)
  found_key n (y ∷ xs) x e =
      elim (cases_eq (key y) n) [
        | inl same ↦
            let both : Some y ≡ Some x = sym (at_head n y xs same) ∙ e in
            let is : y ≡ x = cc in subst (λ (z : A). key z ≡ n) is same
        | inr apart ↦ found_key n xs x (sym (at_tail n y xs apart) ∙ e)
      ]

  -- one more at the end
  pub found_push : (n : ℕ) (xs : List A) (y x : A) → at n xs ≡ Some x → at n (xs ++ y ∷ []) ≡ Some x
  found_push n [] y x e = absurd (let bad : None ≡ Some x = e in cc)
  found_push n (z ∷ xs) y x e =
      elim (cases_eq (key z) n) [
        | inl same ↦ at_head n z (xs ++ y ∷ []) same ∙ (sym (at_head n z xs same) ∙ e)
        | inr apart ↦ at_tail n z (xs ++ y ∷ []) apart ∙ found_push n xs y x (sym (at_tail n z xs apart) ∙ e)
      ]

  pub missing_push : (n : ℕ) (xs : List A) (y : A) → at n xs ≡ None → at n (xs ++ y ∷ []) ≡ at n (y ∷ [])
  missing_push n [] y e = refl
  missing_push n (z ∷ xs) y e =
      elim (cases_eq (key z) n) [
        | inl same ↦ absurd (let bad : Some z ≡ None = sym (at_head n z xs same) ∙ e in cc)
        | inr apart ↦ at_tail n z (xs ++ y ∷ []) apart ∙ missing_push n xs y (sym (at_tail n z xs apart) ∙ e)
      ]

  pub found_in_push : (n : ℕ) (xs : List A) (y x : A) → at n (xs ++ y ∷ []) ≡ Some x → (at n xs ≡ Some x) ⊎ ((x ≡ y) × (key y ≡ n))
  found_in_push n [] y x e =
      elim (cases_eq (key y) n) [
        | inl same ↦ let both : Some y ≡ Some x = sym (at_head n y [] same) ∙ e in inr (cc, same)
        | inr apart ↦ absurd (let bad : None ≡ Some x = sym (at_tail n y [] apart) ∙ e in cc)
      ]
  found_in_push n (z ∷ xs) y x e =
      elim (cases_eq (key z) n) [
        | inl same ↦ inl (at_head n z xs same ∙ (sym (at_head n z (xs ++ y ∷ []) same) ∙ e))
        | inr apart ↦
            elim (found_in_push n xs y x (sym (at_tail n z (xs ++ y ∷ []) apart) ∙ e)) [
              | inl there ↦ inl (at_tail n z xs apart ∙ there)
              | inr last ↦ inr last
            ]
      ]

  -- one that is changed in its place
  pub put_head : (c y : A) (xs : List A) → key y ≡ key c → put c (y ∷ xs) ≡ c ∷ put c xs
  put_head c y xs e = ap (λ (z : A). z ∷ put c xs) (cond-true (eqb (key y) (key c)) c y (eq-eqb _ _ e))

  pub put_tail : (c y : A) (xs : List A) → (key y ≡ key c → ⊥) → put c (y ∷ xs) ≡ y ∷ put c xs
  put_tail c y xs apart = ap (λ (z : A). z ∷ put c xs) (cond-false (eqb (key y) (key c)) c y (ne_eqb _ _ apart))

  pub put_same : (c : A) (xs : List A) (x : A) → at (key c) xs ≡ Some x → at (key c) (put c xs) ≡ Some c
  put_same c [] x e = absurd (let bad : None ≡ Some x = e in cc)
  put_same c (y ∷ xs) x e =
      elim (cases_eq (key y) (key c)) [
        | inl same ↦ ap (at (key c)) (put_head c y xs same) ∙ at_head (key c) c (put c xs) refl
        | inr apart ↦
            ap (at (key c)) (put_tail c y xs apart)
            ∙ (at_tail (key c) y (put c xs) apart ∙ put_same c xs x (sym (at_tail (key c) y xs apart) ∙ e))
      ]

  pub put_other : (c : A) (n : ℕ) (xs : List A) → (key c ≡ n → ⊥) → at n (put c xs) ≡ at n xs
  put_other c n [] other = refl
  put_other c n (y ∷ xs) other =
      elim (cases_eq (key y) (key c)) [
        | inl same ↦
            ap (at n) (put_head c y xs same)
            ∙ (at_tail n c (put c xs) other
            ∙ (put_other c n xs other ∙ sym (at_tail n y xs (λ e. other (sym same ∙ e)))))
        | inr apart ↦
            ap (at n) (put_tail c y xs apart)
            ∙ elim (cases_eq (key y) n) [
              | inl here ↦ at_head n y (put c xs) here ∙ sym (at_head n y xs here)
              | inr there ↦ at_tail n y (put c xs) there ∙ (put_other c n xs other ∙ sym (at_tail n y xs there))
            ]
      ]

  pub put_keys : (c : A) (xs : List A) → map key (put c xs) ≡ map key xs
  put_keys c [] = refl
  put_keys c (y ∷ xs) =
      elim (cases_eq (key y) (key c)) [
        | inl same ↦ ap (map key) (put_head c y xs same) ∙ (ap (λ (k : ℕ). k ∷ map key (put c xs)) (sym same) ∙ ap (λ (ks : List ℕ). key y ∷ ks) (put_keys c xs))
        | inr apart ↦ ap (map key) (put_tail c y xs apart) ∙ ap (λ (ks : List ℕ). key y ∷ ks) (put_keys c xs)
      ]

  -- of two changes of one element the later one stands
  pub put_put : (a b : A) (xs : List A) → key a ≡ key b → put b (put a xs) ≡ put b xs
  put_put a b [] same = refl
  put_put a b (y ∷ xs) same =
      elim (cases_eq (key y) (key a)) [
        | inl is ↦
            ap (put b) (put_head a y xs is)
            ∙ (put_head b a (put a xs) same
            ∙ (ap (λ (zs : List A). b ∷ zs) (put_put a b xs same) ∙ sym (put_head b y xs (is ∙ same))))
        | inr apart ↦
            let other : key y ≡ key b → ⊥ = λ e. apart (e ∙ sym same) in
            ap (put b) (put_tail a y xs apart)
            ∙ (put_tail b y (put a xs) other
            ∙ (ap (λ (zs : List A). y ∷ zs) (put_put a b xs same) ∙ sym (put_tail b y xs other)))
      ]

  -- one fewer
  pub leave_head : (m : ℕ) (y : A) (xs : List A) → key y ≡ m → leave m (y ∷ xs) ≡ leave m xs
  leave_head m y xs e = cond-false (not (eqb (key y) m)) _ _ (not_from_true _ (eq-eqb _ _ e))

  pub leave_tail : (m : ℕ) (y : A) (xs : List A) → (key y ≡ m → ⊥) → leave m (y ∷ xs) ≡ y ∷ leave m xs
  leave_tail m y xs apart = cond-true (not (eqb (key y) m)) _ _ (not_from_false _ (ne_eqb _ _ apart))

  pub leave_same : (m : ℕ) (xs : List A) → at m (leave m xs) ≡ None
  leave_same m [] = refl
  leave_same m (y ∷ xs) =
      elim (cases_eq (key y) m) [
        | inl same ↦ ap (at m) (leave_head m y xs same) ∙ leave_same m xs
        | inr apart ↦ ap (at m) (leave_tail m y xs apart) ∙ (at_tail m y (leave m xs) apart ∙ leave_same m xs)
      ]

  pub leave_other : (m n : ℕ) (xs : List A) → (m ≡ n → ⊥) → at n (leave m xs) ≡ at n xs
  leave_other m n [] other = refl
  leave_other m n (y ∷ xs) other =
      elim (cases_eq (key y) m) [
        | inl same ↦
            ap (at n) (leave_head m y xs same)
            ∙ (leave_other m n xs other ∙ sym (at_tail n y xs (λ e. other (sym same ∙ e))))
        | inr apart ↦
            ap (at n) (leave_tail m y xs apart)
            ∙ elim (cases_eq (key y) n) [
              | inl here ↦ at_head n y (leave m xs) here ∙ sym (at_head n y xs here)
              | inr there ↦ at_tail n y (leave m xs) there ∙ (leave_other m n xs other ∙ sym (at_tail n y xs there))
            ]
      ]

  -- to leave an element out it does not matter that it was changed
  pub leave_put : (c : A) (xs : List A) → leave (key c) (put c xs) ≡ leave (key c) xs
  leave_put c [] = refl
  leave_put c (y ∷ xs) =
      elim (cases_eq (key y) (key c)) [
        | inl same ↦
            ap (leave (key c)) (put_head c y xs same)
            ∙ (leave_head (key c) c (put c xs) refl ∙ (leave_put c xs ∙ sym (leave_head (key c) y xs same)))
        | inr apart ↦
            ap (leave (key c)) (put_tail c y xs apart)
            ∙ (leave_tail (key c) y (put c xs) apart
            ∙ (ap (λ (zs : List A). y ∷ zs) (leave_put c xs) ∙ sym (leave_tail (key c) y xs apart)))
      ]

  -- some of them
  pub filter_yes : (p : A → Bool) (x : A) (xs : List A) → p x ≡ true → filter p (x ∷ xs) ≡ x ∷ filter p xs
  filter_yes p x xs e = cond-true (p x) (x ∷ filter p xs) (filter p xs) e

  pub filter_no : (p : A → Bool) (x : A) (xs : List A) → p x ≡ false → filter p (x ∷ xs) ≡ filter p xs
  filter_no p x xs e = cond-false (p x) (x ∷ filter p xs) (filter p xs) e

  -- what is found among all, and is one of some, is found among these
  pub found_in_filter : (some : A → Bool) (n : ℕ) (xs : List A) (x : A) → at n xs ≡ Some x → some x ≡ true → at n (filter some xs) ≡ Some x
  found_in_filter some n [] x e is = absurd (let bad : None ≡ Some x = e in cc)
  found_in_filter some n (y ∷ xs) x e is =
      elim (cases_eq (key y) n) [
        | inl same ↦
            let both : Some y ≡ Some x = sym (at_head n y xs same) ∙ e in
            let is_x : y ≡ x = cc in
            ap (at n) (cond-true (some y) (y ∷ filter some xs) (filter some xs) (subst (λ (z : A). some z ≡ true) (sym is_x) is))
            ∙ (at_head n y (filter some xs) same ∙ both)
        | inr apart ↦
            let rest = found_in_filter some n xs x (sym (at_tail n y xs apart) ∙ e) is in
            elim (cases_Bool (some y)) [
              | inl one_too ↦ ap (at n) (cond-true (some y) (y ∷ filter some xs) (filter some xs) one_too) ∙ (at_tail n y (filter some xs) apart ∙ rest)
              | inr none ↦ ap (at n) (cond-false (some y) (y ∷ filter some xs) (filter some xs) none) ∙ rest
            ]
      ]

  -- what is missing among all is missing among some
  pub missing_filter : (p : A → Bool) (n : ℕ) (xs : List A) → at n xs ≡ None → at n (filter p xs) ≡ None
  missing_filter p n [] e = refl
  missing_filter p n (y ∷ xs) e =
      elim (cases_eq (key y) n) [
        | inl same ↦ absurd (let bad : Some y ≡ None = sym (at_head n y xs same) ∙ e in cc)
        | inr apart ↦
            let rest = missing_filter p n xs (sym (at_tail n y xs apart) ∙ e) in
            elim (cases_Bool (p y)) [
              | inl passes ↦ ap (at n) (filter_yes p y xs passes) ∙ (at_tail n y (filter p xs) apart ∙ rest)
              | inr fails ↦ ap (at n) (filter_no p y xs fails) ∙ rest
            ]
      ]

  -- it does not matter which of two choices is made first
  pub filter_swap : (p q : A → Bool) (xs : List A) → filter p (filter q xs) ≡ filter q (filter p xs)
  filter_swap p q [] = refl
  filter_swap p q (x ∷ xs) =
      let rest = filter_swap p q xs in
      elim (cases_Bool (p x)) [
        | inl passes ↦
            elim (cases_Bool (q x)) [
              | inl both ↦
                  ap (filter p) (filter_yes q x xs both)
                  ∙ (filter_yes p x (filter q xs) passes
                  ∙ (ap (λ (zs : List A). x ∷ zs) rest
                  ∙ sym (ap (filter q) (filter_yes p x xs passes) ∙ filter_yes q x (filter p xs) both)))
              | inr one ↦
                  ap (filter p) (filter_no q x xs one)
                  ∙ (rest ∙ sym (ap (filter q) (filter_yes p x xs passes) ∙ filter_no q x (filter p xs) one))
            ]
        | inr fails ↦
            elim (cases_Bool (q x)) [
              | inl other ↦
                  ap (filter p) (filter_yes q x xs other)
                  ∙ (filter_no p x (filter q xs) fails ∙ (rest ∙ sym (ap (filter q) (filter_no p x xs fails))))
              | inr none ↦ ap (filter p) (filter_no q x xs none) ∙ (rest ∙ sym (ap (filter q) (filter_no p x xs fails)))
            ]
      ]

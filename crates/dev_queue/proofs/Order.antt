-- A list of waiting CCBs in the order of their numbers: it has the members of the one without that order, in whatever order
-- they stood there, and what one more and one fewer leave.
use Rattle.std.proofs.Common.{◌≡◌, ℕ, zero, suc, ◌+◌, ◌<◌, ◌≤◌, List, [], ◌∷◌, ◌++◌, length, get_or, drop, Bool, true, false, cond, ◌||◌, not, eqb, ltb, ◌⊎◌, inl, inr, refl, ap, sym, subst, ◌∙◌, arith}
use Rattle.std.proofs.lemmas.Bool.{eq-eqb, eqb-false, ne_eqb, ltb-true, ltb-false, or_parts, cond-true, cond-false, cond_both, not_from_true, not_from_false}
use Rattle.std.proofs.lemmas.Bool.Decides.{eqb_tells}
use Rattle.std.proofs.lemmas.List.Sums.{sum_by-cons}
use Rattle.std.proofs.lemmas.List.Sorted.{IsPermutation-sym, IsPermutation-trans, IsPermutation-to_front, IsPermutation-cons, IsPermutation-swap_remove, sum_by-IsPermutation, Contains-permutation}
use Rattle.std.specs.List.{count_by, swap_remove, All, Contains}
use Rattle.std.specs.List.Sorted.{IsPermutation}
use Rattle.ccb.specs.declared.CcbId.{CcbId}
use Rattle.dev_queue.specs.declared.waiting_ccb.WaitingCcb.{WaitingCcb}
use Rattle.dev_queue.specs.Waiting.{StartsFirst, IsLeast, IsByNumber, AreApart, AreInOrder, with_pair, without, waits, in_order}

-- how many have this number
abbrev count : ℕ → List WaitingCcb → ℕ
count n ps = count_by (λ (p : WaitingCcb). eqb p.number.0 n) ps

counted : (n : ℕ) (p : WaitingCcb) (ps : List WaitingCcb) → count n (p ∷ ps) ≡ cond (eqb p.number.0 n) 1 0 + count n ps
counted n p ps = sum_by-cons (λ (o : WaitingCcb). cond (eqb o.number.0 n) 1 0) p ps

none_waits : (n : CcbId) (ps : List WaitingCcb) → count n.0 ps ≡ 0 → waits n ps ≡ false
none_waits n [] h = refl
none_waits n (p ∷ ps) h =
    elim (eqb_tells p.number.0 n.0) [
      | inl e ↦ absurd (omega (arith, counted n.0 p ps, cond-true {A = ℕ} (eqb p.number.0 n.0) 1 0 e.0))
      | inr e ↦ ap (λ b. b || waits n ps) e.0 ∙ none_waits n ps (omega (arith, counted n.0 p ps))
    ]

waits_none : (n : CcbId) (ps : List WaitingCcb) → waits n ps ≡ false → count n.0 ps ≡ 0
waits_none n [] h = refl
waits_none n (p ∷ ps) h =
    let parts = or_parts (eqb p.number.0 n.0) (waits n ps) h in
    omega (arith, counted n.0 p ps, cond-false {A = ℕ} (eqb p.number.0 n.0) 1 0 parts.0, waits_none n ps parts.1)

-- the first one's number is not among the others
apart_first : (p : WaitingCcb) (ps : List WaitingCcb) → AreApart (p ∷ ps) → waits p.number ps ≡ false
apart_first p ps h =
    none_waits p.number ps (omega (arith, h p.number.0, counted p.number.0 p ps, cond-true {A = ℕ} (eqb p.number.0 p.number.0) 1 0 (eq-eqb p.number.0 p.number.0 refl)))

apart_rest : (p : WaitingCcb) (ps : List WaitingCcb) → AreApart (p ∷ ps) → AreApart ps
apart_rest p ps h n = omega (arith, h n, counted n p ps)

apart_more : (p : WaitingCcb) (ps : List WaitingCcb) → AreApart ps → waits p.number ps ≡ false → AreApart (p ∷ ps)
apart_more p ps h new n =
    elim (eqb_tells p.number.0 n) [
      | inl e ↦ omega (arith, counted n p ps, cond-true {A = ℕ} (eqb p.number.0 n) 1 0 e.0, ap (λ m. count m ps) e.1, waits_none p.number ps new)
      | inr e ↦ omega (arith, counted n p ps, cond-false {A = ℕ} (eqb p.number.0 n) 1 0 e.0, h n)
    ]

pub apart_moved : (xs ys : List WaitingCcb) → AreApart xs → IsPermutation xs ys → AreApart ys
apart_moved xs ys h moved n = omega (arith, h n, sum_by-IsPermutation (λ (o : WaitingCcb). cond (eqb o.number.0 n) 1 0) xs ys moved)

-- one more CCB makes the list longer by one
pub length-with_pair : (p : WaitingCcb) (ps : List WaitingCcb) → length (with_pair p ps) ≡ length ps + 1
length-with_pair p [] = refl
length-with_pair p (o ∷ os) =
    cond_both (ltb p.number.0 o.number.0) _ _ (λ (xs : List WaitingCcb). length xs ≡ length (o ∷ os) + 1)
    (λ _. omega arith)
    (λ _. omega (arith, length-with_pair p os))

pub length-in_order : (ps : List WaitingCcb) → length (in_order ps) ≡ length ps
length-in_order [] = refl
length-in_order (p ∷ ps) = omega (arith, length-with_pair p (in_order ps), length-in_order ps)

or_swap : (x y z : Bool) → (x || (y || z)) ≡ (y || (x || z))
or_swap true true z = refl
or_swap true false z = refl
or_swap false true z = refl
or_swap false false z = refl

waits_with_pair : (n : CcbId) (p : WaitingCcb) (ps : List WaitingCcb) → waits n (with_pair p ps) ≡ (eqb p.number.0 n.0 || waits n ps)
waits_with_pair n p [] = refl
waits_with_pair n p (o ∷ os) =
    cond_both (ltb p.number.0 o.number.0) _ _ (λ (xs : List WaitingCcb). waits n xs ≡ (eqb p.number.0 n.0 || (eqb o.number.0 n.0 || waits n os)))
    (λ _. refl)
    (λ _. ap (λ b. eqb o.number.0 n.0 || b) (waits_with_pair n p os) ∙ or_swap (eqb o.number.0 n.0) (eqb p.number.0 n.0) (waits n os))

-- one of them that has not this number, or none, is left out
pub waits_from : (n : CcbId) (k : ℕ) (ps : List WaitingCcb) (p : WaitingCcb) → k < length ps → p ≡ get_or ps k p → (p.number.0 ≡ n.0 → ⊥) → waits n (drop k ps) ≡ true → waits n (drop (k + 1) ps) ≡ true
waits_from n k [] p inside is apart h = absurd (omega arith)
waits_from n zero (q ∷ qs) p inside is apart h =
    let other : eqb q.number.0 n.0 ≡ false = ne_eqb _ _ (λ e. apart (ap (λ (o : WaitingCcb). o.number.0) is ∙ e)) in
    sym (ap (λ b. b || waits n qs) other) ∙ h
waits_from n (suc k) (q ∷ qs) p inside is apart h =
    let next : suc (k + 1) ≡ suc k + 1 = omega arith in
    subst (λ (m : ℕ). waits n (drop m (q ∷ qs)) ≡ true) next (waits_from n k qs p (omega arith) is apart h)

pub waits_behind : (n : CcbId) (k : ℕ) (ps : List WaitingCcb) → length ps ≤ k → waits n (drop k ps) ≡ true → ⊥
waits_behind n zero [] past h = let bad : false ≡ true = h in cc
waits_behind n (suc k) [] past h = let bad : false ≡ true = h in cc
waits_behind n zero (p ∷ ps) past h = omega arith
waits_behind n (suc k) (p ∷ ps) past h = waits_behind n k ps (omega arith) h

pub waits_in_order : (n : CcbId) (ps : List WaitingCcb) → waits n (in_order ps) ≡ waits n ps
waits_in_order n [] = refl
waits_in_order n (p ∷ ps) = waits_with_pair n p (in_order ps) ∙ ap (λ b. eqb p.number.0 n.0 || b) (waits_in_order n ps)

-- one more CCB, of a number that did not wait, keeps the order
rises_with_pair : (low : ℕ) (p : WaitingCcb) (ps : List WaitingCcb) → AreInOrder low ps → low ≤ p.number.0 → waits p.number ps ≡ false → AreInOrder low (with_pair p ps)
rises_with_pair low p [] h le new = (le, tt)
rises_with_pair low p (o ∷ os) h le new =
    let other = or_parts (eqb o.number.0 p.number.0) _ new in
    cond_both (ltb p.number.0 o.number.0) _ _ (AreInOrder low)
    (λ e. (le, (omega (arith, ltb-true _ _ e), h.1)))
    (λ e. (h.0, rises_with_pair (o.number.0 + 1) p os h.1 (omega (arith, ltb-false _ _ e, eqb-false _ _ other.0)) other.1))

rises_in_order : (ps : List WaitingCcb) → AreApart ps → AreInOrder 0 (in_order ps)
rises_in_order [] h = tt
rises_in_order (p ∷ ps) h =
    rises_with_pair 0 p (in_order ps) (rises_in_order ps (apart_rest p ps h)) (omega arith) (waits_in_order p.number ps ∙ apart_first p ps h)

-- one of these is this pair
abbrev Has : List WaitingCcb → WaitingCcb → Type 0
Has [] x = ⊥
Has (p ∷ ps) x = (p ≡ x) ⊎ Has ps x

has_at : (ps : List WaitingCcb) (k : ℕ) (d : WaitingCcb) → k < length ps → Has ps (get_or ps k d)
has_at [] k d l = absurd (omega arith)
has_at (p ∷ ps) zero d l = inl refl
has_at (p ∷ ps) (suc k) d l = inr (has_at ps k d (omega arith))

contains_has : (ps : List WaitingCcb) (x : WaitingCcb) → Contains ps x → Has ps x
contains_has ps x h = subst (Has ps) h.2 (has_at ps h.0 x h.1)

has_contains : (ps : List WaitingCcb) (x : WaitingCcb) → Has ps x → Contains ps x
has_contains [] x h = absurd h
has_contains (p ∷ ps) x h =
    elim h [
      | inl e ↦ (0, omega arith, e)
      | inr e ↦ let rest = has_contains ps x e in (suc rest.0, omega arith, rest.2)
    ]

has_with_pair : (p : WaitingCcb) (ps : List WaitingCcb) (x : WaitingCcb) → Has (p ∷ ps) x → Has (with_pair p ps) x
has_with_pair p [] x h = h
has_with_pair p (o ∷ os) x h =
    cond_both (ltb p.number.0 o.number.0) _ _ (λ (xs : List WaitingCcb). Has xs x)
    (λ _. h)
    (λ _. elim h [
      | inl e ↦ inr (has_with_pair p os x (inl e))
      | inr e ↦ elim e [ inl f ↦ inl f | inr f ↦ inr (has_with_pair p os x (inr f)) ]
    ])

with_pair_has : (p : WaitingCcb) (ps : List WaitingCcb) (x : WaitingCcb) → Has (with_pair p ps) x → Has (p ∷ ps) x
with_pair_has p [] x = λ h. h
with_pair_has p (o ∷ os) x =
    cond_both (ltb p.number.0 o.number.0) _ _ (λ (xs : List WaitingCcb). Has xs x → Has (p ∷ o ∷ os) x)
    (λ _ h. h)
    (λ _ h. elim h [
      | inl e ↦ inr (inl e)
      | inr e ↦ elim (with_pair_has p os x e) [ inl f ↦ inl f | inr f ↦ inr (inr f) ]
    ])

pub has_in_order : (ps : List WaitingCcb) (x : WaitingCcb) → Has ps x → Has (in_order ps) x
has_in_order [] x h = h
has_in_order (p ∷ ps) x h =
    has_with_pair p (in_order ps) x (elim h [ inl e ↦ inl e | inr e ↦ inr (has_in_order ps x e) ])

in_order_has : (ps : List WaitingCcb) (x : WaitingCcb) → Has (in_order ps) x → Has ps x
in_order_has [] x h = h
in_order_has (p ∷ ps) x h =
    elim (with_pair_has p (in_order ps) x h) [ inl e ↦ inl e | inr e ↦ inr (in_order_has ps x e) ]

-- what stands in the list has at least the lowest number
above : (low : ℕ) (ps : List WaitingCcb) (x : WaitingCcb) → AreInOrder low ps → Has ps x → low ≤ x.number.0
above low [] x h has = absurd has
above low (p ∷ ps) x h has =
    elim has [
      | inl e ↦ omega (arith, h.0, ap (λ (o : WaitingCcb). o.number.0) e)
      | inr e ↦ omega (arith, h.0, above (p.number.0 + 1) ps x h.1 e)
    ]

pub is_by_number : IsByNumber
is_by_number ps h = (
  rises_in_order ps h,
  λ x. (
    (λ e. has_contains (in_order ps) x (has_in_order ps x (contains_has ps x e))),
    (λ e. has_contains ps x (in_order_has ps x (contains_has (in_order ps) x e))),
  ),
)

-- two lists in the order of numbers that have the same members are the same
determined : (low high : ℕ) (xs ys : List WaitingCcb) → AreInOrder low xs → AreInOrder high ys → ((x : WaitingCcb) → Has xs x → Has ys x) → ((x : WaitingCcb) → Has ys x → Has xs x) → xs ≡ ys
determined low high [] [] h g forth back = refl
determined low high [] (y ∷ ys) h g forth back = absurd (back y (inl refl))
determined low high (x ∷ xs) [] h g forth back = absurd (forth x (inl refl))
determined low high (x ∷ xs) (y ∷ ys) h g forth back =
    let same : x ≡ y =
    elim (forth x (inl refl)) [
      | inl e ↦ sym e
      | inr e ↦ elim (back y (inl refl)) [
        | inl f ↦ f
        | inr f ↦ absurd (omega (arith, above (y.number.0 + 1) ys x g.1 e, above (x.number.0 + 1) xs y h.1 f))
      ]
    ] in
    let number : x.number.0 ≡ y.number.0 = ap (λ (o : WaitingCcb). o.number.0) same in
    let rest = determined (x.number.0 + 1) (y.number.0 + 1) xs ys h.1 g.1
    (λ z e. elim (forth z (inr e)) [
      | inl f ↦ absurd (omega (arith, number, ap (λ (o : WaitingCcb). o.number.0) f, above (x.number.0 + 1) xs z h.1 e))
      | inr f ↦ f
    ])
    (λ z e. elim (back z (inr e)) [
      | inl f ↦ absurd (omega (arith, number, ap (λ (o : WaitingCcb). o.number.0) f, above (y.number.0 + 1) ys z g.1 e))
      | inr f ↦ f
    ]) in
    λ i. same i ∷ rest i

-- in whatever order they stand, their order by number is the same
same_order : (xs ys : List WaitingCcb) → AreApart xs → IsPermutation xs ys → in_order xs ≡ in_order ys
same_order xs ys h moved =
    determined 0 0 (in_order xs) (in_order ys) (rises_in_order xs h) (rises_in_order ys (apart_moved xs ys h moved))
    (λ x e. has_in_order ys x (contains_has ys x (Contains-permutation xs ys x moved (has_contains xs x (in_order_has xs x e)))))
    (λ x e. has_in_order xs x (contains_has xs x (Contains-permutation ys xs x (IsPermutation-sym xs ys moved) (has_contains ys x (in_order_has ys x e)))))

-- with one more at the end, of a number that did not wait, and then moved
to_front : (p : WaitingCcb) (xs ys : List WaitingCcb) → IsPermutation (xs ++ p ∷ []) ys → IsPermutation (p ∷ xs) ys
to_front p xs ys moved = IsPermutation-trans (p ∷ xs) (xs ++ p ∷ []) ys (IsPermutation-sym _ _ (IsPermutation-to_front xs p)) moved

pub apart_added : (p : WaitingCcb) (xs ys : List WaitingCcb) → AreApart xs → waits p.number (in_order xs) ≡ false → IsPermutation (xs ++ p ∷ []) ys → AreApart ys
apart_added p xs ys h new moved =
    apart_moved (p ∷ xs) ys (apart_more p xs h (sym (waits_in_order p.number xs) ∙ new)) (to_front p xs ys moved)

pub order_added : (p : WaitingCcb) (xs ys : List WaitingCcb) → AreApart xs → waits p.number (in_order xs) ≡ false → IsPermutation (xs ++ p ∷ []) ys → in_order ys ≡ with_pair p (in_order xs)
order_added p xs ys h new moved =
    sym (same_order (p ∷ xs) ys (apart_more p xs h (sym (waits_in_order p.number xs) ∙ new)) (to_front p xs ys moved))

-- no CCB has that number
without_none : (n : CcbId) (ps : List WaitingCcb) → waits n ps ≡ false → without n ps ≡ ps
without_none n [] h = refl
without_none n (p ∷ ps) h =
    let parts = or_parts (eqb p.number.0 n.0) (waits n ps) h in
    cond-true (not (eqb p.number.0 n.0)) _ _ (not_from_false _ parts.0) ∙ ap (λ xs. p ∷ xs) (without_none n ps parts.1)

-- one more, and without it
without_with_pair : (p : WaitingCcb) (ps : List WaitingCcb) → waits p.number ps ≡ false → without p.number (with_pair p ps) ≡ ps
without_with_pair p [] h = cond-false (not (eqb p.number.0 p.number.0)) _ _ (not_from_true _ (eq-eqb p.number.0 p.number.0 refl))
without_with_pair p (o ∷ os) h =
    let parts = or_parts (eqb o.number.0 p.number.0) (waits p.number os) h in
    cond_both (ltb p.number.0 o.number.0) _ _ (λ (xs : List WaitingCcb). without p.number xs ≡ o ∷ os)
    (λ _. cond-false (not (eqb p.number.0 p.number.0)) _ _ (not_from_true _ (eq-eqb p.number.0 p.number.0 refl)) ∙ without_none p.number (o ∷ os) h)
    (λ _. cond-true (not (eqb o.number.0 p.number.0)) _ _ (not_from_false _ parts.0) ∙ ap (λ xs. o ∷ xs) (without_with_pair p os parts.1))

-- without the first, the last in its place, and then moved
pub moved_behind : (xs ys : List WaitingCcb) (x : WaitingCcb) → 0 < length xs → x ≡ get_or xs 0 x → IsPermutation (swap_remove xs 0 x) ys → IsPermutation xs (x ∷ ys)
moved_behind xs ys x some is moved =
    IsPermutation-trans _ _ _ (IsPermutation-swap_remove xs 0 x some is) (IsPermutation-cons x _ _ moved)

-- one of them fewer, and the others moved
pub apart_taken : (p : WaitingCcb) (xs ys : List WaitingCcb) → AreApart xs → IsPermutation xs (p ∷ ys) → AreApart ys
apart_taken p xs ys h moved = apart_rest p ys (apart_moved xs (p ∷ ys) h moved)

pub order_taken : (p : WaitingCcb) (xs ys : List WaitingCcb) → AreApart xs → IsPermutation xs (p ∷ ys) → in_order ys ≡ without p.number (in_order xs)
order_taken p xs ys h moved =
    sym (ap (without p.number) (same_order xs (p ∷ ys) h moved)
    ∙ without_with_pair p (in_order ys) (waits_in_order p.number ys ∙ apart_first p ys (apart_moved xs (p ∷ ys) h moved)))

-- what is the least of them is so in the order of numbers
pub least_in_order : (ps : List WaitingCcb) (k : ℕ) (x : WaitingCcb) → k < length ps → get_or ps k x ≡ x → All (StartsFirst x) ps → IsLeast (in_order ps) x
least_in_order ps k x inside is first =
    record {
      waits = has_contains (in_order ps) x (has_in_order ps x (contains_has ps x (k, inside, is)));
      first = λ j d l.
          let here : Contains ps (get_or (in_order ps) j d) =
          has_contains ps (get_or (in_order ps) j d) (in_order_has ps (get_or (in_order ps) j d) (has_at (in_order ps) j d l)) in
          subst (StartsFirst x) here.2 (first here.0 (get_or (in_order ps) j d) here.1);
    }

-- For callers, whose values tell their numbers: which value a number finds.
use Rattle.std.proofs.Common.{◌≡◌, ℕ, suc, ◌<◌, List, [], ◌∷◌, map, length, get_or, eqb, Some, None, Contains, inl, inr, refl, sym, subst, ◌∙◌, arith}
use Rattle.std.specs.List.{find}
use Rattle.std.proofs.lemmas.Bool.{cases_eq, cond-false, ne_eqb}
use Rattle.std.proofs.lemmas.List.{get_or-map, length-map}
use Rattle.cam_numbered_slots.specs.NumberedState.{IsPlaceOf}

module _ {A : Type 0} (key : A → ℕ) where
  -- a number that none bears finds none
  pub absent : (n : ℕ) (xs : List A) → (Contains (map key xs) n → ⊥) → find (λ x. eqb (key x) n) xs ≡ None
  absent n [] none = refl
  absent n (x ∷ xs) none =
      elim (cases_eq (key x) n) [
        | inl same ↦ absurd (none (0, omega arith, same))
        | inr other ↦
            cond-false (eqb (key x) n) (Some x) (find (λ y. eqb (key y) n) xs) (ne_eqb (key x) n other)
            ∙ absent n xs (λ has. none (suc has.0, omega (arith, has.1), has.2))
      ]

  -- what stands at its place bears it
  pub stands : (n : ℕ) (ns : List ℕ) (xs : List A) (place : ℕ) → ns ≡ map key xs → IsPlaceOf n ns place → (place < length xs) × ((d : A) → key (get_or xs place d) ≡ n)
  stands n ns xs place are found =
      let here : IsPlaceOf n (map key xs) place = subst (λ (ms : List ℕ). IsPlaceOf n ms place) are found in
      let l : place < length xs = omega (arith, here.within, length-map xs key) in
      (l, λ d. sym (get_or-map key xs place d 0 l) ∙ here.here)

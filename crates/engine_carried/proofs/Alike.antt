-- Tables that begin with the same words.
use Rattle.std.proofs.Common.{◌≡◌, ℕ, zero, suc, ◌+◌, ◌<◌, List, true, false, eqb, get_or, inl, inr, subst, arith}
use Rattle.std.proofs.lemmas.Bool.{and_from, and_left, and_right, cases_eq, eq-eqb, ne_eqb}
use Rattle.engine_carried.specs.TakenOver.{are_same_words}

pub same_more : (n : ℕ) (one other : List ℕ) → are_same_words n one other ≡ true → get_or one n 0 ≡ get_or other n 0 → are_same_words (n + 1) one other ≡ true
same_more n one other so is =
    let next : suc n ≡ n + 1 = omega arith in
    subst (λ (m : ℕ). are_same_words m one other ≡ true) next (and_from _ _ so (eq-eqb _ _ is))

pub not_same : (count n : ℕ) (one other : List ℕ) → n < count → (get_or one n 0 ≡ get_or other n 0 → ⊥) → are_same_words count one other ≡ false
not_same zero n one other less apart = absurd (omega (arith, less))
not_same (suc count) n one other less apart =
    elim (cases_eq n count) [
      | inl same ↦ and_right _ _ (subst (λ (k : ℕ). eqb (get_or one k 0) (get_or other k 0) ≡ false) same (ne_eqb _ _ apart))
      | inr before ↦ and_left _ _ (not_same count n one other (omega (arith, less, before)) apart)
    ]

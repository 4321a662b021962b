-- What is left when freezes go one after another, each by its timer.
use Rattle.std.proofs.Common.{◌≡◌, ℕ, ◌+◌, ◌<◌, List, [], ◌∷◌, length, true, false, not, cond, eqb, Some, inl, inr, refl, ap, sym, subst, ◌∙◌, arith}
use Rattle.std.proofs.lemmas.Bool.{cases_eq, cond-true, cond-false, cond_both, eq-eqb, ne_eqb, or_parts, not_from_true, not_from_false}
use Rattle.std.proofs.lemmas.List.Sums.{length-filter, count_by-le-length}
use Rattle.std.proofs.lemmas.List.Filters.{length-filter_both}
use Rattle.freeze_ledger.specs.declared.freeze.Freeze.{Freeze}
use Rattle.freeze_ledger.specs.Freezes.{entry_of, without, is_due, due_at, not_due_at}
use Rattle.freeze_ledger.specs.Invariant.{AreNumbered}
use Rattle.freeze_ledger.proofs.Numbered.{lowered, without_lower}
use Rattle.timer_events.specs.Next.{some_due}

-- without one of them numbers rise as before
pub numbered_without : (n low : ℕ) (fs : List Freeze) (high : ℕ) → AreNumbered low fs high → AreNumbered low (without n fs) high
numbered_without n low [] high h = h
numbered_without n low (g ∷ fs) high h =
    let rest = numbered_without n g.number fs high h.1 in
    cond_both (not (eqb g.number n)) (g ∷ without n fs) (without n fs) (λ gs. AreNumbered low gs high)
    (λ _. (h.0, rest)) (λ _. lowered g.number low (without n fs) high (omega (arith, h.0)) rest)

-- the freeze of a number is the first of the list, or of the rest
head_is : (n : ℕ) (g : Freeze) (fs : List Freeze) (f : Freeze) → g.number ≡ n → entry_of n (g ∷ fs) ≡ Some f → g ≡ f
head_is n g fs f same e =
    let both : Some g ≡ Some f = sym (cond-true (eqb g.number n) (Some g) (entry_of n fs) (eq-eqb _ _ same)) ∙ e in cc

tail_has : (n : ℕ) (g : Freeze) (fs : List Freeze) (f : Freeze) → (g.number ≡ n → ⊥) → entry_of n (g ∷ fs) ≡ Some f → entry_of n fs ≡ Some f
tail_has n g fs f apart e = sym (cond-false (eqb g.number n) (Some g) (entry_of n fs) (ne_eqb _ _ apart)) ∙ e

-- one that is due is none of the others
pub not_due_without : (reading n low : ℕ) (fs : List Freeze) (high : ℕ) (f : Freeze) → AreNumbered low fs high → entry_of n fs ≡ Some f → is_due reading f.holder ≡ true → not_due_at reading (without n fs) ≡ not_due_at reading fs
not_due_without reading n low [] high f h e due = refl
not_due_without reading n low (g ∷ fs) high f h e due =
    elim (cases_eq g.number n) [
      | inl same ↦
          let is_due_too : is_due reading g.holder ≡ true = subst (λ (x : Freeze). is_due reading x.holder ≡ true) (sym (head_is n g fs f same e)) due in
          let left : without n (g ∷ fs) ≡ fs = cond-false (not (eqb g.number n)) _ _ (not_from_true _ (eq-eqb _ _ same)) ∙ without_lower n g.number fs high (omega (arith, same)) h.1 in
          ap (not_due_at reading) left ∙ sym (cond-false (not (is_due reading g.holder)) (g ∷ not_due_at reading fs) (not_due_at reading fs) (not_from_true _ is_due_too))
      | inr apart ↦
          let rest = not_due_without reading n g.number fs high f h.1 (tail_has n g fs f apart e) due in
          let left : without n (g ∷ fs) ≡ g ∷ without n fs = cond-true (not (eqb g.number n)) _ _ (not_from_false _ (ne_eqb _ _ apart)) in
          ap (not_due_at reading) left ∙ ap (λ (gs : List Freeze). cond (not (is_due reading g.holder)) (g ∷ gs) gs) rest
    ]

-- and the list is shorter without it
pub without_shorter : (n : ℕ) (fs : List Freeze) (f : Freeze) → entry_of n fs ≡ Some f → length (without n fs) < length fs
without_shorter n [] f e = absurd (cc e)
without_shorter n (g ∷ fs) f e =
    elim (cases_eq g.number n) [
      | inl same ↦
          let left : without n (g ∷ fs) ≡ without n fs = cond-false (not (eqb g.number n)) _ _ (not_from_true _ (eq-eqb _ _ same)) in
          rw left (omega (arith, length-filter (λ (x : Freeze). not (eqb x.number n)) fs, count_by-le-length (λ (x : Freeze). not (eqb x.number n)) fs))
      | inr apart ↦
          let left : without n (g ∷ fs) ≡ g ∷ without n fs = cond-true (not (eqb g.number n)) _ _ (not_from_false _ (ne_eqb _ _ apart)) in
          rw left (omega (arith, without_shorter n fs f (tail_has n g fs f apart e)))
    ]

-- where none is due all are others
pub none_due : (reading : ℕ) (fs : List Freeze) → some_due reading fs ≡ false → not_due_at reading fs ≡ fs
none_due reading [] none = refl
none_due reading (g ∷ fs) none =
    let parts = or_parts _ _ none in
    cond-true (not (is_due reading g.holder)) _ _ (not_from_false _ parts.0) ∙ ap (λ (gs : List Freeze). g ∷ gs) (none_due reading fs parts.1)

-- each is due or one of the others
pub due_or_not : (reading : ℕ) (fs : List Freeze) → length (due_at reading fs) + length (not_due_at reading fs) ≡ length fs
due_or_not reading fs = length-filter_both (λ (f : Freeze). is_due reading f.holder) (λ (f : Freeze). not (is_due reading f.holder)) (λ f. refl) fs

-- What holds of each element of a list whose elements bear numbers: of the one that is found, and after a change.
use Rattle.std.proofs.Common.{◌≡◌, ℕ, List, [], ◌∷◌, length, cond, eqb, Some, None, inl, inr, sym, subst, ◌∙◌}
use Rattle.std.specs.List.{All}
use Rattle.std.proofs.lemmas.Bool.{cases_eq, cond_both}
use Rattle.std.proofs.lemmas.List.{length-map}
use Rattle.std.proofs.lemmas.List.Elements.{All-nil, All-cons, All-head, All-tail}
use Rattle.world.proofs.Lists.Found.{at, put, at_head, at_tail}

module _ {A : Type 0} (key : A → ℕ) where
  pub all_found : (P : A → Type 0) (n : ℕ) (xs : List A) (x : A) → All P xs → at key n xs ≡ Some x → P x
  all_found P n [] x h e = absurd (let bad : None ≡ Some x = e in cc)
  all_found P n (y ∷ xs) x h e =
      elim (cases_eq (key y) n) [
        | inl same ↦
            let both : Some y ≡ Some x = sym (at_head key n y xs same) ∙ e in
            let is : y ≡ x = cc in subst P is (All-head P y xs h)
        | inr apart ↦ all_found P n xs x (All-tail P y xs h) (sym (at_tail key n y xs apart) ∙ e)
      ]

  pub all_put : (P : A → Type 0) (c : A) (xs : List A) → P c → All P xs → All P (put key c xs)
  all_put P c [] now h = All-nil P
  all_put P c (y ∷ xs) now h =
      All-cons P (cond (eqb (key y) (key c)) c y) (put key c xs)
      (cond_both (eqb (key y) (key c)) c y P (λ _. now) (λ _. All-head P y xs h))
      (all_put P c xs now (All-tail P y xs h))

  pub put_length : (c : A) (xs : List A) → length (put key c xs) ≡ length xs
  put_length c xs = length-map xs (λ (x : A). cond (eqb (key x) (key c)) c x)

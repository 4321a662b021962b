-- What is done to one element of a list, and what is done to another: it does not matter which comes first.
use Rattle.std.proofs.Common.{◌≡◌, ℕ, List, [], ◌∷◌, ◌++◌, inl, inr, refl, ap, sym, ◌∙◌}
use Rattle.std.proofs.lemmas.Bool.{cases_eq}
use Rattle.world.proofs.Lists.Found.{at, put, leave, at_head, at_tail, put_head, put_tail, leave_head, leave_tail}

module _ {A : Type 0} (key : A → ℕ) where
  -- two are changed
  pub put_swap : (a b : A) (xs : List A) → (key a ≡ key b → ⊥) → put key a (put key b xs) ≡ put key b (put key a xs)
  put_swap a b [] apart = refl
  put_swap a b (y ∷ xs) apart =
      let rest = put_swap a b xs apart in
      elim (cases_eq (key y) (key a)) [
        | inl first ↦
            let other : key y ≡ key b → ⊥ = λ e. apart (sym first ∙ e) in
            ap (put key a) (put_tail key b y xs other)
            ∙ (put_head key a y (put key b xs) first
            ∙ (ap (λ (zs : List A). a ∷ zs) rest
            ∙ sym (ap (put key b) (put_head key a y xs first) ∙ put_tail key b a (put key a xs) apart)))
        | inr not_first ↦
            elim (cases_eq (key y) (key b)) [
              | inl second ↦
                  ap (put key a) (put_head key b y xs second)
                  ∙ (put_tail key a b (put key b xs) (λ e. apart (sym e))
                  ∙ (ap (λ (zs : List A). b ∷ zs) rest
                  ∙ sym (ap (put key b) (put_tail key a y xs not_first) ∙ put_head key b y (put key a xs) second)))
              | inr neither ↦
                  ap (put key a) (put_tail key b y xs neither)
                  ∙ (put_tail key a y (put key b xs) not_first
                  ∙ (ap (λ (zs : List A). y ∷ zs) rest
                  ∙ sym (ap (put key b) (put_tail key a y xs not_first) ∙ put_tail key b y (put key a xs) neither)))
            ]
      ]

  -- one is changed, and one is left out
  pub leave_swap : (n : ℕ) (a : A) (xs : List A) → (key a ≡ n → ⊥) → leave key n (put key a xs) ≡ put key a (leave key n xs)
  leave_swap n a [] apart = refl
  leave_swap n a (y ∷ xs) apart =
      let rest = leave_swap n a xs apart in
      elim (cases_eq (key y) n) [
        | inl left ↦
            let other : key y ≡ key a → ⊥ = λ e. apart (sym e ∙ left) in
            ap (leave key n) (put_tail key a y xs other)
            ∙ (leave_head key n y (put key a xs) left ∙ (rest ∙ sym (ap (put key a) (leave_head key n y xs left))))
        | inr stays ↦
            elim (cases_eq (key y) (key a)) [
              | inl same ↦
                  ap (leave key n) (put_head key a y xs same)
                  ∙ (leave_tail key n a (put key a xs) apart
                  ∙ (ap (λ (zs : List A). a ∷ zs) rest
                  ∙ sym (ap (put key a) (leave_tail key n y xs stays) ∙ put_head key a y (leave key n xs) same)))
              | inr neither ↦
                  ap (leave key n) (put_tail key a y xs neither)
                  ∙ (leave_tail key n y (put key a xs) stays
                  ∙ (ap (λ (zs : List A). y ∷ zs) rest
                  ∙ sym (ap (put key a) (leave_tail key n y xs stays) ∙ put_tail key a y (leave key n xs) neither)))
            ]
      ]

  -- one is changed, and one more comes at the end
  pub push_swap : (a b : A) (xs : List A) → (key b ≡ key a → ⊥) → put key a (xs ++ b ∷ []) ≡ put key a xs ++ b ∷ []
  push_swap a b [] apart = put_tail key a b [] apart
  push_swap a b (y ∷ xs) apart =
      let rest = push_swap a b xs apart in
      elim (cases_eq (key y) (key a)) [
        | inl same ↦
            put_head key a y (xs ++ b ∷ []) same
            ∙ (ap (λ (zs : List A). a ∷ zs) rest ∙ sym (ap (λ (zs : List A). zs ++ b ∷ []) (put_head key a y xs same)))
        | inr other ↦
            put_tail key a y (xs ++ b ∷ []) other
            ∙ (ap (λ (zs : List A). y ∷ zs) rest ∙ sym (ap (λ (zs : List A). zs ++ b ∷ []) (put_tail key a y xs other)))
      ]

  -- one more at the end is not found by another's number
  pub push_other : (n : ℕ) (b : A) (xs : List A) → (key b ≡ n → ⊥) → at key n (xs ++ b ∷ []) ≡ at key n xs
  push_other n b [] apart = at_tail key n b [] apart
  push_other n b (y ∷ xs) apart =
      elim (cases_eq (key y) n) [
        | inl here ↦ at_head key n y (xs ++ b ∷ []) here ∙ sym (at_head key n y xs here)
        | inr there ↦ at_tail key n y (xs ++ b ∷ []) there ∙ (push_other n b xs apart ∙ sym (at_tail key n y xs there))
      ]

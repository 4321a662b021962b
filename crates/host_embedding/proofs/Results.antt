-- The numbers of refusals: each is a result's, and each from 2 to 9 is one's.
use Rattle.std.proofs.Common.{◌≡◌, ◌==◌, ◌<◌, ◌≤◌, ◌∙◌, ℕ, Bool, true, false, cond, Option, Some, None, List, [], ◌∷◌, inl, inr, refl, sym, arith, nat_lt, rules}
use Rattle.std.specs.Prelude.{IfSome, find}
use Rattle.std.specs.List.{AllByRecursion}
use Rattle.std.specs.Option.{option_map}
use Rattle.std.proofs.lemmas.Bool.{cases_Bool, cond-true, cond-false, ltb-true}
use Rattle.std.proofs.lemmas.Bool.Decides.{nat_tests}
use Rattle.ccb.specs.CallRefusalText.{row_of}
use Rattle.ccb.specs.declared.call_refusal.CallRefusal.{CallRefusal}
use Rattle.ccb.specs.declared.call_refusal.RefusalRow.{RefusalRow}
use Rattle.ccb.specs.declared.call_refusal.TheConstants.{REFUSALS}
use Rattle.host_embedding.specs.Results.{number_of_refusal, refusal_numbered}
use Rattle.host_embedding.specs.declared.call_result.TheConstants.{RESULTS}

few_test : (refusal : CallRefusal) → nat_lt (number_of_refusal refusal) RESULTS ≡ true
unfolding row_of
few_test refusal = search rules

pub few_numbers : (refusal : CallRefusal) → number_of_refusal refusal < RESULTS
few_numbers refusal = ltb-true (number_of_refusal refusal) RESULTS (few_test refusal)

-- ---- what is found by its number

first_passes : {T : Type 0} (p : T → Bool) (x : T) (others : Option T) (test : Bool) → p x ≡ test → IfSome others (λ y. p y ≡ true) → IfSome (cond test (Some x) others) (λ y. p y ≡ true)
first_passes p x others true is more = is
first_passes p x others false is more = more

found_passes : {T : Type 0} (p : T → Bool) (xs : List T) → IfSome (find p xs) (λ x. p x ≡ true)
found_passes p [] = tt
found_passes p (x ∷ xs) = first_passes p x (find p xs) (p x) refl (found_passes p xs)

none_passes : {T : Type 0} (p : T → Bool) (xs : List T) → find p xs ≡ None → AllByRecursion (λ x. p x ≡ false) xs
none_passes p [] e = tt
none_passes p (x ∷ xs) e =
    elim (cases_Bool (p x)) [
      | inl holds ↦ absurd (let bad : Some x ≡ None = sym (cond-true (p x) _ _ holds) ∙ e in cc)
      | inr fails ↦ (fails, none_passes p xs (sym (cond-false (p x) _ _ fails) ∙ e))
    ]

abbrev is_numbered : ℕ → RefusalRow → Bool
is_numbered number row = number_of_refusal row.refusal == number

mapped : (o : Option RefusalRow) → option_map (λ (row : RefusalRow). row.refusal) o ≡ None → o ≡ None
mapped None e = refl
mapped (Some row) e = absurd cc

pub none_of_them : (number : ℕ) → refusal_numbered number ≡ None → 2 ≤ number → 9 < number
unfolding refusal_numbered row_of
none_of_them number e some =
    let parts = none_passes (is_numbered number) REFUSALS (mapped (find (is_numbered number) REFUSALS) e) in
    grind (arith, nat_tests, parts.0, parts.1.0, parts.1.1.0, parts.1.1.1.0, parts.1.1.1.1.0, parts.1.1.1.1.1.0, parts.1.1.1.1.1.1.0, parts.1.1.1.1.1.1.1.0)

its_number : (number : ℕ) (o : Option RefusalRow) → IfSome o (λ row. is_numbered number row ≡ true) → IfSome (option_map (λ (row : RefusalRow). row.refusal) o) (λ refusal. number_of_refusal refusal ≡ number)
its_number number None found = tt
its_number number (Some row) found = grind (arith, nat_tests, found)

pub numbered_so : (number : ℕ) → IfSome (refusal_numbered number) (λ refusal. number_of_refusal refusal ≡ number)
unfolding refusal_numbered
numbered_so number = its_number number (find (is_numbered number) REFUSALS) (found_passes (is_numbered number) REFUSALS)

-- Freezes that are left, place after place, and holder after holder.
use Rattle.std.proofs.Common.{◌≡◌, ◌∙◌, ◌+◌, ◌≤◌, ℕ, List, [], ◌∷◌, ◌++◌, eqb, add-one, ap, append_assoc, arith, subst, sym}
use Rattle.std.proofs.lemmas.Bool.{cond-true, cond-false, eq-eqb, ne_eqb}
use Rattle.ccb.specs.declared.place.Place.{Place}
use Rattle.freeze_ledger.specs.declared.freeze.Holder.{Holder}
use Rattle.engine_core.specs.ByNumber.{NumberedState}
use Rattle.host_decision.specs.Decided.{left_at, left_below, left_in, time_of}
use Rattle.host_decision.specs.declared.decision.LeftFreeze.{LeftFreeze}

-- those of one place more
pub left_more : (place_of : ℕ → Place) (engine : NumberedState) (own k : ℕ) (start before after : List LeftFreeze) → before ≡ start ++ left_below place_of engine own k
    → after ≡ before ++ left_at engine own (place_of k) → after ≡ start ++ left_below place_of engine own (k + 1)
left_more place_of engine own k start before after is more =
    more ∙ (ap (λ (xs : List LeftFreeze). xs ++ left_at engine own (place_of k)) is
    ∙ (append_assoc start (left_below place_of engine own k) (left_at engine own (place_of k)) ∙ ap (λ (n : ℕ). start ++ left_below place_of engine own n) (sym (add-one k))))

-- those of all places
pub left_all : (place_of : ℕ → Place) (engine : NumberedState) (own k count : ℕ) (start all : List LeftFreeze) → count ≤ k → k ≤ count → all ≡ start ++ left_below place_of engine own k
    → all ≡ start ++ left_below place_of engine own count
left_all place_of engine own k count start all over under is =
    let same : k ≡ count = omega (arith, over, under) in
    subst (λ (n : ℕ). all ≡ start ++ left_below place_of engine own n) same is

-- that of the failure is passed over
pub passed : (place : Place) (own clock number : ℕ) (holder : Holder) (rest : List (ℕ × Holder)) (before all : List LeftFreeze) → number ≡ own
    → before ++ left_in place own clock ((number, holder) ∷ rest) ≡ all → before ++ left_in place own clock rest ≡ all
passed place own clock number holder rest before all is so =
    ap (λ (xs : List LeftFreeze). before ++ xs)
    (sym (cond-true (eqb number own) (left_in place own clock rest) (record { place = place; milliseconds = time_of holder clock } ∷ left_in place own clock rest) (eq-eqb number own is)))
    ∙ so

-- and each other one is added
pub held : (place : Place) (own clock number : ℕ) (holder : Holder) (rest : List (ℕ × Holder)) (before after all : List LeftFreeze) → (number ≡ own → ⊥)
    → after ≡ before ++ record { place = place; milliseconds = time_of holder clock } ∷ []
    → before ++ left_in place own clock ((number, holder) ∷ rest) ≡ all → after ++ left_in place own clock rest ≡ all
held place own clock number holder rest before after all apart is so =
    let this : LeftFreeze = record { place = place; milliseconds = time_of holder clock } in
    ap (λ (xs : List LeftFreeze). xs ++ left_in place own clock rest) is
    ∙ (append_assoc before (this ∷ []) (left_in place own clock rest)
    ∙ (ap (λ (xs : List LeftFreeze). before ++ xs)
    (sym (cond-false (eqb number own) (left_in place own clock rest) (this ∷ left_in place own clock rest) (ne_eqb number own apart)))
    ∙ so))

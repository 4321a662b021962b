-- How many codes have a decision.
use Rattle.std.proofs.Common.{◌≡◌, ◌≢◌, ◌∙◌, ◌<◌, ◌≤◌, ◌+◌, ◌⊎◌, ℕ, zero, suc, List, [], ◌∷◌, ◌++◌, ap, arith, get_or, inl, inr, length, refl, subst, sym, take}
use Rattle.std.specs.Prelude.{slice_set}
use Rattle.std.proofs.lemmas.Bool.Decides.{nat_tests}
use Rattle.std.proofs.lemmas.List.{get_or-set_other, get_or-set_same, length-set, length-take-le, take_more}
use Rattle.show_decision.specs.Rows.{AreCounts, IsUsual, counted, how_many}

how_many_more : (decision : ℕ) (decisions : List ℕ) (last : ℕ) → how_many decision (decisions ++ last ∷ []) ≡ how_many decision decisions + counted last decision
how_many_more decision [] last = omega arith
how_many_more decision (first ∷ decisions) last = omega (arith, how_many_more decision decisions last)

one_if_same : (last decision : ℕ) → last ≡ decision → counted last decision ≡ 1
one_if_same last decision same = grind (arith, nat_tests)

none_if_other : (last decision : ℕ) → last ≢ decision → counted last decision ≡ 0
none_if_other last decision other = grind (arith, nat_tests)

how_many_within : (decision : ℕ) (decisions : List ℕ) → how_many decision decisions ≤ length decisions
how_many_within decision [] = omega arith
how_many_within decision (first ∷ decisions) = at_most_one first decision (how_many decision decisions) (length decisions) (how_many_within decision decisions)
  where
    at_most_one : (first decision many count : ℕ) → many ≤ count → counted first decision + many ≤ suc count
    at_most_one first decision many count within = grind (arith, nat_tests)

same_or_other : (last decision : ℕ) → (last ≡ decision) ⊎ (last ≢ decision)
same_or_other last decision = grind arith

within_or_past : (k count : ℕ) → (k < count) ⊎ (count ≤ k)
within_or_past k count = grind arith

past_none : (xs : List ℕ) (k : ℕ) → length xs ≤ k → get_or xs k 0 ≡ 0
past_none [] k past = refl
past_none (x ∷ xs) zero past = absurd (omega (arith, past))
past_none (x ∷ xs) (suc k) past = past_none xs k (omega (arith, past))

none_of : (decision : ℕ) (decisions : List ℕ) (count : ℕ) → ((code : ℕ) → code < length decisions → get_or decisions code 0 < count) → count ≤ decision → how_many decision decisions ≡ 0
none_of decision [] count each past = refl
none_of decision (first ∷ decisions) count each past =
    let here : first < count = each 0 (omega arith) in
    let other : first ≢ decision = omega (arith, here, past) in
    omega (arith, none_if_other first decision other, none_of decision decisions count (λ code below. each (suc code) (omega (arith, below))) past)

-- a code more is counted
pub counts_more : (decisions counts new : List ℕ) (code count : ℕ) → AreCounts (take code decisions) count counts → code < length decisions → get_or decisions code 0 < count
    → new ≡ slice_set counts (get_or decisions code 0) (get_or counts (get_or decisions code 0) 0 + 1) → AreCounts (take (code + 1) decisions) count new
counts_more decisions counts new code count are below within set_is =
    let last = get_or decisions code 0 in
    let more : (decision : ℕ) → how_many decision (take (code + 1) decisions) ≡ how_many decision (take code decisions) + counted last decision =
    λ decision. ap (how_many decision) (take_more decisions code 0 below) ∙ how_many_more decision (take code decisions) last in
    record {
      count_is = ap length set_is ∙ length-set counts last (get_or counts last 0 + 1) ∙ are.count_is;
      each = λ decision fits. subst (λ (its : List ℕ). get_or its decision 0 ≡ how_many decision (take (code + 1) decisions)) (sym set_is) (
          elim (same_or_other last decision) [
            | inl same ↦
                subst (λ (place : ℕ). get_or (slice_set counts last (get_or counts last 0 + 1)) place 0 ≡ how_many place (take (code + 1) decisions)) same
                (get_or-set_same counts last (get_or counts last 0 + 1) 0 (omega (arith, within, are.count_is))
                ∙ omega (arith, are.each last within, more last, one_if_same last last refl))
            | inr other ↦
                get_or-set_other counts last decision (get_or counts last 0 + 1) 0 (λ same. other (sym same)) ∙ omega (arith, are.each decision fits, more decision, none_if_other last decision other)
          ]
          );
    }

-- there are no more of a decision than codes
pub few_more : (decisions counts : List ℕ) (code count decision : ℕ) → AreCounts (take code decisions) count counts → code < length decisions → decision < count → get_or counts decision 0 ≤ code
few_more decisions counts code count decision are below fits =
    let short : length (take code decisions) ≡ code = length-take-le code decisions (omega (arith, below)) in
    omega (arith, are.each decision fits, how_many_within decision (take code decisions), short)

-- what most codes have is usual
pub usual_so : (decisions counts : List ℕ) (count usual : ℕ) → AreCounts decisions count counts → ((code : ℕ) → code < length decisions → get_or decisions code 0 < count)
    → ((place : ℕ) → get_or counts place 0 ≤ get_or counts usual 0) → IsUsual decisions usual
usual_so decisions counts count usual are each greatest = λ decision. elim (within_or_past decision count) [
  | inl fits ↦
      elim (within_or_past usual count) [
        | inl there ↦ omega (arith, are.each decision fits, are.each usual there, greatest decision)
        | inr past ↦ omega (arith, are.each decision fits, greatest decision, past_none counts usual (omega (arith, past, are.count_is)))
      ]
  | inr past ↦ omega (arith, none_of decision decisions count each past)
]

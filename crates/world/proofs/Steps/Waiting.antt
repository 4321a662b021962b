-- The CCB that starts next is the one of the queue that waits and starts before all that wait there: it is that one, and
-- no other is.
use Rattle.std.proofs.Common.{◌≡◌, ℕ, List, [], ◌∷◌, map, Bool, true, false, eqb, Option, Some, None, inl, inr, refl, ap, sym, subst, ◌∙◌, arith}
use Rattle.std.specs.Prelude.{◌&&◌, nat_lt, nat_le}
use Rattle.std.specs.List.{find, filter, list_all}
use Rattle.std.proofs.lemmas.Bool.{cases_Bool, cases_eq, cond-true, cond-false, and_parts, or_cases, ltb-true, leb-true, eqb-true}
use Rattle.world.specs.World.{LiveCcb}
use Rattle.world.specs.Lookups.{is_waiting, is_of, ccb_of, starts_before, next_waiting}
use Rattle.ccb.specs.Rising.{AreRising}
use Rattle.world.proofs.Lists.Found.{at, at_head, at_tail, found_in_filter}
use Rattle.world.proofs.Lists.Rising.{found_among}
use Rattle.world.proofs.Steps.Moves.{ccb_key}

-- the CCBs of the queue that wait
abbrev pub waiting_on : ℕ → List LiveCcb → List LiveCcb
waiting_on queue ccbs = filter (λ live. is_of queue live && is_waiting live.state) ccbs

module _ {A : Type 0} (key : A → ℕ) where
  -- what holds of all holds of what is found
  all_at : (test : A → Bool) (n : ℕ) (xs : List A) (x : A) → list_all test xs ≡ true → at key n xs ≡ Some x → test x ≡ true
  all_at test n [] x all e = absurd (let bad : None ≡ Some x = e in cc)
  all_at test n (y ∷ xs) x all e =
      let parts = and_parts (test y) (list_all test xs) all in
      elim (cases_eq (key y) n) [
        | inl same ↦
            let both : Some y ≡ Some x = sym (at_head key n y xs same) ∙ e in
            let is_x : y ≡ x = cc in subst (λ (z : A). test z ≡ true) is_x parts.0
        | inr apart ↦ all_at test n xs x parts.1 (sym (at_tail key n y xs apart) ∙ e)
      ]

  -- where a search finds nothing, nothing passes
  none_passes : (test : A → Bool) (n : ℕ) (xs : List A) (x : A) → find test xs ≡ None → at key n xs ≡ Some x → test x ≡ true → ⊥
  none_passes test n [] x none e passes = let bad : None ≡ Some x = e in cc
  none_passes test n (y ∷ xs) x none e passes =
      elim (cases_Bool (test y)) [
        | inl first ↦ let bad : Some y ≡ None = sym (cond-true (test y) (Some y) (find test xs) first) ∙ none in cc
        | inr fails ↦
            elim (cases_eq (key y) n) [
              | inl same ↦
                  let both : Some y ≡ Some x = sym (at_head key n y xs same) ∙ e in
                  let is_x : y ≡ x = cc in
                  let bad : false ≡ true = sym fails ∙ subst (λ (z : A). test z ≡ true) (sym is_x) passes in cc
              | inr apart ↦ none_passes test n xs x (sym (cond-false (test y) (Some y) (find test xs) fails) ∙ none) (sym (at_tail key n y xs apart) ∙ e) passes
            ]
      ]

  -- what a search finds passes
  find_passes : (test : A → Bool) (xs : List A) (x : A) → find test xs ≡ Some x → test x ≡ true
  find_passes test [] x e = absurd (let bad : None ≡ Some x = e in cc)
  find_passes test (y ∷ xs) x e =
      elim (cases_Bool (test y)) [
        | inl first ↦
            let both : Some y ≡ Some x = sym (cond-true (test y) (Some y) (find test xs) first) ∙ e in
            let is_x : y ≡ x = cc in subst (λ (z : A). test z ≡ true) is_x first
        | inr fails ↦ find_passes test xs x (sym (cond-false (test y) (Some y) (find test xs) fails) ∙ e)
      ]

-- of two CCBs that start before each other the numbers are one
one_number : (first second : LiveCcb) → starts_before first second ≡ true → starts_before second first ≡ true → first.ccb.number.0 ≡ second.ccb.number.0
one_number first second forth back =
    elim (or_cases (nat_lt first.ccb.priority second.ccb.priority) (eqb first.ccb.priority second.ccb.priority && nat_le first.ccb.number.0 second.ccb.number.0) forth) [
      | inl lower ↦
          elim (or_cases (nat_lt second.ccb.priority first.ccb.priority) (eqb second.ccb.priority first.ccb.priority && nat_le second.ccb.number.0 first.ccb.number.0) back) [
            | inl higher ↦ absurd (omega (arith, ltb-true _ _ lower, ltb-true _ _ higher))
            | inr same ↦ let parts = and_parts (eqb second.ccb.priority first.ccb.priority) (nat_le second.ccb.number.0 first.ccb.number.0) same in absurd (omega (arith, ltb-true _ _ lower, eqb-true _ _ parts.0))
          ]
      | inr same ↦
          let parts = and_parts (eqb first.ccb.priority second.ccb.priority) (nat_le first.ccb.number.0 second.ccb.number.0) same in
          elim (or_cases (nat_lt second.ccb.priority first.ccb.priority) (eqb second.ccb.priority first.ccb.priority && nat_le second.ccb.number.0 first.ccb.number.0) back) [
            | inl higher ↦ absurd (omega (arith, eqb-true _ _ parts.0, ltb-true _ _ higher))
            | inr again ↦
                let others = and_parts (eqb second.ccb.priority first.ccb.priority) (nat_le second.ccb.number.0 first.ccb.number.0) again in
                omega (arith, leb-true _ _ parts.1, leb-true _ _ others.1)
          ]
    ]

-- the one that starts next starts before all that wait on the queue
pub next_is_first : (queue : ℕ) (live : List LiveCcb) (next : LiveCcb) → next_waiting queue live ≡ Some next → list_all (starts_before next) (waiting_on queue live) ≡ true
next_is_first queue live next e = find_passes ccb_key (λ (c : LiveCcb). list_all (starts_before c) (waiting_on queue live)) (waiting_on queue live) next e

-- one that waits on the queue and starts before all that wait there is the one that starts next
pub next_is : (queue : ℕ) (live : List LiveCcb) (high : ℕ) (it : LiveCcb) → AreRising 0 (map (λ (live : LiveCcb). live.ccb.number.0) live) high → ccb_of it.ccb.number.0 live ≡ Some it → (is_of queue it && is_waiting it.state) ≡ true → list_all (starts_before it) (waiting_on queue live) ≡ true → next_waiting queue live ≡ Some it
next_is queue live high it rising found waits first = split (next_waiting queue live) refl
  where
    there : ccb_of it.ccb.number.0 (waiting_on queue live) ≡ Some it
    there = found_in_filter ccb_key (λ (c : LiveCcb). is_of queue c && is_waiting c.state) it.ccb.number.0 live it found waits

    split : (o : Option LiveCcb) → next_waiting queue live ≡ o → next_waiting queue live ≡ Some it
    split None none = absurd (none_passes ccb_key (λ (c : LiveCcb). list_all (starts_before c) (waiting_on queue live)) it.ccb.number.0 (waiting_on queue live) it none there first)
    split (Some other) e =
        let its = found_among ccb_key (λ (c : LiveCcb). list_all (starts_before c) (waiting_on queue live)) (λ (c : LiveCcb). is_of queue c && is_waiting c.state) 0 live high other rising e in
        let there_too : ccb_of other.ccb.number.0 (waiting_on queue live) ≡ Some other = found_in_filter ccb_key (λ (c : LiveCcb). is_of queue c && is_waiting c.state) other.ccb.number.0 live other its.0 its.1 in
        let forth = all_at ccb_key (starts_before other) it.ccb.number.0 (waiting_on queue live) it (next_is_first queue live other e) there in
        let back = all_at ccb_key (starts_before it) other.ccb.number.0 (waiting_on queue live) other first there_too in
        let numbers = one_number other it forth back in
        let both : Some other ≡ Some it = sym its.0 ∙ (ap (λ (n : ℕ). ccb_of n live) numbers ∙ found) in
        e ∙ both

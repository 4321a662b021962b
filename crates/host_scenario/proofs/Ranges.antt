-- The completions that passes of consecutive numbers took are all that were taken.
use Rattle.std.proofs.Common.{◌≡◌, ℕ, zero, suc, ◌+◌, ◌<◌, ◌≤◌, ◌==◌, if◌then◌else◌, Bool, true, false, List, [], ◌∷◌, ◌++◌, length, All, refl, ap, sym, subst, ◌∙◌, arith, eqb-true, eq-eqb}
use Rattle.std.specs.List.Sorted.{IsPermutation}
use Rattle.std.proofs.lemmas.List.Sorted.{IsPermutation-refl, IsPermutation-trans, IsPermutation-cons, IsPermutation-append_right, IsPermutation-middle}
use Rattle.std.proofs.lemmas.List.Elements.{All-head, All-tail}
use Rattle.ccb.specs.Completion.{Outcome}
use Rattle.inbox.specs.declared.account.Entry.{Entry}
use Rattle.inbox.specs.InboxLists.{by_pass, completions}

abbrev pub Within : ℕ → ℕ → Entry → Type 0
Within low high e = (low ≤ e.pass) × (e.pass < high)

-- those of so many passes, from this number on
abbrev pub by_range : List Entry → ℕ → ℕ → List Outcome
by_range es n zero = []
by_range es n (suc count) = by_pass n es ++ by_range es (n + 1) count

is_other : (a b : ℕ) → (a ≡ b → ⊥) → (a == b) ≡ false
is_other a b other = by_bool (a == b) refl
  where
    by_bool : (t : Bool) → (a == b) ≡ t → (a == b) ≡ false
    by_bool false is = is
    by_bool true is = absurd (other (eqb-true a b is))

is_one : (n : ℕ) (e : Entry) (es : List Entry) → e.pass ≡ n → by_pass n (e ∷ es) ≡ e.completion ∷ by_pass n es
is_one n e es same = ap (λ (b : Bool). if b then e.completion ∷ by_pass n es else by_pass n es) (eq-eqb e.pass n same)

is_none : (n : ℕ) (e : Entry) (es : List Entry) → (e.pass ≡ n → ⊥) → by_pass n (e ∷ es) ≡ by_pass n es
is_none n e es other = ap (λ (b : Bool). if b then e.completion ∷ by_pass n es else by_pass n es) (is_other e.pass n other)

range_none : (n count : ℕ) → by_range [] n count ≡ []
range_none n zero = refl
range_none n (suc count) = range_none (n + 1) count

-- an entry below the range
range_below : (e : Entry) (es : List Entry) (n count : ℕ) → e.pass < n → by_range (e ∷ es) n count ≡ by_range es n count
range_below e es n zero below = refl
range_below e es n (suc count) below =
    (λ i. is_none n e es (λ (same : e.pass ≡ n). absurd (omega (arith, same, below))) i ++ range_below e es (n + 1) count (omega (arith, below)) i)

above_of : (a b : ℕ) → b ≤ a → (a ≡ b → ⊥) → b + 1 ≤ a
above_of a b low other = grind (arith, low, other)

next_of : (a b : ℕ) → b ≤ a → a < b + 2 → (a ≡ b → ⊥) → a ≡ b + 1
next_of a b low high other = grind (arith, low, high, other)

-- an entry within it
range_step : (e : Entry) (es : List Entry) (n count : ℕ) (t : Bool) → (e.pass == n) ≡ t → n ≤ e.pass
    → (n + 1 ≤ e.pass → IsPermutation (by_range (e ∷ es) (n + 1) count) (e.completion ∷ by_range es (n + 1) count))
    → IsPermutation (by_range (e ∷ es) n (suc count)) (e.completion ∷ by_range es n (suc count))
range_step e es n count true is low rest =
    let here = eqb-true e.pass n is in
    subst (λ (xs : List Outcome). IsPermutation xs (e.completion ∷ (by_pass n es ++ by_range es (n + 1) count)))
    (sym (λ i. is_one n e es here i ++ range_below e es (n + 1) count (omega (arith, here)) i))
    (IsPermutation-refl (e.completion ∷ (by_pass n es ++ by_range es (n + 1) count)))
range_step e es n count false is low rest =
    let other : e.pass ≡ n → ⊥ = λ same. absurd (let bad : false ≡ true = sym is ∙ eq-eqb e.pass n same in cc) in
    subst (λ (xs : List Outcome). IsPermutation (xs ++ by_range (e ∷ es) (n + 1) count) (e.completion ∷ (by_pass n es ++ by_range es (n + 1) count))) (sym (is_none n e es other))
    (IsPermutation-trans (by_pass n es ++ by_range (e ∷ es) (n + 1) count) (by_pass n es ++ e.completion ∷ by_range es (n + 1) count) (e.completion ∷ (by_pass n es ++ by_range es (n + 1) count))
    (IsPermutation-append_right (by_pass n es) (by_range (e ∷ es) (n + 1) count) (e.completion ∷ by_range es (n + 1) count) (rest (above_of e.pass n low other)))
    (IsPermutation-middle (by_pass n es) e.completion (by_range es (n + 1) count)))

range_one : (e : Entry) (es : List Entry) (n count : ℕ) → n ≤ e.pass → e.pass < n + count → IsPermutation (by_range (e ∷ es) n count) (e.completion ∷ by_range es n count)
range_one e es n zero low high = absurd (omega (arith, low, high))
range_one e es n (suc count) low high = range_step e es n count (e.pass == n) refl low (λ above. range_one e es (n + 1) count above (omega (arith, high)))

pub range_all : (es : List Entry) (n count : ℕ) → All (Within n (n + count)) es → IsPermutation (by_range es n count) (completions es)
range_all [] n count within = subst (λ (xs : List Outcome). IsPermutation xs []) (sym (range_none n count)) (IsPermutation-refl [])
range_all (e ∷ es) n count within =
    let here = All-head (Within n (n + count)) e es within in
    IsPermutation-trans (by_range (e ∷ es) n count) (e.completion ∷ by_range es n count) (e.completion ∷ completions es)
    (range_one e es n count here.0 here.1)
    (IsPermutation-cons e.completion (by_range es n count) (completions es) (range_all es n count (All-tail (Within n (n + count)) e es within)))

-- one pass alone took all
pub pass_all : (es : List Entry) (n : ℕ) → All (Within n (n + 1)) es → by_pass n es ≡ completions es
pass_all [] n within = refl
pass_all (e ∷ es) n within =
    let here = All-head (Within n (n + 1)) e es within in
    is_one n e es (omega (arith, here.0, here.1)) ∙ ap (λ (xs : List Outcome). e.completion ∷ xs) (pass_all es n (All-tail (Within n (n + 1)) e es within))

-- of two passes the first took nothing
second_step : (e : Entry) (es : List Entry) (n : ℕ) (t : Bool) → (e.pass == n) ≡ t → Within n (n + 2) e → by_pass n (e ∷ es) ≡ [] → (by_pass n es ≡ [] → by_pass (n + 1) es ≡ completions es) → by_pass (n + 1) (e ∷ es) ≡ e.completion ∷ completions es
second_step e es n true is here none rest = absurd (omega (arith, ap length (sym (is_one n e es (eqb-true e.pass n is)) ∙ none)))
second_step e es n false is here none rest =
    let other : e.pass ≡ n → ⊥ = λ same. absurd (let bad : false ≡ true = sym is ∙ eq-eqb e.pass n same in cc) in
    is_one (n + 1) e es (next_of e.pass n here.0 here.1 other)
    ∙ ap (λ (xs : List Outcome). e.completion ∷ xs) (rest (sym (is_none n e es other) ∙ none))

pub second_all : (es : List Entry) (n : ℕ) → All (Within n (n + 2)) es → by_pass n es ≡ [] → by_pass (n + 1) es ≡ completions es
second_all [] n within none = refl
second_all (e ∷ es) n within none =
    second_step e es n (e.pass == n) refl (All-head (Within n (n + 2)) e es within) none (λ so. second_all es n (All-tail (Within n (n + 2)) e es within) so)

-- How many are marked in a table.
use Rattle.std.proofs.Common.{◌≡◌, ℕ, zero, suc, ◌+◌, ◌<◌, ◌≤◌, Bool, true, false, List, [], ◌∷◌, length, set, replicate, refl, ap, sym, ◌∙◌, arith, inl, inr, length-set, get_or-set_same, get_or-set_other}
use Rattle.std.proofs.lemmas.Bool.{cases_eq, cases_lt}
use Rattle.std.proofs.lemmas.List.{get_or-replicate, get_or_past, length-replicate}
use Rattle.call_shape.specs.Walk.{is_marked, marked}

pub marked_at_most : (marks : List Bool) → marked marks ≤ length marks
marked_at_most [] = omega arith
marked_at_most (true ∷ marks) = omega (arith, marked_at_most marks)
marked_at_most (false ∷ marks) = omega (arith, marked_at_most marks)

pub marked_more : (marks : List Bool) (i : ℕ) → i < length marks → is_marked marks i ≡ false → marked (set marks i true) ≡ marked marks + 1
marked_more [] i lt e = absurd (omega arith)
marked_more (true ∷ marks) zero lt e = absurd cc
marked_more (false ∷ marks) zero lt e = omega arith
marked_more (true ∷ marks) (suc i) lt e = omega (arith, marked_more marks i (omega arith) e)
marked_more (false ∷ marks) (suc i) lt e = marked_more marks i (omega arith) e

-- where one is not marked, not all are
pub marked_room : (marks : List Bool) (i : ℕ) → i < length marks → is_marked marks i ≡ false → marked marks < length marks
marked_room marks i lt e = omega (arith, marked_more marks i lt e, marked_at_most (set marks i true), length-set marks i true)

-- what is marked stays marked
abbrev pub StaysMarked : List Bool → List Bool → Type 0
StaysMarked before after = (k : ℕ) → is_marked before k ≡ true → is_marked after k ≡ true

pub marked_grows : (before after : List Bool) → length before ≡ length after → StaysMarked before after → marked before ≤ marked after
marked_grows [] after long stays = omega arith
marked_grows (b ∷ before) [] long stays = absurd (omega (arith, long))
marked_grows (true ∷ before) (true ∷ after) long stays = omega (arith, marked_grows before after (omega (arith, long)) (λ k. stays (suc k)))
marked_grows (true ∷ before) (false ∷ after) long stays = absurd (let bad : false ≡ true = stays 0 refl in cc)
marked_grows (false ∷ before) (true ∷ after) long stays = omega (arith, marked_grows before after (omega (arith, long)) (λ k. stays (suc k)))
marked_grows (false ∷ before) (false ∷ after) long stays = marked_grows before after (omega (arith, long)) (λ k. stays (suc k))

pub marks_there : (marks : List Bool) (i : ℕ) → i < length marks → is_marked (set marks i true) i ≡ true
marks_there marks i lt = get_or-set_same marks i true false lt

pub marks_other : (marks : List Bool) (i k : ℕ) → (k ≡ i → ⊥) → is_marked (set marks i true) k ≡ is_marked marks k
marks_other marks i k other = get_or-set_other marks i k true false other

pub stays_set : (marks : List Bool) (i : ℕ) → i < length marks → StaysMarked marks (set marks i true)
stays_set marks i lt k e = elim (cases_eq k i) [
  | inl same ↦ ap (is_marked (set marks i true)) same ∙ marks_there marks i lt
  | inr other ↦ marks_other marks i k other ∙ e
]

-- and where one more is, there are more
pub marked_rises : (before after : List Bool) (i : ℕ) → length before ≡ length after → StaysMarked before after → i < length before → is_marked before i ≡ false → is_marked after i ≡ true → marked before < marked after
marked_rises before after i long stays lt was is =
    let all = marked_grows (set before i true) after (length-set before i true ∙ long) (λ k e. elim (cases_eq k i) [
      | inl same ↦ ap (is_marked after) same ∙ is
      | inr other ↦ stays k (sym (marks_other before i k other) ∙ e)
    ]) in
    omega (arith, all, marked_more before i lt was)

-- in a fresh table nothing is marked
pub none_marked : (n k : ℕ) → is_marked (replicate n false) k ≡ false
none_marked n k = elim (cases_lt k n) [
  | inl lt ↦ get_or-replicate n k false false lt
  | inr past ↦ get_or_past (replicate n false) k false (omega (arith, past, length-replicate n false))
]

pub no_marks : (n : ℕ) → marked (replicate n false) ≡ 0
no_marks zero = refl
no_marks (suc n) = no_marks n

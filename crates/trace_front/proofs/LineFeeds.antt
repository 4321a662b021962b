-- What stands before the last line feed of a text, and after it.
use Rattle.std.proofs.Common.{◌≡◌, ◌≢◌, ◌<◌, ◌∙◌, ℕ, List, ◌++◌, ◌∷◌, ap, drop, get_or, length, subst, sym, take, take-append-drop}
use Rattle.std.specs.Prelude.{Contains}
use Rattle.std.proofs.lemmas.List.{get_or_default}

-- a text is what stands before a line feed, and after it
pub joined : (text before after : List ℕ) (i j : ℕ) → drop i text ≡ 10 ∷ drop j text → before ≡ take i text → after ≡ drop j text → text ≡ before ++ 10 ∷ after
joined text before after i j cut first second = sym (take-append-drop i text) ∙ (ap (λ (l : List ℕ). take i text ++ l) cut ∙ λ k. sym first k ++ 10 ∷ sym second k)

-- after the last one there is none
pub has_none : (rest later : List ℕ) → ((k : ℕ) → k < length rest → get_or rest k 0 ≢ 10) → later ≡ rest → Contains later 10 → ⊥
has_none rest later lacks same there =
    let moved : Contains rest 10 = subst (λ (l : List ℕ). Contains l 10) same there in
    lacks moved.0 moved.1 (get_or_default rest moved.0 0 10 moved.1 ∙ moved.2)

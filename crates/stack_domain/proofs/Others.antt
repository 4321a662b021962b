-- All bytes but eight, put together word by word.
use Rattle.std.proofs.Common.{◌≡◌, ◌≢◌, ℕ, ◌+◌, ◌*◌, ◌<◌, ◌≤◌, Bool, false, List, length, replicate, ap, ◌∙◌, arith, ◌⊎◌, inl, inr}
use Rattle.std.specs.Prelude.{slice_index_or}
use Rattle.std.proofs.lemmas.Bool.{cases_lt}
use Rattle.std.proofs.lemmas.List.{get_or-replicate, get_or_past, length-replicate}
use Rattle.bpf_stack_frame.specs.ByteSet.{Has, with_all}
use Rattle.bpf_stack_frame.proofs.Sets.{length-with_all, with_all_below, with_all_inside, with_all_above}

-- the words below one are there, but for one
pub record AreOthers (set : List Bool) (word upto : ℕ) : Type 0 where
  pub whole : length set ≡ 512
  pub there : (k : ℕ) → k < 8 * upto → ((k < 8 * word) ⊎ (8 * word + 8 ≤ k)) → Has set k
  pub none : (k : ℕ) → 8 * word ≤ k → k < 8 * word + 8 → slice_index_or set k false ≡ false

pub none_yet : (set : List Bool) (word : ℕ) → set ≡ replicate 512 false → AreOthers set word 0
none_yet set word is = record {
  whole = ap (length {A = Bool}) is ∙ length-replicate {A = Bool} 512 false;
  there = λ k lt apart. absurd (omega (arith, lt));
  none = λ k from to. ap (λ (s : List Bool). slice_index_or s k false) is ∙ elim (cases_lt k 512) [
    | inl inside ↦ get_or-replicate {A = Bool} 512 k false false inside
    | inr past ↦ get_or_past (replicate 512 false) k false (omega (arith, past, length-replicate {A = Bool} 512 false))
  ];
}

module _ (set new : List Bool) (word other : ℕ) (are : AreOthers set word other) (few : other < 64) where
  pub left_out : other ≡ word → AreOthers set word (other + 1)
  left_out same = record {
    whole = are.whole;
    there = λ k lt apart. are.there k (elim apart [ inl below ↦ omega (arith, same, below) | inr above ↦ absurd (omega (arith, lt, same, above)) ]) apart;
    none = are.none;
  }

  pub put_in : other ≢ word → new ≡ with_all set (8 * other) 8 → AreOthers new word (other + 1)
  put_in apart is = record {
    whole = ap (length {A = Bool}) is ∙ (length-with_all set (8 * other) 8 inside ∙ are.whole);
    there = λ k lt outside. at k ∙ elim (cases_lt k (8 * other)) [
      | inl below ↦ with_all_below set (8 * other) 8 inside k below ∙ are.there k below outside
      | inr from ↦ with_all_inside set (8 * other) 8 inside k from (omega (arith, lt))
    ];
    none = λ k from to. at k ∙ elim (cases_lt other word) [
      | inl before ↦ with_all_above set (8 * other) 8 inside k (omega (arith, before, from)) ∙ are.none k from to
      | inr behind ↦ with_all_below set (8 * other) 8 inside k (let less : word < other = omega (arith, behind, apart) in omega (arith, less, to)) ∙ are.none k from to
    ];
  }
    where
      inside : 8 * other + 8 ≤ length set
      inside = omega (arith, are.whole, few)

      at : (k : ℕ) → slice_index_or new k false ≡ slice_index_or (with_all set (8 * other) 8) k false
      at k = ap (λ (s : List Bool). slice_index_or s k false) is

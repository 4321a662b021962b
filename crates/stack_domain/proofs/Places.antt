-- The sets of a stack with one more, one fewer, or another one.
use Rattle.std.proofs.Common.{◌≡◌, ℕ, ◌+◌, ◌<◌, ◌≤◌, Bool, false, List, [], ◌∷◌, ◌++◌, length, take, set, ap, sym, ◌∙◌, arith, inl, inr, length-append}
use Rattle.std.specs.Prelude.{slice_index_or}
use Rattle.std.proofs.lemmas.Bool.{cases_lt, cases_eq}
use Rattle.std.proofs.lemmas.List.{get_or_append_left, get_or_at, get_or-take, get_or-replicate, get_or_past, length-take-le, length-replicate, take_all, take_more, length-set, get_or-set_same, get_or-set_other}
use Rattle.bpf_stack_frame.specs.ByteSet.{no_bytes, with_all}
use Rattle.bpf_stack_frame.proofs.Sets.{length-with_all}
use Rattle.stack_domain.specs.Sets.{AreSets}
use Rattle.stack_domain.proofs.Covered.{with_marks}

pub long : length no_bytes ≡ 512
unfolding no_bytes
long = let no : Bool = false in length-replicate {A = Bool} 512 no

pub nothing_marked : (offset : ℕ) → slice_index_or no_bytes offset false ≡ false
unfolding no_bytes
nothing_marked offset = elim (cases_lt offset 512) [
  | inl inside ↦ (let no : Bool = false in get_or-replicate {A = Bool} 512 offset no no inside)
  | inr past ↦ get_or_past no_bytes offset false (omega (arith, long))
]

-- one set more, without a byte
module _ (stack : List (List Bool)) (whole : (k : ℕ) → k < length stack → length (slice_index_or stack k []) ≡ 512) where
  pub kept_more : AreSets (stack ++ no_bytes ∷ [])
  kept_more = record {
    some = omega (arith, length-append stack (no_bytes ∷ []));
    whole = λ k less. elim (cases_lt k (length stack)) [
      | inl below ↦ ap length (get_or_append_left stack (no_bytes ∷ []) [] k below) ∙ whole k below
      | inr above ↦ (let at : length stack ≡ k = omega (arith, length-append stack (no_bytes ∷ [])) in ap length (get_or_at stack no_bytes [] [] k at) ∙ long)
    ];
  }

pub kept_one : AreSets (no_bytes ∷ [])
kept_one = kept_more [] (λ k less. absurd (omega arith))

module _ (stack : List (List Bool)) (are : AreSets stack) where
  -- the innermost is gone
  pub kept_less : (less : ℕ) → 1 ≤ less → less + 1 ≡ length stack → AreSets (take less stack)
  kept_less less some at =
      let front : length (take less stack) ≡ less = length-take-le less stack (omega arith) in
      record {
        some = omega (arith, front);
        whole = λ k live. ap length (get_or-take less stack k [] (omega (arith, front))) ∙ are.whole k (omega (arith, front));
      }

  -- other bytes of one frame
  pub kept_set : (frame : ℕ) (bytes : List Bool) → frame < length stack → length bytes ≡ 512 → AreSets (set stack frame bytes)
  kept_set frame bytes live many = record {
    some = omega (arith, are.some, length-set stack frame bytes);
    whole = λ k less. elim (cases_eq k frame) [
      | inr apart ↦ ap length (get_or-set_other stack frame k bytes [] apart) ∙ are.whole k (omega (arith, length-set stack frame bytes))
      | inl same ↦ ap (λ (n : ℕ). length (slice_index_or (set stack frame bytes) n [])) same ∙ ap length (get_or-set_same stack frame bytes [] live) ∙ many
    ];
  }

  pub kept_marked : (frame offset count : ℕ) → frame < length stack → offset + count ≤ 512 → AreSets (with_marks stack frame offset count)
  kept_marked frame offset count live inside =
      let bytes = slice_index_or stack frame [] in
      let whole : length bytes ≡ 512 = are.whole frame live in
      kept_set frame (with_all bytes offset count) live (length-with_all bytes offset count (omega arith) ∙ whole)

-- the innermost set apart
pub split_last : (stack : List (List Bool)) (less : ℕ) → less + 1 ≡ length stack → stack ≡ take less stack ++ slice_index_or stack less [] ∷ []
split_last stack less at = sym (take_all (less + 1) stack (omega arith)) ∙ take_more stack less [] (omega arith)

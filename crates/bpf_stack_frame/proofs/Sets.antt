-- A set byte by byte, and one with bytes added.
use Rattle.std.proofs.Common.{◌≡◌, ℕ, ◌+◌, ◌-◌, ◌<◌, ◌≤◌, Bool, true, false, List, ◌++◌, length, take, drop, replicate, get_or, ap, sym, ◌∙◌, arith, inl, inr, add-zero, length-append, length-drop}
use Rattle.std.proofs.lemmas.Bool.{cases_lt}
use Rattle.std.proofs.lemmas.List.{get_or_append_left, get_or-append_right, get_or-take, get_or-drop, get_or-replicate, length-take-le, length-replicate, ext_get_or, append-nil, take-append-drop}
use Rattle.bpf_stack_frame.specs.ByteSet.{with_all}

module _ (set : List Bool) (offset count : ℕ) (inside : offset + count ≤ length set) where
  front : length (take offset set) ≡ offset
  front = length-take-le offset set (omega arith)

  middle : length (take offset set ++ replicate count true) ≡ offset + count
  middle = omega (arith, length-append (take offset set) (replicate count true), front, length-replicate {A = Bool} count true)

  pub length-with_all : length (with_all set offset count) ≡ length set
  unfolding with_all
  length-with_all =
      omega (arith, length-append (take offset set ++ replicate count true) (drop (offset + count) set), middle, length-drop (offset + count) set)

  pub with_all_below : (k : ℕ) → k < offset → get_or (with_all set offset count) k false ≡ get_or set k false
  unfolding with_all
  with_all_below k below =
      get_or_append_left (take offset set ++ replicate count true) (drop (offset + count) set) false k (omega (arith, middle))
      ∙ get_or_append_left (take offset set) (replicate count true) false k (omega (arith, front))
      ∙ get_or-take offset set k false below

  pub with_all_inside : (k : ℕ) → offset ≤ k → k < offset + count → get_or (with_all set offset count) k false ≡ true
  unfolding with_all
  with_all_inside k from to =
      get_or_append_left (take offset set ++ replicate count true) (drop (offset + count) set) false k (omega (arith, middle))
      ∙ get_or-append_right (take offset set) (replicate count true) offset k false front from
      ∙ get_or-replicate count (k - offset) true false (omega arith)

  pub with_all_above : (k : ℕ) → offset + count ≤ k → get_or (with_all set offset count) k false ≡ get_or set k false
  unfolding with_all
  with_all_above k above =
      let place : offset + count + (k - (offset + count)) ≡ k = omega arith in
      get_or-append_right (take offset set ++ replicate count true) (drop (offset + count) set) (offset + count) k false middle above
      ∙ get_or-drop (offset + count) set (k - (offset + count)) false
      ∙ ap (λ (n : ℕ). get_or set n false) place

  -- a list with the same bytes, and those that are added, is that set
  pub with_all_by : (new : List Bool) → length new ≡ length set
      → ((k : ℕ) → k < offset → get_or new k false ≡ get_or set k false)
      → ((k : ℕ) → offset ≤ k → k < offset + count → get_or new k false ≡ true)
      → ((k : ℕ) → offset + count ≤ k → k < length set → get_or new k false ≡ get_or set k false)
      → new ≡ with_all set offset count
  with_all_by new same below within above = ext_get_or false new (with_all set offset count) (same ∙ sym length-with_all) each
    where
      each : (k : ℕ) → k < length new → get_or new k false ≡ get_or (with_all set offset count) k false
      each k less = elim (cases_lt k offset) [
        | inl low ↦ below k low ∙ sym (with_all_below k low)
        | inr from ↦ elim (cases_lt k (offset + count)) [
          | inl to ↦ within k from to ∙ sym (with_all_inside k from to)
          | inr high ↦ above k high (omega (arith, same)) ∙ sym (with_all_above k high)
        ]
      ]

-- bytes added in two parts
pub with_all_twice : (set : List Bool) (offset m n : ℕ) → offset + m + n ≤ length set → with_all (with_all set offset m) (offset + m) n ≡ with_all set offset (m + n)
with_all_twice set offset m n inside =
    let one = with_all set offset m in
    let long : length one ≡ length set = length-with_all set offset m (omega arith) in
    let room : offset + m + n ≤ length one = omega arith in
    let first : offset + m ≤ length set = omega arith in
    with_all_by set offset (m + n) (omega arith) (with_all one (offset + m) n) (length-with_all one (offset + m) n room ∙ long)
    (λ k below. with_all_below one (offset + m) n room k (omega arith) ∙ with_all_below set offset m first k below)
    (λ k from to. elim (cases_lt k (offset + m)) [
      | inl low ↦ with_all_below one (offset + m) n room k low ∙ with_all_inside set offset m first k from low
      | inr high ↦ with_all_inside one (offset + m) n room k high (omega arith)
    ])
    (λ k above less. with_all_above one (offset + m) n room k (omega arith) ∙ with_all_above set offset m first k (omega arith))

pub with_all_none : (set : List Bool) (offset : ℕ) → with_all set offset 0 ≡ set
unfolding with_all
with_all_none set offset =
    ap (λ (xs : List Bool). xs ++ drop (offset + 0) set) (append-nil (take offset set))
    ∙ ap (λ (n : ℕ). take offset set ++ drop n set) (add-zero offset)
    ∙ take-append-drop offset set

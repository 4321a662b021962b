-- Differences of two lists that are gathered word by word: there is none exactly where the lists are the same.
use Rattle.std.proofs.Common.{◌≡◌, ℕ, ◌+◌, ◌<◌, ◌≤◌, List, length, take, ap, sym, subst, ◌∙◌, arith}
use Rattle.std.specs.Prelude.{bit_or, slice_index}
use Rattle.std.specs.Int.{bit_at}
use Rattle.std.specs.Int.RustNames.{bit_xor}
use Rattle.std.proofs.lemmas.Nat.Bits.{bit_at_or, bit_at_xor, bit_at-lt, bit_at-zero, same_from_bits}
use Rattle.std.proofs.lemmas.List.{take_more_same, take-take, get_or-take, take_all}
use Rattle.std.specs.Int.Bits.{xor_self}

none_left : (a b : ℕ) → bit_or a b ≡ 0 → a ≡ 0
none_left a b none = same_from_bits a 0 (λ i. omega (arith, bit_at_or a b i, ap (λ (n : ℕ). bit_at n i) none, bit_at-zero i))

none_right : (a b : ℕ) → bit_or a b ≡ 0 → b ≡ 0
none_right a b none = same_from_bits b 0 (λ i. omega (arith, bit_at_or a b i, ap (λ (n : ℕ). bit_at n i) none, bit_at-zero i))

one_number : (a b : ℕ) → bit_xor a b ≡ 0 → a ≡ b
one_number a b none = same_from_bits a b (λ i. omega (arith, bit_at_xor a b i, ap (λ (n : ℕ). bit_at n i) none, bit_at-zero i, bit_at-lt a i, bit_at-lt b i))

-- what was gathered of the words before k
abbrev pub Gathered : List ℕ → List ℕ → ℕ → ℕ → Type 0
Gathered xs ys k differences = (differences ≡ 0 → take k xs ≡ take k ys) × (take k xs ≡ take k ys → differences ≡ 0)

-- one word more
pub gathered_more : (xs ys : List ℕ) (k differences : ℕ) → k < length xs → k < length ys → Gathered xs ys k differences → Gathered xs ys (k + 1) (bit_or differences (bit_xor (slice_index xs k) (slice_index ys k)))
gathered_more xs ys k differences in_xs in_ys so_far =
    let here = bit_xor (slice_index xs k) (slice_index ys k) in (
      λ none. take_more_same xs ys k 0 in_xs in_ys (so_far.0 (none_left differences here none)) (one_number (slice_index xs k) (slice_index ys k) (none_right differences here none)),
      λ same.
          let before : take k xs ≡ take k ys = sym (take-take k (k + 1) xs (omega arith)) ∙ (ap (take k) same ∙ take-take k (k + 1) ys (omega arith)) in
          let word : slice_index xs k ≡ slice_index ys k = sym (get_or-take (k + 1) xs k 0 (omega arith)) ∙ (ap (λ (l : List ℕ). slice_index l k) same ∙ get_or-take (k + 1) ys k 0 (omega arith)) in
          let none : here ≡ 0 = subst (λ (n : ℕ). bit_xor (slice_index xs k) n ≡ 0) word (xor_self (slice_index xs k)) in
          ap (λ (n : ℕ). bit_or n here) (so_far.1 before) ∙ ap (λ (n : ℕ). bit_or 0 n) none,
    )

-- and all of them
pub gathered_all : (xs ys : List ℕ) (k differences : ℕ) → length xs ≤ k → length xs ≡ length ys → Gathered xs ys k differences → (differences ≡ 0 → xs ≡ ys) × (xs ≡ ys → differences ≡ 0)
gathered_all xs ys k differences end long gathered =
    let all_xs = take_all k xs end in
    let all_ys = take_all k ys (omega (arith, end, long)) in (
      λ none. sym all_xs ∙ (gathered.0 none ∙ all_ys),
      λ same. gathered.1 (ap (take k) same),
    )

-- The words of a set: which bit is which byte, and that a set has one form.
use Rattle.std.proofs.Common.{◌≡◌, ◌≢◌, ℕ, zero, suc, ◌+◌, ◌*◌, ◌/◌, ◌%◌, ◌^◌, ◌<◌, ◌≤◌, Bool, true, false, List, [], ◌∷◌, length, take, drop, replicate, get_or, set, min, refl, ap, sym, ◌∙◌, arith, inl, inr, ◌⊎◌, subst}
use Rattle.std.specs.Prelude.{◌==◌, bit_and, bit_or, slice_index, slice_index_or, ◌&&◌}
use Rattle.std.specs.Int.{bit_at}
use Rattle.std.proofs.lemmas.Bool.{cases_lt, cases_eq, eqb-true}
use Rattle.std.proofs.lemmas.List.{get_or-set_same, get_or-set_other, length-set, ext_get_or, get_or-take, get_or-drop, length-take-le, length-drop, get_or_past, get_or-replicate, length-replicate}
use Rattle.std.proofs.lemmas.List.FromFn.{get_or-map-range_with_len, length-map-range_with_len}
use Rattle.std.proofs.lemmas.Nat.Bits.{bit_at-lt, bit_at-suc, bit_at_lowest, bit_at_and}
use Rattle.std.specs.Int.Bits.{and_lt}
use Rattle.std.proofs.Math.Nat.{pow-suc}
use Rattle.bpf_stack_frame.specs.ByteSet.{HasAll, with_all}
use Rattle.bpf_stack_frame.proofs.Bits.{mask, or_inside, or_below, or_above, or_fits, and_inside, and_whole}
use Rattle.bpf_stack_frame.proofs.Sets.{with_all_by}
use Rattle.bpf_stack_frame.specs.SetWords.{has_bit, set_of, word_of, words_of, AreWords}

pub length-set_of : (words : List ℕ) → length (set_of words) ≡ 512
unfolding set_of
length-set_of words = length-map-range_with_len (has_bit words) 0 512

pub get_or-set_of : (words : List ℕ) (k : ℕ) → k < 512 → get_or (set_of words) k false ≡ has_bit words k
unfolding set_of
get_or-set_of words k below = get_or-map-range_with_len (has_bit words) 0 512 k k false below (omega arith)

-- one bit of a word that had bits added
bit_set : (words : List ℕ) (w k v b : ℕ) → k / 64 ≡ w → w < length words → bit_at v (k % 64) ≡ b → has_bit (set words w v) k ≡ (b == 1)
bit_set words w k v b place within is =
    let there : slice_index (set words w v) (k / 64) ≡ v = ap (λ (n : ℕ). slice_index (set words w v) n) place ∙ get_or-set_same words w v 0 within in
    ap (λ (n : ℕ). bit_at n (k % 64) == 1) there ∙ ap (λ (n : ℕ). n == 1) is

other_word : (words : List ℕ) (w k v : ℕ) → k / 64 ≢ w → has_bit (set words w v) k ≡ has_bit words k
other_word words w k v apart = ap (λ (n : ℕ). bit_at n (k % 64) == 1) (get_or-set_other words w (k / 64) v 0 apart)

-- the words with the bits of bytes that lie in one word
abbrev pub added : List ℕ → ℕ → ℕ → List ℕ
added words offset count = set words (offset / 64) (bit_or (slice_index words (offset / 64)) (mask (offset % 64) count))

module _ (words : List ℕ) (offset count : ℕ) (eight : length words ≡ 8) (inside : offset < 512) (in_word : offset % 64 + count ≤ 64) where
  within : offset / 64 < length words
  within = omega arith

  outside : (k : ℕ) → (k < offset) ⊎ (offset + count ≤ k) → has_bit (added words offset count) k ≡ has_bit words k
  outside k away = elim (cases_eq (k / 64) (offset / 64)) [
    | inr apart ↦ other_word words (offset / 64) k (bit_or (slice_index words (offset / 64)) (mask (offset % 64) count)) apart
    | inl same ↦ elim away [
      | inl below ↦
          bit_set words (offset / 64) k (bit_or (slice_index words (offset / 64)) (mask (offset % 64) count)) (bit_at (slice_index words (offset / 64)) (k % 64)) same within (or_below (slice_index words (offset / 64)) (offset % 64) count (k % 64) (omega arith))
          ∙ ap (λ (n : ℕ). bit_at (slice_index words n) (k % 64) == 1) (sym same)
      | inr above ↦
          bit_set words (offset / 64) k (bit_or (slice_index words (offset / 64)) (mask (offset % 64) count)) (bit_at (slice_index words (offset / 64)) (k % 64)) same within (or_above (slice_index words (offset / 64)) (offset % 64) count (k % 64) (omega arith))
          ∙ ap (λ (n : ℕ). bit_at (slice_index words n) (k % 64) == 1) (sym same)
    ]
  ]

  is_added : (k : ℕ) → offset ≤ k → k < offset + count → has_bit (added words offset count) k ≡ true
  is_added k from to =
      bit_set words (offset / 64) k (bit_or (slice_index words (offset / 64)) (mask (offset % 64) count)) 1 (omega arith) within (or_inside (slice_index words (offset / 64)) (offset % 64) count (k % 64) (omega arith) (omega arith))

  pub set_of-added : set_of (added words offset count) ≡ with_all (set_of words) offset count
  set_of-added =
      let long : length (set_of words) ≡ 512 = length-set_of words in
      with_all_by (set_of words) offset count (omega arith) (set_of (added words offset count)) (length-set_of (added words offset count) ∙ sym long)
      (λ k below. get_or-set_of (added words offset count) k (omega arith) ∙ outside k (inl below) ∙ sym (get_or-set_of words k (omega arith)))
      (λ k from to. get_or-set_of (added words offset count) k (omega arith) ∙ is_added k from to)
      (λ k above less. get_or-set_of (added words offset count) k (omega arith) ∙ outside k (inr above) ∙ sym (get_or-set_of words k (omega arith)))

not_one : (n : ℕ) → n < 2 → (n == 1) ≡ false → n ≡ 0
not_one zero small no_one = refl
not_one (suc zero) small no_one = absurd (cc)
not_one (suc (suc n)) small no_one = absurd (omega arith)

-- the word that bits spell
word_of-bits : (bits : List Bool) (word : ℕ) → word < 2 ^ length bits → ((i : ℕ) → i < length bits → get_or bits i false ≡ (bit_at word i == 1)) → word_of bits ≡ word
word_of-bits [] word fits same = omega arith
word_of-bits (true ∷ bits) word fits same =
    let low : word % 2 ≡ 1 = sym (bit_at_lowest word) ∙ eqb-true (bit_at word 0) 1 (sym (same 0 (omega arith))) in
    let high : word_of bits ≡ word / 2 = word_of-bits bits (word / 2) (omega (arith, pow-suc 2 (length bits))) (λ i less. same (suc i) (omega arith) ∙ ap (λ (n : ℕ). n == 1) (bit_at-suc word i)) in
    omega arith
word_of-bits (false ∷ bits) word fits same =
    let low : word % 2 ≡ 0 = sym (bit_at_lowest word) ∙ not_one (bit_at word 0) (bit_at-lt word 0) (sym (same 0 (omega arith))) in
    let high : word_of bits ≡ word / 2 = word_of-bits bits (word / 2) (omega (arith, pow-suc 2 (length bits))) (λ i less. same (suc i) (omega arith) ∙ ap (λ (n : ℕ). n == 1) (bit_at-suc word i)) in
    omega arith

-- the bits of one word of a set
word_there : (words : List ℕ) (k : ℕ) → k < 8 → slice_index words k < 2 ^ 64 → word_of (take 64 (drop (64 * k) (set_of words))) ≡ slice_index words k
word_there words k below fits =
    let bits = take 64 (drop (64 * k) (set_of words)) in
    let long : length bits ≡ 64 = length-take-le 64 (drop (64 * k) (set_of words)) (omega (arith, length-drop (64 * k) (set_of words), length-set_of words)) in
    word_of-bits bits (slice_index words k) (let P : ℕ → Type 0 = λ n. slice_index words k < 2 ^ n in subst P (sym long) fits)
    (λ i less.
    let near : i < 64 = omega arith in
    let place : (64 * k + i) / 64 ≡ k = omega arith in
    let bit : (64 * k + i) % 64 ≡ i = omega arith in
    get_or-take 64 (drop (64 * k) (set_of words)) i false near
    ∙ get_or-drop (64 * k) (set_of words) i false
    ∙ get_or-set_of words (64 * k + i) (omega arith)
    ∙ ap (λ (n : ℕ). bit_at (slice_index words n) ((64 * k + i) % 64) == 1) place
    ∙ ap (λ (n : ℕ). bit_at (slice_index words k) n == 1) bit)

-- a set has one form
pub are_words : (words : List ℕ) → length words ≡ 8 → ((k : ℕ) → slice_index words k < 2 ^ 64) → AreWords words
unfolding words_of
are_words words eight fit = record {
  count = eight;
  fit = fit;
  same = ext_get_or 0 (words_of (set_of words)) words (length-map-range_with_len (the_word words) 0 8 ∙ sym eight) (λ k less. each k (omega (arith, length-map-range_with_len (the_word words) 0 8)));
}
  where
    the_word : List ℕ → ℕ → ℕ
    the_word words k = word_of (take 64 (drop (64 * k) (set_of words)))

    each : (k : ℕ) → k < 8 → get_or (words_of (set_of words)) k 0 ≡ get_or words k 0
    each k below = get_or-map-range_with_len (the_word words) 0 8 k k 0 below (omega arith) ∙ word_there words k below (fit k)

pub added_kept : (words : List ℕ) (offset count : ℕ) → AreWords words → offset < 512 → offset % 64 + count ≤ 64 → AreWords (added words offset count)
added_kept words offset count are inside in_word =
    are_words (added words offset count) (length-set words (offset / 64) new ∙ are.count) fits
  where
    new : ℕ
    new = bit_or (slice_index words (offset / 64)) (mask (offset % 64) count)

    Fits64 : ℕ → Type 0
    Fits64 n = n < 2 ^ 64

    fits : (k : ℕ) → Fits64 (slice_index (added words offset count) k)
    fits k = elim (cases_eq k (offset / 64)) [
      | inr apart ↦ subst Fits64 (sym (get_or-set_other words (offset / 64) k new 0 apart)) (are.fit k)
      | inl same ↦ subst (λ (n : ℕ). Fits64 (slice_index (added words offset count) n)) (sym same)
          (subst Fits64 (sym (get_or-set_same words (offset / 64) new 0 (omega (arith, are.count)))) (or_fits (slice_index words (offset / 64)) (offset % 64) count (are.fit (offset / 64)) in_word))
    ]

-- bytes that lie in one word are all there, where and with their mask is the mask
module _ (words : List ℕ) (offset count : ℕ) (inside : offset < 512) (in_word : offset % 64 + count ≤ 64) where
  pub has_all : bit_and (slice_index words (offset / 64)) (mask (offset % 64) count) ≡ mask (offset % 64) count → HasAll (set_of words) offset count
  has_all whole k from to =
      let place : k / 64 ≡ offset / 64 = omega arith in
      let bit : bit_at (slice_index words (k / 64)) (k % 64) ≡ 1 =
      ap (λ (n : ℕ). bit_at (slice_index words n) (k % 64)) place ∙ and_inside (slice_index words (offset / 64)) (offset % 64) count (k % 64) whole (omega arith) (omega arith) in
      get_or-set_of words k (omega arith) ∙ ap (λ (n : ℕ). n == 1) bit

  pub all_whole : HasAll (set_of words) offset count → bit_and (slice_index words (offset / 64)) (mask (offset % 64) count) ≡ mask (offset % 64) count
  all_whole all = and_whole (slice_index words (offset / 64)) (offset % 64) count each
    where
      each : (i : ℕ) → offset % 64 ≤ i → i < offset % 64 + count → bit_at (slice_index words (offset / 64)) i ≡ 1
      each i from to =
          let k = 64 * (offset / 64) + i in
          let place : k / 64 ≡ offset / 64 = omega arith in
          let bit : k % 64 ≡ i = omega arith in
          let is : has_bit words k ≡ true = sym (get_or-set_of words k (omega arith)) ∙ all k (omega arith) (omega arith) in
          ap (λ (n : ℕ). bit_at (slice_index words n) i) (sym place)
          ∙ ap (λ (n : ℕ). bit_at (slice_index words (k / 64)) n) (sym bit)
          ∙ eqb-true (bit_at (slice_index words (k / 64)) (k % 64)) 1 is

-- the and of two words has the bits of both
one_and : (a b : ℕ) → a < 2 → b < 2 → (min a b == 1) ≡ ((a == 1) && (b == 1))
one_and zero zero p q = refl
one_and zero (suc zero) p q = refl
one_and (suc zero) zero p q = refl
one_and (suc zero) (suc zero) p q = refl
one_and (suc (suc a)) b p q = absurd (omega arith)
one_and a (suc (suc b)) p q = absurd (omega arith)

pub has_both : (xs ys both : List ℕ) (k : ℕ) → slice_index both (k / 64) ≡ bit_and (slice_index xs (k / 64)) (slice_index ys (k / 64)) → has_bit both k ≡ (has_bit xs k && has_bit ys k)
has_both xs ys both k is =
    let a = bit_at (slice_index xs (k / 64)) (k % 64) in
    let b = bit_at (slice_index ys (k / 64)) (k % 64) in
    ap (λ (n : ℕ). bit_at n (k % 64) == 1) is
    ∙ ap (λ (n : ℕ). n == 1) (bit_at_and (slice_index xs (k / 64)) (slice_index ys (k / 64)) (k % 64))
    ∙ one_and a b (bit_at-lt (slice_index xs (k / 64)) (k % 64)) (bit_at-lt (slice_index ys (k / 64)) (k % 64))

module _ (xs ys both : List ℕ) (is : (j : ℕ) → j < 8 → slice_index both j ≡ bit_and (slice_index xs j) (slice_index ys j)) where
  pub set_of-both : (k : ℕ) → slice_index_or (set_of both) k false ≡ (slice_index_or (set_of xs) k false && slice_index_or (set_of ys) k false)
  set_of-both k = elim (cases_lt k 512) [
    | inl inside ↦
        get_or-set_of both k inside
        ∙ has_both xs ys both k (is (k / 64) (omega arith))
        ∙ ap (λ (b : Bool). b && has_bit ys k) (sym (get_or-set_of xs k inside))
        ∙ ap (λ (b : Bool). slice_index_or (set_of xs) k false && b) (sym (get_or-set_of ys k inside))
    | inr past ↦
        get_or_past (set_of both) k false (omega (arith, length-set_of both))
        ∙ ap (λ (b : Bool). b && slice_index_or (set_of ys) k false) (sym (get_or_past (set_of xs) k false (omega (arith, length-set_of xs))))
  ]

  pub both_kept : length both ≡ 8 → AreWords xs → AreWords ys → AreWords both
  both_kept eight are are_too = are_words both eight fits
    where
      fits : (k : ℕ) → slice_index both k < 2 ^ 64
      fits k = elim (cases_lt k 8) [
        | inl inside ↦ (let P : ℕ → Type 0 = λ n. n < 2 ^ 64 in subst P (sym (is k inside)) (and_lt 64 (slice_index xs k) (slice_index ys k) (are.fit k) (are_too.fit k)))
        | inr past ↦ (let P : ℕ → Type 0 = λ n. n < 2 ^ 64 in subst P (sym (get_or_past both k 0 (omega arith))) (omega arith))
      ]

-- no byte
zero_word : (k : ℕ) → slice_index (replicate 8 0) k ≡ 0
zero_word k = elim (cases_lt k 8) [
  | inl inside ↦ get_or-replicate 8 k 0 0 inside
  | inr past ↦ get_or_past (replicate 8 0) k 0 (omega (arith, length-replicate {A = ℕ} 8 0))
]

pub empty_kept : AreWords (replicate 8 0)
empty_kept = are_words (replicate 8 0) (length-replicate {A = ℕ} 8 0) (λ k. let P : ℕ → Type 0 = λ n. n < 2 ^ 64 in subst P (sym (zero_word k)) (omega arith))

pub set_of-empty : set_of (replicate 8 0) ≡ replicate 512 false
unfolding set_of
set_of-empty = refl

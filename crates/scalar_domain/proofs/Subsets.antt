-- Bits of one word among those of another.
use Rattle.std.proofs.Common.{◌≡◌, ℕ, ◌+◌, ◌-◌, ◌*◌, ◌/◌, ◌%◌, ◌^◌, ◌<◌, ◌≤◌, ap, sym, ◌∙◌, subst, arith, bit_and, bit_or, bit_xor, min, add-zero}
use Rattle.std.specs.Int.{w64, bit_at}
use Rattle.std.proofs.lemmas.Bool.{cases_lt, cases_eq}
use Rattle.std.proofs.lemmas.Nat.{and_le_l, and_le_r, le-div, pow_pos, shr-shr, shr_split, xor_shr, leading_length, leading_le, one_shl}
use lib.Count.{count_leading_zeros, count_trailing_zeros}
use Rattle.std.proofs.Math.Nat.{div-eq_of_lt, div-mul-le_self}
use Rattle.std.proofs.lemmas.Nat.Bits.{bit_at-zero, bit_at_ones, bit_at_above, bit_at_and, bit_at_or, bit_at_xor, same_from_bits, bit_at-pow_same, bit_at-pow_other, bit_at-trailing_zeros, bit_at_mask_below, bit_at_mask_inside, bit_at_not, bit_at_cat_low, bit_at_cat_high, ones_shr}
use mathlib.Core.Logic.{⊎_elim}
use Rattle.scalar_domain.specs.Scalar.{Subset}

pub none_in : (w : ℕ) → Subset 0 w
none_in w = record { bit = λ i. omega (arith, bit_at-zero i) }

pub in_all : (w : ℕ) → w < 2 ^ 64 → Subset w (2 ^ 64 - 1)
in_all w fits = record { bit = λ i. ⊎_elim (λ lt. omega (arith, bit_at_ones 64 i lt)) (λ le. omega (arith, bit_at_above w 64 i fits le)) (cases_lt i 64) }

pub whole : (w : ℕ) → Subset w w
whole w = record { bit = λ i. omega arith }

pub through : (a b c : ℕ) → Subset a b → Subset b c → Subset a c
through a b c p q = record { bit = λ i. omega (arith, p.bit i, q.bit i) }

-- bits of both words are in a third word where those of each are
pub both_in : (a b w : ℕ) → Subset a w → Subset b w → Subset (bit_or a b) w
both_in a b w p q = record { bit = λ i. omega (arith, bit_at_or a b i, p.bit i, q.bit i) }

pub in_both : (a b w : ℕ) → Subset w a → Subset w b → Subset w (bit_and a b)
in_both a b w p q = record { bit = λ i. omega (arith, bit_at_and a b i, p.bit i, q.bit i) }

pub left_in_or : (a b : ℕ) → Subset a (bit_or a b)
left_in_or a b = record { bit = λ i. omega (arith, bit_at_or a b i) }

pub right_in_or : (a b : ℕ) → Subset b (bit_or a b)
right_in_or a b = record { bit = λ i. omega (arith, bit_at_or a b i) }

pub and_in_left : (a b : ℕ) → Subset (bit_and a b) a
and_in_left a b = record { bit = λ i. omega (arith, bit_at_and a b i) }

pub and_in_right : (a b : ℕ) → Subset (bit_and a b) b
and_in_right a b = record { bit = λ i. omega (arith, bit_at_and a b i) }

-- a word with more bits is no less
pub subset_le : (a b : ℕ) → Subset a b → a ≤ b
subset_le a b p = subst (λ (n : ℕ). n ≤ b) (same_from_bits (bit_and a b) a (λ i. omega (arith, bit_at_and a b i, p.bit i))) (and_le_r a b)

pub and_subset : (a b x y : ℕ) → Subset a x → Subset b y → Subset (bit_and a b) (bit_and x y)
and_subset a b x y p q = record { bit = λ i. omega (arith, bit_at_and a b i, bit_at_and x y i, p.bit i, q.bit i) }

pub or_subset : (a b x y : ℕ) → Subset a x → Subset b y → Subset (bit_or a b) (bit_or x y)
or_subset a b x y p q = record { bit = λ i. omega (arith, bit_at_or a b i, bit_at_or x y i, p.bit i, q.bit i) }

-- The bits from m on are alike in all words between two that differ below m alone.
bits_above : (n m i : ℕ) → m ≤ i → bit_at n i ≡ bit_at (n / 2 ^ m) (i - m)
bits_above n m i le =
    let e : i ≡ m + (i - m) = omega arith in
    ap (bit_at n) e ∙ ap (λ x. x % 2) (sym (shr-shr n m (i - m)))

same_top : (l t m : ℕ) → bit_xor l t < 2 ^ m → l / 2 ^ m ≡ t / 2 ^ m
same_top l t m small =
    let none : bit_xor (l / 2 ^ m) (t / 2 ^ m) ≡ 0 = sym (xor_shr l t m) ∙ div-eq_of_lt small in
    same_from_bits _ _ (λ i. omega (arith, bit_at_xor (l / 2 ^ m) (t / 2 ^ m) i, ap (λ x. bit_at x i) none, bit_at-zero i))

pub quotient_le : (a b m : ℕ) → a ≤ b → a / 2 ^ m ≤ b / 2 ^ m
quotient_le a b m le = le-div (a / 2 ^ m) b (2 ^ m) (pow_pos m) (omega (arith, div-mul-le_self a (2 ^ m)))

top_of_between : (l t w m : ℕ) → bit_xor l t < 2 ^ m → l ≤ w → w ≤ t → l / 2 ^ m ≡ w / 2 ^ m
top_of_between l t w m small from to =
    let same = same_top l t m small in
    omega (arith, same, quotient_le l w m from, quotient_le w t m to)

pub common_must : (l t w m : ℕ) → m ≤ 64 → l < 2 ^ 64 → bit_xor l t < 2 ^ m → l ≤ w → w ≤ t → Subset (bit_and l (2 ^ 64 - 1 - (2 ^ m - 1))) w
common_must l t w m within fits small from to =
    let top = top_of_between l t w m small from to in
    let mask : 2 ^ 64 - 1 - (2 ^ m - 1) ≡ 2 ^ 64 - 2 ^ m = omega (arith, pow_pos m) in
    record {
      bit = λ i. ⊎_elim
          (λ lt. omega (arith, bit_at_and l (2 ^ 64 - 1 - (2 ^ m - 1)) i, ap (λ x. bit_at x i) mask, bit_at_mask_below m 64 i lt))
          (λ le. omega (arith, bit_at_and l (2 ^ 64 - 1 - (2 ^ m - 1)) i, bits_above l m i le, bits_above w m i le, ap (λ x. bit_at x (i - m)) top))
          (cases_lt i m);
    }

pub common_may : (l t w m : ℕ) → bit_xor l t < 2 ^ m → l ≤ w → w ≤ t → Subset w (bit_or t (2 ^ m - 1))
common_may l t w m small from to =
    let top : w / 2 ^ m ≡ t / 2 ^ m = sym (top_of_between l t w m small from to) ∙ same_top l t m small in
    record {
      bit = λ i. ⊎_elim
          (λ lt. omega (arith, bit_at_or t (2 ^ m - 1) i, bit_at_ones m i lt))
          (λ le. omega (arith, bit_at_or t (2 ^ m - 1) i, bits_above t m i le, bits_above w m i le, ap (λ x. bit_at x (i - m)) top))
          (cases_lt i m);
    }

-- `leading_zeros` of a word that is not 0 leaves as many ones as the word has bits
pub ones_left : (word : ℕ) → word < 2 ^ 64 → (word ≡ 0 → ⊥) → (m : ℕ) × (m ≤ 64) × (word < 2 ^ m) × ((2 ^ 64 - 1) / 2 ^ count_leading_zeros 64 word ≡ 2 ^ m - 1)
ones_left word fits some =
    let top = leading_length 64 word fits in
    let m = top.0 in
    let rest : 64 - count_leading_zeros 64 word ≡ m = omega (arith, top.1) in
    (m, omega (arith, top.1), top.2, ones_shr 64 (count_leading_zeros 64 word) (leading_le 64 word) ∙ ap (λ (k : ℕ). 2 ^ k - 1) rest)

-- bits of a word that are not in a mask
without : (a y i : ℕ) → y < 2 ^ 64 → i < 64 → bit_at (bit_and a (2 ^ 64 - 1 - y)) i ≡ min (bit_at a i) (1 - bit_at y i)
without a y i fits less = bit_at_and a (2 ^ 64 - 1 - y) i ∙ ap (min (bit_at a i)) (bit_at_not w64 y i fits less)

-- bits that just one of two words has, where x and y bound the first from below and above, and u and v the second
pub xor_must : (x y u v a b : ℕ) → y < 2 ^ 64 → v < 2 ^ 64 → x < 2 ^ 64 → u < 2 ^ 64 → Subset x a → Subset a y → Subset u b → Subset b v → Subset (bit_or (bit_and x (2 ^ 64 - 1 - v)) (bit_and u (2 ^ 64 - 1 - y))) (bit_xor a b)
xor_must x y u v a b fits_y fits_v fits_x fits_u p q r s =
    let left = bit_and x (2 ^ 64 - 1 - v) in
    let right = bit_and u (2 ^ 64 - 1 - y) in
    record {
      bit = λ i. ⊎_elim
          (λ lt. omega (arith, bit_at_or left right i, without x v i fits_v lt, without u y i fits_y lt, bit_at_xor a b i, p.bit i, q.bit i, r.bit i, s.bit i))
          (λ le. omega (arith, bit_at_or left right i, bit_at_and x (2 ^ 64 - 1 - v) i, bit_at_and u (2 ^ 64 - 1 - y) i, bit_at_above x 64 i fits_x le, bit_at_above u 64 i fits_u le))
          (cases_lt i 64);
    }

pub xor_may : (x y u v a b : ℕ) → x < 2 ^ 64 → a < 2 ^ 64 → b < 2 ^ 64 → Subset x a → Subset a y → Subset u b → Subset b v → Subset (bit_xor a b) (bit_and (bit_or y v) (2 ^ 64 - 1 - bit_and x u))
xor_may x y u v a b fits_x fits_a fits_b p q r s =
    let fits : bit_and x u < 2 ^ 64 = omega (arith, and_le_l x u) in
    record {
      bit = λ i. ⊎_elim
          (λ lt. omega (arith, without (bit_or y v) (bit_and x u) i fits lt, bit_at_or y v i, bit_at_and x u i, bit_at_xor a b i, p.bit i, q.bit i, r.bit i, s.bit i))
          (λ le. omega (arith, bit_at_xor a b i, bit_at_above a 64 i fits_a le, bit_at_above b 64 i fits_b le))
          (cases_lt i 64);
    }

-- bits of a word cut to its low bits
pub bits_cut : (k n i : ℕ) → i < k → bit_at (n % 2 ^ k) i ≡ bit_at n i
bits_cut k n i less = sym (ap (λ x. bit_at x i) (sym (shr_split n k)) ∙ bit_at_cat_low (n / 2 ^ k) k (n % 2 ^ k) i less)

-- and shifted left
bits_left : (n k i : ℕ) → k ≤ i → bit_at (n * 2 ^ k) i ≡ bit_at n (i - k)
bits_left n k i le = ap (λ x. bit_at x i) (sym (add-zero (n * 2 ^ k))) ∙ bit_at_cat_high n k 0 i (pow_pos k) le

no_bits_left : (n k i : ℕ) → i < k → bit_at (n * 2 ^ k) i ≡ 0
no_bits_left n k i lt = ap (λ x. bit_at x i) (sym (add-zero (n * 2 ^ k))) ∙ bit_at_cat_low n k 0 i lt ∙ bit_at-zero i

pub left_subset : (a b k : ℕ) → Subset a b → Subset (a * 2 ^ k % 2 ^ 64) (b * 2 ^ k % 2 ^ 64)
left_subset a b k p = record {
  bit = λ i. ⊎_elim
      (λ lt. ⊎_elim
      (λ low. omega (arith, bits_cut 64 (a * 2 ^ k) i lt, no_bits_left a k i low))
      (λ high. omega (arith, bits_cut 64 (a * 2 ^ k) i lt, bits_cut 64 (b * 2 ^ k) i lt, bits_left a k i high, bits_left b k i high, p.bit (i - k)))
      (cases_lt i k))
      (λ le. omega (arith, bit_at_above (a * 2 ^ k % 2 ^ 64) 64 i (omega arith) le))
      (cases_lt i 64);
}

-- and right
bits_right : (n k i : ℕ) → bit_at (n / 2 ^ k) i ≡ bit_at n (k + i)
bits_right n k i = ap (λ x. x % 2) (shr-shr n k i)

pub right_subset : (a b k : ℕ) → Subset a b → Subset (a / 2 ^ k) (b / 2 ^ k)
right_subset a b k p = record { bit = λ i. omega (arith, bits_right a k i, bits_right b k i, p.bit (k + i)) }

-- the bits of a word by those of its low half
pub must_by_low : (a w : ℕ) → Subset a (w % 2 ^ 32) → Subset (a % 2 ^ 32) w
must_by_low a w p = record {
  bit = λ i. ⊎_elim
      (λ lt. omega (arith, bits_cut 32 a i lt, bits_cut 32 w i lt, p.bit i))
      (λ le. omega (arith, bit_at_above (a % 2 ^ 32) 32 i (omega arith) le))
      (cases_lt i 32);
}

pub may_by_low : (b w : ℕ) → w < 2 ^ 64 → Subset (w % 2 ^ 32) b → Subset w (bit_or b (2 ^ 64 - 2 ^ 32))
may_by_low b w fits p = record {
  bit = λ i. ⊎_elim
      (λ lt. omega (arith, bits_cut 32 w i lt, bit_at_or b (2 ^ 64 - 2 ^ 32) i, p.bit i))
      (λ le. ⊎_elim
      (λ lt. omega (arith, bit_at_or b (2 ^ 64 - 2 ^ 32) i, bit_at_mask_inside 32 64 i le lt))
      (λ above. omega (arith, bit_at_above w 64 i fits above))
      (cases_lt i 64))
      (cases_lt i 32);
}

-- a word with no bits of a mask has the others alone
pub left_without : (y n w : ℕ) → w < 2 ^ 64 → n < 2 ^ 64 → Subset w y → bit_and w n ≡ 0 → Subset w (bit_and y (2 ^ 64 - 1 - n))
left_without y n w fits fits_n p none = record {
  bit = λ i. ⊎_elim
      (λ lt. omega (arith, without y n i fits_n lt, p.bit i, bit_at_and w n i, ap (λ x. bit_at x i) none, bit_at-zero i))
      (λ le. omega (arith, bit_at_above w 64 i fits le))
      (cases_lt i 64);
}

pub must_in_may : (x y w : ℕ) → Subset x w → Subset w y → bit_and x y ≡ x
must_in_may x y w p q = same_from_bits _ _ (λ i. omega (arith, bit_at_and x y i, p.bit i, q.bit i))

pub no_common : (a b n : ℕ) → Subset n b → bit_and a b ≡ 0 → bit_and a n ≡ 0
no_common a b n p none = omega (arith, subset_le (bit_and a n) (bit_and a b) (and_subset a n a b (whole a) p))

pub none_common : (a b x y : ℕ) → Subset a x → Subset b y → bit_and x y ≡ 0 → bit_and a b ≡ 0
none_common a b x y p q none = omega (arith, subset_le (bit_and a b) (bit_and x y) (and_subset a b x y p q))

-- where two words have a bit in common, and only one may be that, both have it
only_bit : (n t i : ℕ) → Subset n (2 ^ t) → bit_at n t ≡ 0 → bit_at n i ≡ 0
only_bit n t i p none = ⊎_elim (λ e. ap (bit_at n) e ∙ none) (λ apart. omega (arith, p.bit i, bit_at-pow_other t i apart)) (cases_eq i t)

pub common_bit : (a b t : ℕ) → Subset (bit_and a b) (2 ^ t) → (bit_and a b ≡ 0 → ⊥) → Subset (2 ^ t) a
common_bit a b t p some =
    let has : 1 ≤ bit_at a t = ⊎_elim
    (λ lt. absurd (some (same_from_bits _ _ (λ i. only_bit (bit_and a b) t i p (omega arith) ∙ sym (bit_at-zero i)))))
    (λ ge. omega (arith, bit_at_and a b t))
    (cases_lt (bit_at (bit_and a b) t) 1) in
    record {
      bit = λ i. ⊎_elim
          (λ e. omega (arith, ap (bit_at (2 ^ t)) e, ap (bit_at a) e, bit_at-pow_same t))
          (λ apart. omega (arith, bit_at-pow_other t i apart))
          (cases_eq i t);
    }

pub single_bit : (n : ℕ) → n < 2 ^ 64 → (n ≡ 0 → ⊥) → n ≡ 1 * 2 ^ count_trailing_zeros 64 n % 2 ^ 64 → n ≡ 2 ^ count_trailing_zeros 64 n
single_bit n fits some is = is ∙ one_shl (count_trailing_zeros 64 n) 64 (bit_at-trailing_zeros w64 n (omega arith) fits).0

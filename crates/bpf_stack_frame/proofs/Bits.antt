-- A word with a run of ones, and what or and and with it make of a word's bits.
use Rattle.std.proofs.Common.{◌≡◌, ℕ, ◌+◌, ◌-◌, ◌*◌, ◌/◌, ◌%◌, ◌^◌, ◌<◌, ◌≤◌, ap, sym, ◌∙◌, arith, inl, inr}
use Rattle.std.specs.Prelude.{bit_and, bit_or}
use Rattle.std.specs.Int.{bit_at}
use Rattle.std.proofs.lemmas.Bool.{cases_lt}
use Rattle.std.proofs.lemmas.Nat.Bits.{bit_at_and, bit_at_or, bit_at-lt, bit_at_mask_inside, bit_at_mask_below, bit_at_mask_above, ones_shr, same_from_bits}
use Rattle.std.proofs.lemmas.Nat.{or_lt}
use Rattle.std.proofs.Math.Nat.{pow-le-pow_right, one-le-pow, mod-eq_of_lt}
use lib.Pow.{high_ones}

-- the mask of so many bits from one on
abbrev pub mask : ℕ → ℕ → ℕ
mask first count = 2 ^ (first + count) - 2 ^ first

pub or_inside : (word first count i : ℕ) → first ≤ i → i < first + count → bit_at (bit_or word (mask first count)) i ≡ 1
or_inside word first count i from to =
    omega (arith, bit_at_or word (mask first count) i, bit_at_mask_inside first (first + count) i from to, bit_at-lt word i)

pub or_below : (word first count i : ℕ) → i < first → bit_at (bit_or word (mask first count)) i ≡ bit_at word i
or_below word first count i below =
    omega (arith, bit_at_or word (mask first count) i, bit_at_mask_below first (first + count) i below)

pub or_above : (word first count i : ℕ) → first + count ≤ i → bit_at (bit_or word (mask first count)) i ≡ bit_at word i
or_above word first count i above =
    omega (arith, bit_at_or word (mask first count) i, bit_at_mask_above first (first + count) i above)

-- all of the mask's bits are there, where and with the mask is the mask
pub and_inside : (word first count i : ℕ) → bit_and word (mask first count) ≡ mask first count → first ≤ i → i < first + count → bit_at word i ≡ 1
and_inside word first count i whole from to =
    let there = bit_at_and word (mask first count) i in
    let same : bit_at (bit_and word (mask first count)) i ≡ bit_at (mask first count) i = ap (λ (n : ℕ). bit_at n i) whole in
    omega (arith, there, same, bit_at_mask_inside first (first + count) i from to, bit_at-lt word i)

pub and_whole : (word first count : ℕ) → ((i : ℕ) → first ≤ i → i < first + count → bit_at word i ≡ 1) → bit_and word (mask first count) ≡ mask first count
and_whole word first count all = same_from_bits (bit_and word (mask first count)) (mask first count) bit
  where
    bit : (i : ℕ) → bit_at (bit_and word (mask first count)) i ≡ bit_at (mask first count) i
    bit i = elim (cases_lt i first) [
      | inl below ↦ omega (arith, bit_at_and word (mask first count) i, bit_at_mask_below first (first + count) i below)
      | inr from ↦ elim (cases_lt i (first + count)) [
        | inl to ↦ omega (arith, bit_at_and word (mask first count) i, bit_at_mask_inside first (first + count) i from to, all i from to)
        | inr above ↦ omega (arith, bit_at_and word (mask first count) i, bit_at_mask_above first (first + count) i above)
      ]
    ]

-- ones shifted up
pub ones_is : (first count : ℕ) → first + count ≤ 64 → 0 < count → (2 ^ 64 - 1) / 2 ^ (64 - count) * 2 ^ first % 2 ^ 64 ≡ mask first count
ones_is first count fits some =
    let few : 64 - (64 - count) ≡ count = omega arith in
    let low : (2 ^ 64 - 1) / 2 ^ (64 - count) ≡ 2 ^ count - 1 = ones_shr 64 (64 - count) (omega arith) ∙ ap (λ (n : ℕ). 2 ^ n - 1) few in
    let order : count + first ≡ first + count = omega arith in
    let run : (2 ^ count - 1) * 2 ^ first ≡ mask first count = sym (high_ones count first) ∙ ap (λ (n : ℕ). 2 ^ n - 2 ^ first) order in
    let top : 2 ^ (first + count) ≤ 2 ^ 64 = pow-le-pow_right {n = 2} (omega arith) {i = first + count} {j = 64} fits in
    let one : 1 ≤ 2 ^ first = one-le-pow first 2 (omega arith) in
    ap (λ (n : ℕ). n * 2 ^ first % 2 ^ 64) low ∙ ap (λ (n : ℕ). n % 2 ^ 64) run ∙ mod-eq_of_lt (omega arith)

pub or_fits : (word first count : ℕ) → word < 2 ^ 64 → first + count ≤ 64 → bit_or word (mask first count) < 2 ^ 64
or_fits word first count fits few =
    let top : 2 ^ (first + count) ≤ 2 ^ 64 = pow-le-pow_right {n = 2} (omega arith) {i = first + count} {j = 64} few in
    let one : 1 ≤ 2 ^ first = one-le-pow first 2 (omega arith) in
    or_lt 64 word (mask first count) fits (omega arith)

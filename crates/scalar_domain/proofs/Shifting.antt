-- Where shifted words lie.
use Rattle.std.proofs.Common.{◌≡◌, ◌⊎◌, inl, inr, ℕ, suc, ◌+◌, ◌-◌, ◌*◌, ◌/◌, ◌%◌, ◌^◌, ◌<◌, ◌≤◌, ℤ, ap, sym, ◌∙◌, arith, div-le_self}
use Rattle.std.specs.Int.{w64, cast_signed, cast_unsigned, int_shr}
use Rattle.std.proofs.lemmas.Bool.{cases_lt}
use Rattle.std.proofs.lemmas.Nat.{pow_pos, pow-add, shl-shr, mul-le, le-div, div_below, div-mul-add}
use Rattle.std.proofs.Math.Nat.{div-mul-le_self}
use lib.Pow.{pow_mono}
use mathlib.Core.Logic.{⊎_elim}
use Rattle.scalar_domain.specs.Scalar.{place}
use Rattle.scalar_domain.proofs.Places.{signed_below, signed_above}

pub powers_le : (j k : ℕ) → j ≤ k → 2 ^ j ≤ 2 ^ k
powers_le j k le = pow_mono le

-- a word no greater, shifted right by no less
pub shifted_right_le : (a b j k : ℕ) → a ≤ b → k ≤ j → a / 2 ^ j ≤ b / 2 ^ k
shifted_right_le a b j k le more =
    le-div (a / 2 ^ j) b (2 ^ k) (pow_pos k) (omega (arith, div-mul-le_self a (2 ^ j), mul-le (a / 2 ^ j) (2 ^ k) (a / 2 ^ j) (2 ^ j) (omega arith) (powers_le k j more)))

-- a word that keeps its bits, shifted left
pub kept_below : (m k : ℕ) → m ≤ (2 ^ 64 - 1) / 2 ^ k → m * 2 ^ k < 2 ^ 64
kept_below m k kept = omega (arith, mul-le m (2 ^ k) ((2 ^ 64 - 1) / 2 ^ k) (2 ^ k) kept (omega arith), div-mul-le_self (2 ^ 64 - 1) (2 ^ k))

-- a word no greater, shifted left by no more
pub shifted_left_le : (a b j k : ℕ) → a ≤ b → j ≤ k → b * 2 ^ k < 2 ^ 64 → a * 2 ^ j % 2 ^ 64 ≤ b * 2 ^ k % 2 ^ 64
shifted_left_le a b j k le more fits = omega (arith, mul-le a (2 ^ j) b (2 ^ k) le (powers_le j k more))

pub shifted_left_fits : (a b j k : ℕ) → a ≤ b → j ≤ k → b * 2 ^ k < 2 ^ 64 → a * 2 ^ j < 2 ^ 64
shifted_left_fits a b j k le more fits = omega (arith, mul-le a (2 ^ j) b (2 ^ k) le (powers_le j k more))

-- the sign's bit, shifted right and back
pub sign_back : (k : ℕ) → k < 64 → 2 ^ 63 / 2 ^ k * 2 ^ k ≡ 2 ^ 63
sign_back k less =
    let split : 2 ^ 63 ≡ 2 ^ (63 - k) * 2 ^ k = let e : 63 ≡ 63 - k + k = omega arith in ap (λ j. 2 ^ j) e ∙ pow-add 2 (63 - k) k in
    ap (λ x. x / 2 ^ k * 2 ^ k) split ∙ ap (λ x. x * 2 ^ k) (shl-shr (2 ^ (63 - k)) k) ∙ sym split

-- the place of a signed word shifted left that keeps its sign: d is how far the word's place is above the least that does
place_left : (w d h p : ℕ) → h * p ≡ 2 ^ 63 → (w + h ≡ d) ⊎ (w + h ≡ d + 2 ^ 64) → d * p < 2 ^ 64 → place (w * p % 2 ^ 64) ≡ d * p
place_left w d h p sign (inl same) fits = omega (arith, ap (λ x. x * p) same)
place_left w d h p sign (inr same) fits = omega (arith, ap (λ x. x * p) same)

pub shifted_place : (w k : ℕ) → k < 64 → w < 2 ^ 64 → 2 ^ 63 - 2 ^ 63 / 2 ^ k ≤ place w → (place w - (2 ^ 63 - 2 ^ 63 / 2 ^ k)) * 2 ^ k < 2 ^ 64 → place (w * 2 ^ k % 2 ^ 64) ≡ (place w - (2 ^ 63 - 2 ^ 63 / 2 ^ k)) * 2 ^ k
shifted_place w k less fits above kept =
    let h = 2 ^ 63 / 2 ^ k in
    let within : h ≤ 2 ^ 63 = div-le_self (2 ^ 63) (2 ^ k) in
    place_left w (place w - (2 ^ 63 - h)) h (2 ^ k) (sign_back k less)
    (⊎_elim (λ lt. inl (omega arith)) (λ ge. inr (omega arith)) (cases_lt w (2 ^ 63))) kept

-- the place of a signed word shifted right
right_below : (w h p : ℕ) → 0 < p → h * p ≡ 2 ^ 63 → h ≤ 2 ^ 63 → w < 2 ^ 63 → place (w / p) ≡ (w + 2 ^ 63) / p + (2 ^ 63 - h)
right_below w h p some sign half small =
    let split : w + 2 ^ 63 ≡ (w / p + h) * p + w % p = omega (arith, sign) in
    let q : (w + 2 ^ 63) / p ≡ w / p + h = ap (λ x. x / p) split ∙ div-mul-add (w / p + h) p (w % p) (omega arith) in
    omega (arith, q, div-le_self w p)

right_above : (k h p : ℕ) → 0 < p → h * p ≡ 2 ^ 63 → h ≤ 2 ^ 63 → k < 2 ^ 63 → place (2 ^ 64 - suc (k / p)) ≡ (2 ^ 63 - suc k) / p + (2 ^ 63 - h)
right_above k h p some sign half small =
    let below : k / p < h = div_below k p h some (omega (arith, sign)) in
    let d = h - suc (k / p) in
    let more : (d + suc (k / p)) * p ≡ h * p = ap (λ x. x * p) (omega arith) in
    let split : 2 ^ 63 - suc k ≡ d * p + (p - suc (k % p)) = omega (arith, sign, more) in
    let q : (2 ^ 63 - suc k) / p ≡ d = ap (λ x. x / p) split ∙ div-mul-add d p (p - suc (k % p)) (omega arith) in
    omega (arith, q, div-le_self k p)

pub signed_right_place : (w k : ℕ) → k < 64 → w < 2 ^ 64 → place (cast_unsigned w64 (int_shr (cast_signed w64 w) k)) ≡ place w / 2 ^ k + (2 ^ 63 - 2 ^ 63 / 2 ^ k)
signed_right_place w k less fits =
    let h = 2 ^ 63 / 2 ^ k in
    let half : h ≤ 2 ^ 63 = div-le_self (2 ^ 63) (2 ^ k) in
    let shifted = λ (z : ℤ). place (cast_unsigned w64 (int_shr z k)) in
    ⊎_elim
    (λ lt.
    let at : place w ≡ w + 2 ^ 63 = omega arith in
    ap shifted (signed_below w lt) ∙ right_below w h (2 ^ k) (pow_pos k) (sign_back k less) half lt ∙ ap (λ x. x / 2 ^ k + (2 ^ 63 - h)) (sym at))
    (λ ge.
    let at : place w ≡ 2 ^ 63 - suc (2 ^ 64 - suc w) = omega arith in
    ap shifted (signed_above w ge) ∙ right_above (2 ^ 64 - suc w) h (2 ^ k) (pow_pos k) (sign_back k less) half (omega arith) ∙ ap (λ x. x / 2 ^ k + (2 ^ 63 - h)) (sym at))
    (cases_lt w (2 ^ 63))

-- and what stands for it is a word
pub right_place_fits : (m k : ℕ) → k < 64 → m < 2 ^ 64 → m / 2 ^ k + (2 ^ 63 - 2 ^ 63 / 2 ^ k) < 2 ^ 64
right_place_fits m k less fits =
    let h = 2 ^ 63 / 2 ^ k in
    omega (arith, div-le_self (2 ^ 63) (2 ^ k), div_below m (2 ^ k) (2 * h) (pow_pos k) (omega (arith, sign_back k less)))

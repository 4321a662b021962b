-- A constant of 64 bits has its two halves, and two halves make one constant.
use Rattle.std.proofs.Common.{◌≡◌, ◌<◌, ℕ, ℤ, pos, negsuc, ◌+◌, ◌*◌, ◌^◌, ◌/◌, ◌%◌, arith, ap, ◌∙◌}
use Rattle.std.specs.Int.{w32, cast_signed, cast_unsigned}
use Rattle.std.specs.Int.RustNames.{FitsSigned}
use Rattle.std.proofs.lemmas.Int.{to_z-of_z, of_z-to_z}
use Rattle.bpf_decode.specs.Kinds.{word_of}
use Rattle.bpf_decode.specs.Spells.{low_half, high_half}

fits : (z : ℤ) → FitsSigned w32 z → cast_unsigned w32 z < 2 ^ 32
fits (pos n) h = omega (arith, h.sfits)
fits (negsuc n) h = omega (arith, h.sfits)

low_part : (low high : ℕ) → low < 2 ^ 32 → (high * 2 ^ 32 + low) % 2 ^ 32 ≡ low
low_part low high h = omega arith

high_part : (low high : ℕ) → low < 2 ^ 32 → (high * 2 ^ 32 + low) / 2 ^ 32 ≡ high
high_part low high h = omega arith

pub low_of_word : (low high : ℤ) → FitsSigned w32 low → low_half (word_of low high) ≡ low
low_of_word low high h =
    ap (cast_signed w32) (low_part (cast_unsigned w32 low) (cast_unsigned w32 high) (fits low h)) ∙ to_z-of_z w32 low h

pub high_of_word : (low high : ℤ) → FitsSigned w32 low → FitsSigned w32 high → high_half (word_of low high) ≡ high
high_of_word low high h k =
    ap (cast_signed w32) (high_part (cast_unsigned w32 low) (cast_unsigned w32 high) (fits low h)) ∙ to_z-of_z w32 high k

pub word_of_halves : (value : ℕ) → value < 2 ^ 64 → word_of (low_half value) (high_half value) ≡ value
word_of_halves value h =
    let low : value % 2 ^ 32 < 2 ^ 32 = omega arith in
    let high : value / 2 ^ 32 < 2 ^ 32 = omega arith in
    let is_low : cast_unsigned w32 (low_half value) ≡ value % 2 ^ 32 = of_z-to_z w32 (value % 2 ^ 32) low in
    let is_high : cast_unsigned w32 (high_half value) ≡ value / 2 ^ 32 = of_z-to_z w32 (value / 2 ^ 32) high in
    omega (arith, is_low, is_high)

pub word_fits : (low high : ℤ) → FitsSigned w32 low → FitsSigned w32 high → word_of low high < 2 ^ 64
word_fits low high h k = omega (arith, fits low h, fits high k)

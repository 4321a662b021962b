-- Words by their places in the order of signed words.
use Rattle.std.proofs.Common.{◌≡◌, ℕ, suc, ◌+◌, ◌-◌, ◌%◌, ◌^◌, ◌<◌, ◌≤◌, ℤ, pos, negsuc, ap, subst, arith}
use Rattle.std.specs.Int.{w64, cast_signed, cast_unsigned}
use Rattle.std.specs.Prelude.{FitsSigned, ◌≤ℤ◌}
use Rattle.std.proofs.lemmas.Int.{ints, to_z_pos}
use Rattle.std.proofs.lemmas.Bool.{cases_lt, le-ltb}
use mir.Val.{sel}
use mathlib.Core.Logic.{⊎_elim}
use Rattle.scalar_domain.specs.declared.spans.Span.{Span}
use Rattle.scalar_domain.specs.Scalar.{place, Within}

-- the place of a place is the word
pub place_twice : (w : ℕ) → w < 2 ^ 64 → place (place w) ≡ w
place_twice w fits = omega arith

pub place_fits : (w : ℕ) → place w < 2 ^ 64
place_fits w = omega arith

-- what turns with its words' places turns back
pub turned_back : (turned : Span) (w : ℕ) → w < 2 ^ 64 → Within turned (place (place w)) → Within turned w
turned_back turned w fits = subst (Within turned) (place_twice w fits)

-- a word as a signed number
pub signed_below : (w : ℕ) → w < 2 ^ 63 → cast_signed w64 w ≡ pos w
signed_below w small = to_z_pos w64 w small

pub signed_above : (w : ℕ) → 2 ^ 63 ≤ w → cast_signed w64 w ≡ negsuc (2 ^ 64 - suc w)
signed_above w large = ap (λ b. sel b (pos w) (negsuc (2 ^ 64 - suc w))) (le-ltb w (2 ^ 63) large)

pub least_place : (z : ℤ) (n w : ℕ) → FitsSigned w64 z → n ≡ cast_unsigned w64 z → w < 2 ^ 64 → z ≤ℤ cast_signed w64 w → (n + 2 ^ 63) % 2 ^ 64 ≤ place w
least_place (pos n) m w fits_z is fits le = ⊎_elim (λ lt. omega (arith, ints, signed_below w lt, fits_z.sfits)) (λ ge. omega (arith, ints, signed_above w ge, fits_z.sfits)) (cases_lt w (2 ^ 63))
least_place (negsuc n) m w fits_z is fits le = ⊎_elim (λ lt. omega (arith, ints, signed_below w lt, fits_z.sfits)) (λ ge. omega (arith, ints, signed_above w ge, fits_z.sfits)) (cases_lt w (2 ^ 63))

pub most_place : (z : ℤ) (n w : ℕ) → FitsSigned w64 z → n ≡ cast_unsigned w64 z → w < 2 ^ 64 → cast_signed w64 w ≤ℤ z → place w ≤ (n + 2 ^ 63) % 2 ^ 64
most_place (pos n) m w fits_z is fits le = ⊎_elim (λ lt. omega (arith, ints, signed_below w lt, fits_z.sfits)) (λ ge. omega (arith, ints, signed_above w ge, fits_z.sfits)) (cases_lt w (2 ^ 63))
most_place (negsuc n) m w fits_z is fits le = ⊎_elim (λ lt. omega (arith, ints, signed_below w lt, fits_z.sfits)) (λ ge. omega (arith, ints, signed_above w ge, fits_z.sfits)) (cases_lt w (2 ^ 63))

-- Words in the order of signed words, and what tests say.
use Rattle.std.proofs.Common.{◌≡◌, ℕ, suc, ◌-◌, ◌^◌, ◌<◌, ◌≤◌, ◌==◌, Bool, true, false, refl, ap, ap₂, sym, ◌∙◌, arith}
use Rattle.std.specs.Prelude.{not, nat_lt, nat_le, int_lt, int_le}
use Rattle.std.specs.Int.{w64, cast_signed}
use Rattle.std.proofs.lemmas.Bool.{cases_lt, lt-ltb, le-ltb, lt-leb, le-leb, eq-eqb}
use Rattle.std.proofs.lemmas.Bool.Decides.{eqb_tells}
use mathlib.Core.Logic.{⊎_elim}
use Rattle.scalar_domain.specs.Scalar.{place}
use Rattle.scalar_domain.proofs.Places.{signed_below, signed_above}

less_so : (a b : ℕ) → a < 2 ^ 64 → b < 2 ^ 64 → place a < place b → int_lt (cast_signed w64 a) (cast_signed w64 b) ≡ true
less_so a b fits_a fits_b less = ⊎_elim
    (λ a_is. ⊎_elim (λ b_is. ap₂ int_lt (signed_below a a_is) (signed_below b b_is) ∙ lt-ltb a b (omega arith)) (λ b_is. absurd (omega arith)) (cases_lt b (2 ^ 63)))
    (λ a_is. ⊎_elim (λ b_is. ap₂ int_lt (signed_above a a_is) (signed_below b b_is) ∙ refl) (λ b_is. ap₂ int_lt (signed_above a a_is) (signed_above b b_is) ∙ lt-ltb (2 ^ 64 - suc b) (2 ^ 64 - suc a) (omega arith)) (cases_lt b (2 ^ 63)))
    (cases_lt a (2 ^ 63))

less_not : (a b : ℕ) → a < 2 ^ 64 → b < 2 ^ 64 → place b ≤ place a → int_lt (cast_signed w64 a) (cast_signed w64 b) ≡ false
less_not a b fits_a fits_b more = ⊎_elim
    (λ a_is. ⊎_elim (λ b_is. ap₂ int_lt (signed_below a a_is) (signed_below b b_is) ∙ le-ltb a b (omega arith)) (λ b_is. ap₂ int_lt (signed_below a a_is) (signed_above b b_is) ∙ refl) (cases_lt b (2 ^ 63)))
    (λ a_is. ⊎_elim (λ b_is. absurd (omega arith)) (λ b_is. ap₂ int_lt (signed_above a a_is) (signed_above b b_is) ∙ le-ltb (2 ^ 64 - suc b) (2 ^ 64 - suc a) (omega arith)) (cases_lt b (2 ^ 63)))
    (cases_lt a (2 ^ 63))

no_more_so : (a b : ℕ) → a < 2 ^ 64 → b < 2 ^ 64 → place a ≤ place b → int_le (cast_signed w64 a) (cast_signed w64 b) ≡ true
no_more_so a b fits_a fits_b le = ⊎_elim
    (λ a_is. ⊎_elim (λ b_is. ap₂ int_le (signed_below a a_is) (signed_below b b_is) ∙ le-leb a b (omega arith)) (λ b_is. absurd (omega arith)) (cases_lt b (2 ^ 63)))
    (λ a_is. ⊎_elim (λ b_is. ap₂ int_le (signed_above a a_is) (signed_below b b_is) ∙ refl) (λ b_is. ap₂ int_le (signed_above a a_is) (signed_above b b_is) ∙ le-leb (2 ^ 64 - suc b) (2 ^ 64 - suc a) (omega arith)) (cases_lt b (2 ^ 63)))
    (cases_lt a (2 ^ 63))

no_more_not : (a b : ℕ) → a < 2 ^ 64 → b < 2 ^ 64 → place b < place a → int_le (cast_signed w64 a) (cast_signed w64 b) ≡ false
no_more_not a b fits_a fits_b more = ⊎_elim
    (λ a_is. ⊎_elim (λ b_is. ap₂ int_le (signed_below a a_is) (signed_below b b_is) ∙ lt-leb a b (omega arith)) (λ b_is. ap₂ int_le (signed_below a a_is) (signed_above b b_is) ∙ refl) (cases_lt b (2 ^ 63)))
    (λ a_is. ⊎_elim (λ b_is. absurd (omega arith)) (λ b_is. ap₂ int_le (signed_above a a_is) (signed_above b b_is) ∙ lt-leb (2 ^ 64 - suc b) (2 ^ 64 - suc a) (omega arith)) (cases_lt b (2 ^ 63)))
    (cases_lt a (2 ^ 63))

-- signed words are ordered as their places are
pub signed_less : (a b : ℕ) (t : Bool) → a < 2 ^ 64 → b < 2 ^ 64 → int_lt (cast_signed w64 a) (cast_signed w64 b) ≡ t → nat_lt (place a) (place b) ≡ t
signed_less a b t fits_a fits_b e = ⊎_elim
    (λ lt. lt-ltb (place a) (place b) lt ∙ sym (less_so a b fits_a fits_b lt) ∙ e)
    (λ ge. le-ltb (place a) (place b) ge ∙ sym (less_not a b fits_a fits_b ge) ∙ e)
    (cases_lt (place a) (place b))

pub signed_no_more : (a b : ℕ) (t : Bool) → a < 2 ^ 64 → b < 2 ^ 64 → int_le (cast_signed w64 a) (cast_signed w64 b) ≡ t → nat_le (place a) (place b) ≡ t
signed_no_more a b t fits_a fits_b e = ⊎_elim
    (λ lt. lt-leb (place a) (place b) lt ∙ sym (no_more_not a b fits_a fits_b lt) ∙ e)
    (λ ge. le-leb (place a) (place b) ge ∙ sym (no_more_so a b fits_a fits_b ge) ∙ e)
    (cases_lt (place b) (place a))

pub not_less : (a b : ℕ) (t : Bool) → nat_le b a ≡ t → nat_lt a b ≡ not t
not_less a b t e = ⊎_elim
    (λ lt. lt-ltb a b lt ∙ ap not (sym (lt-leb b a lt) ∙ e))
    (λ ge. le-ltb a b ge ∙ ap not (sym (le-leb b a ge) ∙ e))
    (cases_lt a b)

pub is_some : (n : ℕ) (t : Bool) → not (n == 0) ≡ t → t ≡ true → n ≡ 0 → ⊥
is_some n t e is zero_is = let bad : false ≡ true = sym (ap not (eq-eqb n 0 zero_is)) ∙ e ∙ is in cc

pub is_none : (n : ℕ) (t : Bool) → not (n == 0) ≡ t → t ≡ false → n ≡ 0
is_none n t e is = ⊎_elim (λ p. p.1) (λ p. absurd (let bad : true ≡ false = sym (ap not p.0) ∙ e ∙ is in cc)) (eqb_tells n 0)

pub differ : (a b : ℕ) (t : Bool) → (a == b) ≡ t → t ≡ false → a ≡ b → ⊥
differ a b t e is same = let bad : true ≡ false = sym (eq-eqb a b same) ∙ e ∙ is in cc

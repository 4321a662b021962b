-- A comparison of 32 bits, by one of 64 bits of the low halves.
use Rattle.std.proofs.Common.{◌≡◌, ℕ, refl, ap₂, sym, arith}
use Rattle.std.specs.Prelude.{Option, None, Some, IfSome, int_lt, int_le}
use Rattle.std.specs.Int.{w32, w64, cast_signed}
use Rattle.bpf_insn.specs.declared.insn.Condition.{Condition}
use Rattle.bpf_insn.specs.declared.insn.Condition.TheVariants.{Equal, NotEqual, Greater, GreaterOrEqual, Less, LessOrEqual, AnyBit, SignedGreater, SignedGreaterOrEqual, SignedLess, SignedLessOrEqual}
use Rattle.bpf_words.specs.Words.{low, holds}
use Rattle.scalar_domain.specs.declared.scalars.Scalar.{Scalar}
use Rattle.scalar_domain.specs.declared.narrowing.Sides.{Sides}
use Rattle.scalar_domain.specs.Scalar.{Has}
use Rattle.scalar_domain.specs.Halves.{compared_half, extended_half}
use Rattle.scalar_domain.proofs.Extending.{sign_kept, low_of_extended}

signed_half : (w : ℕ) → cast_signed w32 (low w32 w) ≡ cast_signed w64 (extended_half w)
signed_half w = sym (sign_kept (low w32 w) (omega arith))

pub halves_hold : (condition : Condition) (a b : ℕ) → holds w32 condition (low w32 a) (low w32 b) ≡ holds w64 condition (compared_half condition a) (compared_half condition b)
halves_hold Equal a b = refl
halves_hold NotEqual a b = refl
halves_hold Greater a b = refl
halves_hold GreaterOrEqual a b = refl
halves_hold Less a b = refl
halves_hold LessOrEqual a b = refl
halves_hold AnyBit a b = refl
halves_hold SignedGreater a b = ap₂ int_lt (signed_half b) (signed_half a)
halves_hold SignedGreaterOrEqual a b = ap₂ int_le (signed_half b) (signed_half a)
halves_hold SignedLess a b = ap₂ int_lt (signed_half a) (signed_half b)
halves_hold SignedLessOrEqual a b = ap₂ int_le (signed_half a) (signed_half b)

low_twice : (w : ℕ) → low w32 (low w32 w) ≡ low w32 w
low_twice w = omega arith

pub low_of_compared : (condition : Condition) (w : ℕ) → low w32 (compared_half condition w) ≡ low w32 w
low_of_compared Equal w = low_twice w
low_of_compared NotEqual w = low_twice w
low_of_compared Greater w = low_twice w
low_of_compared GreaterOrEqual w = low_twice w
low_of_compared Less w = low_twice w
low_of_compared LessOrEqual w = low_twice w
low_of_compared AnyBit w = low_twice w
low_of_compared SignedGreater w = low_of_extended (low w32 w) (omega arith)
low_of_compared SignedGreaterOrEqual w = low_of_extended (low w32 w) (omega arith)
low_of_compared SignedLess w = low_of_extended (low w32 w) (omega arith)
low_of_compared SignedLessOrEqual w = low_of_extended (low w32 w) (omega arith)

-- what the sides have, where they are narrowed once more
pub left_through : (o : Option Sides) (x y : Scalar) → IfSome o (λ s. (a : ℕ) → Has s.left a → Has x a) → ((a : ℕ) → Has x a → Has y a) → IfSome o (λ s. (a : ℕ) → Has s.left a → Has y a)
left_through None x y p q = p
left_through (Some s) x y p q = λ a h. q a (p a h)

pub right_through : (o : Option Sides) (x y : Scalar) → IfSome o (λ s. (b : ℕ) → Has s.right b → Has x b) → ((b : ℕ) → Has x b → Has y b) → IfSome o (λ s. (b : ℕ) → Has s.right b → Has y b)
right_through None x y p q = p
right_through (Some s) x y p q = λ b h. q b (p b h)

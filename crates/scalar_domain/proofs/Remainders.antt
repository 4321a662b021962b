-- Quotients and remainders of words are words, and a greater word leaves a word as it is.
use Rattle.std.proofs.Common.{◌≡◌, ℕ, ◌/◌, ◌%◌, ◌^◌, ◌<◌, ◌≤◌, ◌==◌, Bool, true, false, arith, div-le_self, mod-eq_of_lt}
use Rattle.std.proofs.lemmas.Bool.{ne_eqb}
use Rattle.std.proofs.Math.Nat.{mod-le}
use Rattle.std.specs.Prelude.{if◌then◌else◌}
use Rattle.std.specs.Int.{w64}
use Rattle.bpf_words.specs.Words.{low, quotient, remainder}

pub left_by_greater : (a b : ℕ) → a < b → remainder a b ≡ a
left_by_greater a b less = rw (ne_eqb b 0 (λ e. omega arith)) (mod-eq_of_lt less)

quotient_le : (a b : ℕ) → quotient a b ≤ a
quotient_le a b = elim (b == 0) as (λ (t : Bool). (if t then 0 else a / b) ≤ a) [ true ↦ omega arith | false ↦ div-le_self a b ]

remainder_le : (a b : ℕ) → remainder a b ≤ a
remainder_le a b = elim (b == 0) as (λ (t : Bool). (if t then a else a % b) ≤ a) [ true ↦ omega arith | false ↦ mod-le a b ]

pub low_quotient : (a b : ℕ) → a < 2 ^ 64 → low w64 (quotient a b) ≡ quotient a b
low_quotient a b fits = mod-eq_of_lt (omega (arith, quotient_le a b))

pub low_remainder : (a b : ℕ) → a < 2 ^ 64 → low w64 (remainder a b) ≡ remainder a b
low_remainder a b fits = mod-eq_of_lt (omega (arith, remainder_le a b))

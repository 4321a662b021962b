-- Signed quotients and remainders of words that are not negative.
use Rattle.std.proofs.Common.{◌≡◌, ℕ, ◌^◌, ◌<◌, ◌==◌, ℤ, ap₂, ◌∙◌}
use Rattle.std.specs.Prelude.{if◌then◌else◌, int_div, int_rem}
use Rattle.std.specs.Int.{w32, w64, cast_unsigned}
use Rattle.std.proofs.lemmas.Int.{to_z_pos}
use Rattle.bpf_insn.specs.declared.insn.AluOp.TheVariants.{Div, SignedDiv, Mod, SignedMod}
use Rattle.bpf_words.specs.Words.{low, alu}
use Rattle.scalar_domain.proofs.Extending.{cut_once}

pub plain_div64 : (a b : ℕ) → a < 2 ^ 63 → b < 2 ^ 63 → alu w64 SignedDiv a b ≡ alu w64 Div a b
plain_div64 a b p q = ap₂ (λ (x y : ℤ). low w64 (if b == 0 then 0 else cast_unsigned w64 (int_div x y))) (to_z_pos w64 a p) (to_z_pos w64 b q)

pub plain_mod64 : (a b : ℕ) → a < 2 ^ 63 → b < 2 ^ 63 → alu w64 SignedMod a b ≡ alu w64 Mod a b
plain_mod64 a b p q = ap₂ (λ (x y : ℤ). low w64 (if b == 0 then a else cast_unsigned w64 (int_rem x y))) (to_z_pos w64 a p) (to_z_pos w64 b q)

pub plain_div32 : (a b : ℕ) → a < 2 ^ 31 → b < 2 ^ 31 → alu w32 SignedDiv a b ≡ low w32 (alu w64 Div a b)
plain_div32 a b p q = ap₂ (λ (x y : ℤ). low w32 (if b == 0 then 0 else cast_unsigned w32 (int_div x y))) (to_z_pos w32 a p) (to_z_pos w32 b q) ∙ cut_once _

pub plain_mod32 : (a b : ℕ) → a < 2 ^ 31 → b < 2 ^ 31 → alu w32 SignedMod a b ≡ low w32 (alu w64 Mod a b)
plain_mod32 a b p q = ap₂ (λ (x y : ℤ). low w32 (if b == 0 then a else cast_unsigned w32 (int_rem x y))) (to_z_pos w32 a p) (to_z_pos w32 b q) ∙ cut_once _

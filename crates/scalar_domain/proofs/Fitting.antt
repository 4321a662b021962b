-- What operations compute is a word.
use Rattle.std.proofs.Common.{ℕ, ◌^◌, ◌<◌, true, false, arith}
use Rattle.std.specs.Int.{w32, w64}
use Rattle.std.specs.Prelude.{if◌then◌else◌}
use Rattle.bpf_insn.specs.declared.insn.AluOp.{AluOp}
use Rattle.bpf_insn.specs.declared.insn.InPlaceOp.{InPlaceOp}
use Rattle.bpf_insn.specs.declared.insn.InPlaceOp.TheVariants.{Neg, Reorder}
use Rattle.bpf_insn.specs.declared.insn.SignExtension.{SignExtension}
use Rattle.bpf_insn.specs.declared.insn.SignExtension.TheVariants.{From8To32, From16To32, From8To64, From16To64, From32To64}
use Rattle.bpf_insn.specs.declared.insn.WordSize.TheVariants.{Word16, Word32, Word64}
use Rattle.bpf_insn.specs.declared.insn.Width.{Width}
use Rattle.bpf_insn.specs.declared.insn.Width.TheVariants.{Bits32, Bits64}
use Rattle.bpf_words.specs.Words.{alu, alu_of, reads_dst, low, computed, in_place, sign_extended}

pub alu_of_fits : (width : Width) (op : AluOp) (a b : ℕ) → b < 2 ^ 64 → alu_of width op a b < 2 ^ 64
alu_of_fits Bits64 op a b fits = elim (reads_dst op) as (λ r. (if r then low w64 (computed w64 op a b) else b) < 2 ^ 64) [ true ↦ omega arith | false ↦ fits ]
alu_of_fits Bits32 op a b fits = elim (reads_dst op) as (λ r. (if r then low w32 (computed w32 op (low w32 a) (low w32 b)) else low w32 b) < 2 ^ 64) [ true ↦ omega arith | false ↦ omega arith ]

pub in_place_fits : (op : InPlaceOp) (a : ℕ) → in_place op a < 2 ^ 64
in_place_fits (Neg Bits64) a = omega arith
in_place_fits (Neg Bits32) a = omega arith
in_place_fits (Reorder order Word16) a = omega arith
in_place_fits (Reorder order Word32) a = omega arith
in_place_fits (Reorder order Word64) a = omega arith

pub sign_extended_fits : (extension : SignExtension) (a : ℕ) → sign_extended extension a < 2 ^ 64
sign_extended_fits From8To32 a = omega arith
sign_extended_fits From16To32 a = omega arith
sign_extended_fits From8To64 a = omega arith
sign_extended_fits From16To64 a = omega arith
sign_extended_fits From32To64 a = omega arith

pub alu32_fits : (op : AluOp) (a b : ℕ) → b < 2 ^ 32 → alu w32 op a b < 2 ^ 32
alu32_fits op a b fits = elim (reads_dst op) as (λ r. (if r then low w32 (computed w32 op a b) else b) < 2 ^ 32) [ true ↦ omega arith | false ↦ fits ]

-- Worked rows of instructions as words, computed by the definition itself.
use Rattle.std.proofs.Common.{◌≡◌, [], ◌∷◌, pos, negsuc, refl}
use Rattle.bpf_insn.specs.declared.reg.Reg.TheVariants.{R1, R3}
use Rattle.bpf_insn.specs.declared.insn.Width.TheVariants.{Bits64}
use Rattle.bpf_insn.specs.declared.insn.AluOp.TheVariants.{Mov}
use Rattle.bpf_insn.specs.declared.insn.Operand.TheVariants.{Immediate, Register}
use Rattle.bpf_insn.specs.declared.insn.Distance.TheVariants.{Near}
use Rattle.bpf_insn.specs.declared.insn.Insn.TheVariants.{Alu, Jump, LoadImmediate, Exit}
use Rattle.bpf_insn.specs.Words.{words_of}

-- 10 * (27 + 28 * (3 + 11 * 11)): operation 13 at 64 bits, R3, and a constant
mov_constant : words_of (Alu Bits64 Mov R3 (Immediate (pos 7))) ≡ 34990 ∷ 7 ∷ []
mov_constant = refl

mov_register : words_of (Alu Bits64 Mov R3 (Register R1)) ≡ 4190 ∷ 0 ∷ []
mov_register = refl

-- a constant of 64 bits in two halves
wide_constant : words_of (LoadImmediate R1 0x100000005) ≡ 285 ∷ 5 ∷ 1 ∷ []
wide_constant = refl

-- one slot back: the offset's bits are 65535
jump_back : words_of (Jump (Near (negsuc 0))) ≡ 2422173604 ∷ 0 ∷ []
jump_back = refl

exit : words_of Exit ≡ 9 ∷ 0 ∷ []
exit = refl

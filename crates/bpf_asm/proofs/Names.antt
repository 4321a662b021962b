-- Each name of an instruction is a word of its own: it is found again, as the first of its name.
use Rattle.std.proofs.Common.{◌≡◌, ◌<◌, true, length, Some, refl, lit<}
use Rattle.std.specs.List.{list_all}
use Rattle.bpf_insn.specs.declared.insn.LoadForm.TheVariants as loads
use Rattle.bpf_insn.specs.declared.insn.StoreSize.TheVariants as stores
use Rattle.bpf_insn.specs.declared.insn.Width.TheVariants.{Bits32, Bits64}
use Rattle.bpf_insn.specs.declared.insn.AluOp.TheVariants.{Add}
use Rattle.bpf_insn.specs.declared.insn.InPlaceOp.TheVariants.{Neg, Reorder}
use Rattle.bpf_insn.specs.declared.insn.ByteOrder.TheVariants.{Little, Big, Swapped}
use Rattle.bpf_insn.specs.declared.insn.WordSize.TheVariants.{Word16, Word32, Word64}
use Rattle.bpf_insn.specs.declared.insn.SignExtension.TheVariants.{From8To32, From16To32, From8To64, From16To64, From32To64}
use Rattle.bpf_insn.specs.declared.insn.Condition.TheVariants.{Equal}
use Rattle.bpf_insn.specs.Operations.{alu_of_name, condition_of_name}
use Rattle.bpf_asm.specs.declared.mnemonic.Mnemonic.{Mnemonic}
use Rattle.bpf_asm.specs.declared.mnemonic.Mnemonic.TheVariants as mnemonics
use Rattle.bpf_asm.specs.Bytes.{is_letter, is_digit, is_word}
use Rattle.bpf_asm.specs.Numbers.{is_token, number_of}
use Rattle.bpf_asm.specs.Mnemonics.{name_of, mnemonic_of}

pub record Named (mnemonic : Mnemonic) : Type 0 where
  pub found : mnemonic_of (name_of mnemonic) ≡ Some mnemonic
  pub word : list_all is_word (name_of mnemonic) ≡ true
  pub token : is_token (name_of mnemonic) ≡ true
  pub long : 0 < length (name_of mnemonic)

-- A line for Add or Equal stands above one for all others, which is checked for each of them.
pub named : (mnemonic : Mnemonic) → Named mnemonic
unfolding mnemonic_of alu_of_name condition_of_name is_word is_letter is_digit is_token number_of
named (mnemonics.Alu Bits32 Add) = record { found = refl; word = refl; token = refl; long = lit< tt }
named (mnemonics.Alu Bits32 op) = record { found = refl; word = refl; token = refl; long = lit< tt }
named (mnemonics.Alu Bits64 Add) = record { found = refl; word = refl; token = refl; long = lit< tt }
named (mnemonics.Alu Bits64 op) = record { found = refl; word = refl; token = refl; long = lit< tt }
named (mnemonics.InPlace (Neg Bits32)) = record { found = refl; word = refl; token = refl; long = lit< tt }
named (mnemonics.InPlace (Neg Bits64)) = record { found = refl; word = refl; token = refl; long = lit< tt }
named (mnemonics.InPlace (Reorder Little Word16)) = record { found = refl; word = refl; token = refl; long = lit< tt }
named (mnemonics.InPlace (Reorder Little Word32)) = record { found = refl; word = refl; token = refl; long = lit< tt }
named (mnemonics.InPlace (Reorder Little Word64)) = record { found = refl; word = refl; token = refl; long = lit< tt }
named (mnemonics.InPlace (Reorder Big Word16)) = record { found = refl; word = refl; token = refl; long = lit< tt }
named (mnemonics.InPlace (Reorder Big Word32)) = record { found = refl; word = refl; token = refl; long = lit< tt }
named (mnemonics.InPlace (Reorder Big Word64)) = record { found = refl; word = refl; token = refl; long = lit< tt }
named (mnemonics.InPlace (Reorder Swapped Word16)) = record { found = refl; word = refl; token = refl; long = lit< tt }
named (mnemonics.InPlace (Reorder Swapped Word32)) = record { found = refl; word = refl; token = refl; long = lit< tt }
named (mnemonics.InPlace (Reorder Swapped Word64)) = record { found = refl; word = refl; token = refl; long = lit< tt }
named (mnemonics.SignExtend From8To32) = record { found = refl; word = refl; token = refl; long = lit< tt }
named (mnemonics.SignExtend From16To32) = record { found = refl; word = refl; token = refl; long = lit< tt }
named (mnemonics.SignExtend From8To64) = record { found = refl; word = refl; token = refl; long = lit< tt }
named (mnemonics.SignExtend From16To64) = record { found = refl; word = refl; token = refl; long = lit< tt }
named (mnemonics.SignExtend From32To64) = record { found = refl; word = refl; token = refl; long = lit< tt }
named mnemonics.JumpNear = record { found = refl; word = refl; token = refl; long = lit< tt }
named mnemonics.JumpFar = record { found = refl; word = refl; token = refl; long = lit< tt }
named (mnemonics.JumpIf Bits32 Equal) = record { found = refl; word = refl; token = refl; long = lit< tt }
named (mnemonics.JumpIf Bits32 condition) = record { found = refl; word = refl; token = refl; long = lit< tt }
named (mnemonics.JumpIf Bits64 Equal) = record { found = refl; word = refl; token = refl; long = lit< tt }
named (mnemonics.JumpIf Bits64 condition) = record { found = refl; word = refl; token = refl; long = lit< tt }
named mnemonics.Call = record { found = refl; word = refl; token = refl; long = lit< tt }
named mnemonics.Exit = record { found = refl; word = refl; token = refl; long = lit< tt }
named (mnemonics.Load loads.Byte) = record { found = refl; word = refl; token = refl; long = lit< tt }
named (mnemonics.Load loads.HalfWord) = record { found = refl; word = refl; token = refl; long = lit< tt }
named (mnemonics.Load loads.Word) = record { found = refl; word = refl; token = refl; long = lit< tt }
named (mnemonics.Load loads.DoubleWord) = record { found = refl; word = refl; token = refl; long = lit< tt }
named (mnemonics.Load loads.SignedByte) = record { found = refl; word = refl; token = refl; long = lit< tt }
named (mnemonics.Load loads.SignedHalfWord) = record { found = refl; word = refl; token = refl; long = lit< tt }
named (mnemonics.Load loads.SignedWord) = record { found = refl; word = refl; token = refl; long = lit< tt }
named (mnemonics.StoreImmediate stores.Byte) = record { found = refl; word = refl; token = refl; long = lit< tt }
named (mnemonics.StoreImmediate stores.HalfWord) = record { found = refl; word = refl; token = refl; long = lit< tt }
named (mnemonics.StoreImmediate stores.Word) = record { found = refl; word = refl; token = refl; long = lit< tt }
named (mnemonics.StoreImmediate stores.DoubleWord) = record { found = refl; word = refl; token = refl; long = lit< tt }
named (mnemonics.StoreRegister stores.Byte) = record { found = refl; word = refl; token = refl; long = lit< tt }
named (mnemonics.StoreRegister stores.HalfWord) = record { found = refl; word = refl; token = refl; long = lit< tt }
named (mnemonics.StoreRegister stores.Word) = record { found = refl; word = refl; token = refl; long = lit< tt }
named (mnemonics.StoreRegister stores.DoubleWord) = record { found = refl; word = refl; token = refl; long = lit< tt }
named mnemonics.LoadImmediate = record { found = refl; word = refl; token = refl; long = lit< tt }

-- The names of the instructions. Where a name says a width, 32 is class ALU, 64 class ALU64; a jump's name has 32 after it for class JMP32,
-- and nothing for JMP (RFC 9669, sections 4 and 5).
use Rattle.std.specs.Prelude.{ℕ, List, ◌++◌, Option, codes, bytes_eq, find}
use Rattle.std.specs.Option.{option_or, option_map}
use Rattle.bpf_insn.specs.declared.insn.LoadForm.{LoadForm}
use Rattle.bpf_insn.specs.declared.insn.LoadForm.TheVariants as loads
use Rattle.bpf_insn.specs.declared.insn.StoreSize.{StoreSize}
use Rattle.bpf_insn.specs.declared.insn.StoreSize.TheVariants as stores
use Rattle.bpf_insn.specs.declared.insn.Width.TheVariants.{Bits32, Bits64}
use Rattle.bpf_insn.specs.declared.insn.InPlaceOp.TheVariants.{Neg, Reorder}
use Rattle.bpf_insn.specs.declared.insn.ByteOrder.{ByteOrder}
use Rattle.bpf_insn.specs.declared.insn.ByteOrder.TheVariants.{Little, Big, Swapped}
use Rattle.bpf_insn.specs.declared.insn.WordSize.{WordSize}
use Rattle.bpf_insn.specs.declared.insn.WordSize.TheVariants.{Word16, Word32, Word64}
use Rattle.bpf_insn.specs.declared.insn.SignExtension.{SignExtension}
use Rattle.bpf_insn.specs.declared.insn.SignExtension.TheVariants.{From8To32, From16To32, From8To64, From16To64, From32To64}
use Rattle.bpf_insn.specs.Operations.{bits, alu_name, jump_name, alu_of_name, condition_of_name}
use Rattle.bpf_asm.specs.declared.mnemonic.Mnemonic.{Mnemonic}
use Rattle.bpf_asm.specs.declared.mnemonic.Mnemonic.TheVariants as mnemonics
use Rattle.bpf_asm.specs.declared.table.TheConstants.{OTHER_MNEMONICS}

abbrev pub order_name : ByteOrder → List ℕ
order_name Little = codes "le"
order_name Big = codes "be"
order_name Swapped = codes "swap"

abbrev pub size_bits : WordSize → List ℕ
size_bits Word16 = codes "16"
size_bits Word32 = codes "32"
size_bits Word64 = codes "64"

abbrev pub extension_name : SignExtension → List ℕ
extension_name From8To32 = codes "movsx32_8"
extension_name From16To32 = codes "movsx32_16"
extension_name From8To64 = codes "movsx64_8"
extension_name From16To64 = codes "movsx64_16"
extension_name From32To64 = codes "movsx64_32"

abbrev pub load_name : LoadForm → List ℕ
load_name loads.Byte = codes "ldxb"
load_name loads.HalfWord = codes "ldxh"
load_name loads.Word = codes "ldxw"
load_name loads.DoubleWord = codes "ldxdw"
load_name loads.SignedByte = codes "ldxsb"
load_name loads.SignedHalfWord = codes "ldxsh"
load_name loads.SignedWord = codes "ldxsw"

abbrev pub size_name : StoreSize → List ℕ
size_name stores.Byte = codes "b"
size_name stores.HalfWord = codes "h"
size_name stores.Word = codes "w"
size_name stores.DoubleWord = codes "dw"

-- the name of an instruction
abbrev pub name_of : Mnemonic → List ℕ
name_of (mnemonics.Alu width op) = alu_name width op
name_of (mnemonics.InPlace (Neg width)) = codes "neg" ++ bits width
name_of (mnemonics.InPlace (Reorder order size)) = order_name order ++ size_bits size
name_of (mnemonics.SignExtend extension) = extension_name extension
name_of mnemonics.JumpNear = codes "ja"
name_of mnemonics.JumpFar = codes "ja32"
name_of (mnemonics.JumpIf width condition) = jump_name width condition
name_of mnemonics.Call = codes "call"
name_of mnemonics.Exit = codes "exit"
name_of (mnemonics.Load form) = load_name form
name_of (mnemonics.StoreImmediate size) = codes "st" ++ size_name size
name_of (mnemonics.StoreRegister size) = codes "stx" ++ size_name size
name_of mnemonics.LoadImmediate = codes "lddw"

-- The mnemonic of a name, if there is one: that of an operation or of a condition stands in its row, and all others in a table.
unfoldable pub mnemonic_of : List ℕ → Option Mnemonic
mnemonic_of word =
    option_or (option_map (mnemonics.Alu Bits32) (alu_of_name Bits32 word))
    (option_or (option_map (mnemonics.Alu Bits64) (alu_of_name Bits64 word))
    (option_or (option_map (mnemonics.JumpIf Bits32) (condition_of_name Bits32 word))
    (option_or (option_map (mnemonics.JumpIf Bits64) (condition_of_name Bits64 word))
    (find (λ mnemonic. bytes_eq (name_of mnemonic) word) OTHER_MNEMONICS))))

-- The one text of a program without labels: a line for each instruction.
use Rattle.std.specs.Prelude.{◌<◌, ◌^◌, FitsSigned, ℕ, ℤ, pos, negsuc, suc, ◌+◌, ◌/◌, ◌%◌, nat_lt, List, [], ◌∷◌, ◌++◌, codes, decimal, flat_map, if◌then◌else◌}
use Rattle.std.specs.Fmt.{signed_decimal}
use Rattle.std.specs.Int.{w16, w32, w64, to_be_bytes}
use Rattle.bpf_insn.specs.Program.{insns_in}
use Rattle.bpf_insn.specs.Reg.{number_of}
use Rattle.bpf_insn.specs.declared.reg.Reg.{Reg}
use Rattle.bpf_insn.specs.declared.program.Slot.{Slot}
use Rattle.bpf_insn.specs.declared.insn.Insn.{Insn}
use Rattle.bpf_insn.specs.declared.insn.Insn.TheVariants.{Alu, InPlace, SignExtend, JumpIf, Jump, LoadImmediate, Load, Store, Call, Exit}
use Rattle.bpf_insn.specs.declared.insn.Operand.{Operand}
use Rattle.bpf_insn.specs.declared.insn.Operand.TheVariants.{Immediate, Register}
use Rattle.bpf_insn.specs.declared.insn.Callee.TheVariants.{Helper, Local}
use Rattle.bpf_insn.specs.declared.insn.Distance.TheVariants.{Near, Far}
use Rattle.bpf_asm.specs.declared.mnemonic.Mnemonic.{Mnemonic}
use Rattle.bpf_asm.specs.declared.mnemonic.Mnemonic.TheVariants as mnemonics
use Rattle.bpf_asm.specs.Mnemonics.{name_of}

abbrev pub register_text : Reg → List ℕ
register_text reg = codes "r" ++ decimal (number_of reg)

abbrev pub operand_text : Operand → List ℕ
operand_text (Immediate value) = signed_decimal value
operand_text (Register reg) = register_text reg

-- with its sign written, `+0` too
abbrev pub signed_text : ℤ → List ℕ
signed_text (pos value) = codes "+" ++ decimal value
signed_text (negsuc value) = codes "-" ++ decimal (suc value)

-- a digit of base 16
abbrev pub digit_text : ℕ → ℕ
digit_text digit = if nat_lt digit 10 then 48 + digit else 87 + digit

abbrev pub byte_text : ℕ → List ℕ
byte_text byte = digit_text (byte / 16) ∷ digit_text (byte % 16) ∷ []

-- 16 digits of base 16
unfoldable pub word_text : ℕ → List ℕ
word_text value = codes "0x" ++ flat_map byte_text (to_be_bytes w64 value)

-- `[rN+N]`
unfoldable pub address_text : Reg → ℤ → List ℕ
address_text base offset = codes "[" ++ register_text base ++ signed_text offset ++ codes "]"

-- `, `
abbrev pub comma_text : List ℕ
comma_text = codes ", "

-- what follows the name of an instruction
abbrev pub operands_text : Insn → List ℕ
operands_text (Alu width op dst src) = codes " " ++ register_text dst ++ comma_text ++ operand_text src
operands_text (InPlace op dst) = codes " " ++ register_text dst
operands_text (SignExtend extension dst src) = codes " " ++ register_text dst ++ comma_text ++ register_text src
operands_text (JumpIf width condition dst src offset) = codes " " ++ register_text dst ++ comma_text ++ operand_text src ++ comma_text ++ signed_text offset
operands_text (Jump (Near offset)) = codes " " ++ signed_text offset
operands_text (Jump (Far imm)) = codes " " ++ signed_text imm
operands_text (LoadImmediate dst value) = codes " " ++ register_text dst ++ comma_text ++ word_text value
operands_text (Load form dst src offset) = codes " " ++ register_text dst ++ comma_text ++ address_text src offset
operands_text (Store size dst src offset) = codes " " ++ address_text dst offset ++ comma_text ++ operand_text src
operands_text (Call (Helper number)) = codes " " ++ signed_decimal number
operands_text (Call (Local distance)) = codes " local " ++ signed_text distance
operands_text Exit = []

-- how an instruction is called
abbrev pub mnemonic_for : Insn → Mnemonic
mnemonic_for (Alu width op dst src) = mnemonics.Alu width op
mnemonic_for (InPlace op dst) = mnemonics.InPlace op
mnemonic_for (SignExtend extension dst src) = mnemonics.SignExtend extension
mnemonic_for (JumpIf width condition dst src offset) = mnemonics.JumpIf width condition
mnemonic_for (Jump (Near offset)) = mnemonics.JumpNear
mnemonic_for (Jump (Far imm)) = mnemonics.JumpFar
mnemonic_for (LoadImmediate dst value) = mnemonics.LoadImmediate
mnemonic_for (Load form dst src offset) = mnemonics.Load form
mnemonic_for (Store size dst (Immediate value) offset) = mnemonics.StoreImmediate size
mnemonic_for (Store size dst (Register src) offset) = mnemonics.StoreRegister size
mnemonic_for (Call callee) = mnemonics.Call
mnemonic_for Exit = mnemonics.Exit

-- the line of an instruction, which a line feed ends
unfoldable pub insn_text : Insn → List ℕ
insn_text insn = name_of (mnemonic_for insn) ++ operands_text insn ++ codes "\n"

-- the lines of a program
unfoldable pub canon : List Slot → List ℕ
canon program = flat_map insn_text (insns_in program)

-- the numbers of an instruction are of their types
abbrev pub HasOperand : Operand → Type 0
HasOperand (Immediate value) = FitsSigned w32 value
HasOperand (Register reg) = Unit {0}

abbrev pub HasNumbers : Insn → Type 0
HasNumbers (Alu width op dst src) = HasOperand src
HasNumbers (InPlace op dst) = Unit {0}
HasNumbers (SignExtend extension dst src) = Unit {0}
HasNumbers (JumpIf width condition dst src offset) = HasOperand src × FitsSigned w16 offset
HasNumbers (Jump (Near offset)) = FitsSigned w16 offset
HasNumbers (Jump (Far imm)) = FitsSigned w32 imm
HasNumbers (LoadImmediate dst value) = value < 2 ^ 64
HasNumbers (Load form dst src offset) = FitsSigned w16 offset
HasNumbers (Store size dst src offset) = FitsSigned w16 offset × HasOperand src
HasNumbers (Call (Helper number)) = FitsSigned w32 number
HasNumbers (Call (Local distance)) = FitsSigned w32 distance
HasNumbers Exit = Unit {0}

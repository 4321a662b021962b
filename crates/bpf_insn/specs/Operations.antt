-- What RFC 9669 says of each arithmetic operation and of each condition, and how the assembler calls it: a row each.
use Rattle.std.specs.Prelude.{ℕ, ℤ, pos, ◌&&◌, ◌==◌, List, ◌++◌, Option, codes, bytes_eq, find}
use Rattle.std.specs.Ordering.{int_eq}
use Rattle.bpf_insn.specs.declared.insn.Width.{Width}
use Rattle.bpf_insn.specs.declared.insn.Width.TheVariants.{Bits32, Bits64}
use Rattle.bpf_insn.specs.declared.insn.AluOp.{AluOp}
use Rattle.bpf_insn.specs.declared.insn.AluOp.TheVariants.{Add, Sub, Mul, Div, SignedDiv, Mod, SignedMod, Or, And, Xor, Lsh, Rsh, Arsh, Mov}
use Rattle.bpf_insn.specs.declared.insn.Condition.{Condition}
use Rattle.bpf_insn.specs.declared.insn.Condition.TheVariants.{Equal, NotEqual, Greater, GreaterOrEqual, Less, LessOrEqual, AnyBit, SignedGreater, SignedGreaterOrEqual, SignedLess, SignedLessOrEqual}
use Rattle.bpf_insn.specs.declared.operation.TheConstants.{ALU_OPS, CONDITIONS}

-- Code, offset and name of an operation: code and offset as in the table of section 4.1, and the name without its width. The
-- offset tells signed divisions from unsigned ones.
abbrev pub alu_row : AluOp → ℕ × ℤ × List ℕ
alu_row Add = (0x0, pos 0, codes "add")
alu_row Sub = (0x1, pos 0, codes "sub")
alu_row Mul = (0x2, pos 0, codes "mul")
alu_row Div = (0x3, pos 0, codes "div")
alu_row SignedDiv = (0x3, pos 1, codes "sdiv")
alu_row Or = (0x4, pos 0, codes "or")
alu_row And = (0x5, pos 0, codes "and")
alu_row Lsh = (0x6, pos 0, codes "lsh")
alu_row Rsh = (0x7, pos 0, codes "rsh")
alu_row Mod = (0x9, pos 0, codes "mod")
alu_row SignedMod = (0x9, pos 1, codes "smod")
alu_row Xor = (0xa, pos 0, codes "xor")
alu_row Mov = (0xb, pos 0, codes "mov")
alu_row Arsh = (0xc, pos 0, codes "arsh")

abbrev pub alu_code : AluOp → ℕ
alu_code op = (alu_row op).0

abbrev pub alu_offset : AluOp → ℤ
alu_offset op = (alu_row op).1

-- a width, as it stands after the name of an operation
abbrev pub bits : Width → List ℕ
bits Bits32 = codes "32"
bits Bits64 = codes "64"

-- the mnemonic of an operation in a width
abbrev pub alu_name : Width → AluOp → List ℕ
alu_name width op = (alu_row op).2 ++ bits width

-- code and name of a condition: the code as in the table of section 4.3, and the name without its width
abbrev pub condition_row : Condition → ℕ × List ℕ
condition_row Equal = (0x1, codes "jeq")
condition_row Greater = (0x2, codes "jgt")
condition_row GreaterOrEqual = (0x3, codes "jge")
condition_row AnyBit = (0x4, codes "jset")
condition_row NotEqual = (0x5, codes "jne")
condition_row SignedGreater = (0x6, codes "jsgt")
condition_row SignedGreaterOrEqual = (0x7, codes "jsge")
condition_row Less = (0xa, codes "jlt")
condition_row LessOrEqual = (0xb, codes "jle")
condition_row SignedLess = (0xc, codes "jslt")
condition_row SignedLessOrEqual = (0xd, codes "jsle")

abbrev pub condition_code : Condition → ℕ
condition_code condition = (condition_row condition).0

-- a width, as it stands after the name of a conditional jump
abbrev pub jump_bits : Width → List ℕ
jump_bits Bits32 = codes "32"
jump_bits Bits64 = codes ""

-- the mnemonic of a conditional jump that compares in a width
abbrev pub jump_name : Width → Condition → List ℕ
jump_name width condition = (condition_row condition).1 ++ jump_bits width

-- the operation of a code and an offset, or of a mnemonic in a width, if there is one
unfoldable pub alu_of_form : ℕ → ℤ → Option AluOp
alu_of_form code offset = find (λ op. code == alu_code op && int_eq offset (alu_offset op)) ALU_OPS

unfoldable pub alu_of_name : Width → List ℕ → Option AluOp
alu_of_name width word = find (λ op. bytes_eq (alu_name width op) word) ALU_OPS

-- the condition of a code, or of a jump's mnemonic in a width, if there is one
unfoldable pub condition_of_code : ℕ → Option Condition
condition_of_code code = find (λ condition. code == condition_code condition) CONDITIONS

unfoldable pub condition_of_name : Width → List ℕ → Option Condition
condition_of_name width word = find (λ condition. bytes_eq (jump_name width condition) word) CONDITIONS

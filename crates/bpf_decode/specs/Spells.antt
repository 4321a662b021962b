-- Which bytes spell which program (RFC 9669, sections 3 to 5). Each instruction has a row of fields for each of its slots,
-- here by class, code and source of its opcode, or by class, mode and size. Which code and offset an operation or a condition has is
-- said by the rows of `bpf_insn`.
use Rattle.std.specs.Prelude.{◌≡◌, ◌<◌, ◌≤◌, ◌+◌, ◌*◌, ◌^◌, ◌/◌, ◌%◌, ℕ, ℤ, pos, List, [], ◌∷◌, length, drop, slice_index}
use Rattle.std.specs.Int.{w32, cast_signed}
use Rattle.bpf_insn.specs.declared.insn.Insn.{Insn}
use Rattle.bpf_insn.specs.declared.insn.Insn.TheVariants.{Alu, InPlace, SignExtend, JumpIf, Jump, LoadImmediate, Load, Store, Call, Exit}
use Rattle.bpf_insn.specs.declared.insn.Operand.{Operand}
use Rattle.bpf_insn.specs.declared.insn.Operand.TheVariants.{Immediate, Register}
use Rattle.bpf_insn.specs.declared.insn.Callee.TheVariants.{Helper, Local}
use Rattle.bpf_insn.specs.declared.insn.Distance.TheVariants.{Near, Far}
use Rattle.bpf_insn.specs.declared.insn.LoadForm.{LoadForm}
use Rattle.bpf_insn.specs.declared.insn.LoadForm.TheVariants as loads
use Rattle.bpf_insn.specs.declared.insn.StoreSize.{StoreSize}
use Rattle.bpf_insn.specs.declared.insn.StoreSize.TheVariants as stores
use Rattle.bpf_insn.specs.declared.insn.Width.{Width}
use Rattle.bpf_insn.specs.declared.insn.Width.TheVariants.{Bits32, Bits64}
use Rattle.bpf_insn.specs.declared.insn.InPlaceOp.TheVariants.{Neg, Reorder}
use Rattle.bpf_insn.specs.declared.insn.ByteOrder.{ByteOrder}
use Rattle.bpf_insn.specs.declared.insn.ByteOrder.TheVariants.{Little, Big, Swapped}
use Rattle.bpf_insn.specs.declared.insn.WordSize.{WordSize}
use Rattle.bpf_insn.specs.declared.insn.WordSize.TheVariants.{Word16, Word32, Word64}
use Rattle.bpf_insn.specs.declared.insn.SignExtension.{SignExtension}
use Rattle.bpf_insn.specs.declared.insn.SignExtension.TheVariants.{From8To32, From16To32, From8To64, From16To64, From32To64}
use Rattle.bpf_insn.specs.declared.program.Slot.{Slot}
use Rattle.bpf_insn.specs.Reg.{number_of}
use Rattle.bpf_insn.specs.Program.{IsProgram, insns_in, slots_of}
use Rattle.bpf_insn.specs.Operations.{alu_code, alu_offset, condition_code}
use Rattle.bpf_decode.specs.declared.fields.Fields.{Fields}
use Rattle.bpf_decode.specs.Fields.{fields_of}

-- The opcode of an arithmetic or jump instruction (section 4): the class in its 3 low bits, the source in the next one, and
-- the code in its 4 high bits.
abbrev pub opcode_of : ℕ → ℕ → ℕ → ℕ
opcode_of code source class = 16 * code + 8 * source + class

-- the classes of arithmetic: ALU of 32 bits, ALU64 of 64
abbrev pub alu_class : Width → ℕ
alu_class Bits32 = 4
alu_class Bits64 = 7

-- the classes of jumps: JMP32 compares 32 bits, JMP 64. Calls and the exit are in JMP.
abbrev pub jump_class : Width → ℕ
jump_class Bits32 = 6
jump_class Bits64 = 5

-- Source and class of a byte order (section 4.2). In ALU the source tells little-endian from big-endian.
abbrev pub order_source : ByteOrder → ℕ
order_source Little = 0
order_source Big = 1
order_source Swapped = 0

abbrev pub order_class : ByteOrder → ℕ
order_class Little = 4
order_class Big = 4
order_class Swapped = 7

-- how many bits are ordered, as imm says
abbrev pub size_imm : WordSize → ℤ
size_imm Word16 = pos 16
size_imm Word32 = pos 32
size_imm Word64 = pos 64

-- how many bits are sign-extended, as the offset of a move says, and to how many
abbrev pub extension_form : SignExtension → ℤ × Width
extension_form From8To32 = (pos 8, Bits32)
extension_form From16To32 = (pos 16, Bits32)
extension_form From8To64 = (pos 8, Bits64)
extension_form From16To64 = (pos 16, Bits64)
extension_form From32To64 = (pos 32, Bits64)

abbrev pub extension_offset : SignExtension → ℤ
extension_offset extension = (extension_form extension).0

abbrev pub extension_class : SignExtension → ℕ
extension_class extension = alu_class (extension_form extension).1

-- the second operand: source K and a constant in imm, or source X and a register in src
abbrev pub source_of : Operand → ℕ
source_of (Immediate value) = 0
source_of (Register reg) = 1

abbrev pub src_of : Operand → ℕ
src_of (Immediate value) = 0
src_of (Register reg) = number_of reg

abbrev pub imm_of : Operand → ℤ
imm_of (Immediate value) = value
imm_of (Register reg) = pos 0

-- The opcode of a load or store (section 5): the class in its 3 low bits, the size in the next two, and the mode in its 3
-- high bits.
abbrev pub memory_opcode : ℕ → ℕ → ℕ → ℕ
memory_opcode mode size class = 32 * mode + 8 * size + class

-- Mode and size of a load: MEM 3 (section 5.1), or MEMSX 4, which extends the sign (section 5.2); words W 0, half words H 1,
-- bytes B 2 and double words DW 3.
abbrev pub load_parts : LoadForm → ℕ × ℕ
load_parts loads.Word = (3, 0)
load_parts loads.HalfWord = (3, 1)
load_parts loads.Byte = (3, 2)
load_parts loads.DoubleWord = (3, 3)
load_parts loads.SignedWord = (4, 0)
load_parts loads.SignedHalfWord = (4, 1)
load_parts loads.SignedByte = (4, 2)

abbrev pub load_mode : LoadForm → ℕ
load_mode form = (load_parts form).0

abbrev pub load_size : LoadForm → ℕ
load_size form = (load_parts form).1

-- the size of a store, whose mode is MEM
abbrev pub store_size : StoreSize → ℕ
store_size stores.Word = 0
store_size stores.HalfWord = 1
store_size stores.Byte = 2
store_size stores.DoubleWord = 3

-- the classes of stores: ST of a constant, STX of a register
abbrev pub store_class : Operand → ℕ
store_class (Immediate value) = 2
store_class (Register reg) = 3

-- the halves of a constant of 64 bits, each as a signed number of 32 bits (section 5.4)
abbrev pub low_half : ℕ → ℤ
low_half value = cast_signed w32 (value % 2 ^ 32)

abbrev pub high_half : ℕ → ℤ
high_half value = cast_signed w32 (value / 2 ^ 32)

-- the row of the first slot of an instruction, with 0 in each field that it does not use (section 3.1)
abbrev pub row : Insn → Fields
row (Alu width op dst src) =
    record { opcode = opcode_of (alu_code op) (source_of src) (alu_class width); dst = number_of dst; src = src_of src; offset = alu_offset op; imm = imm_of src }
row (InPlace (Neg width) dst) =
    record { opcode = opcode_of 0x8 0 (alu_class width); dst = number_of dst; src = 0; offset = pos 0; imm = pos 0 }
row (InPlace (Reorder order size) dst) =
    record { opcode = opcode_of 0xd (order_source order) (order_class order); dst = number_of dst; src = 0; offset = pos 0; imm = size_imm size }
row (SignExtend extension dst src) =
    record { opcode = opcode_of 0xb 1 (extension_class extension); dst = number_of dst; src = number_of src; offset = extension_offset extension; imm = pos 0 }
row (JumpIf width condition dst src offset) =
    record { opcode = opcode_of (condition_code condition) (source_of src) (jump_class width); dst = number_of dst; src = src_of src; offset = offset; imm = imm_of src }
row (Jump (Near offset)) = record { opcode = opcode_of 0x0 0 5; dst = 0; src = 0; offset = offset; imm = pos 0 }
row (Jump (Far imm)) = record { opcode = opcode_of 0x0 0 6; dst = 0; src = 0; offset = pos 0; imm = imm }
row (LoadImmediate dst value) =
    record { opcode = memory_opcode 0 3 0; dst = number_of dst; src = 0; offset = pos 0; imm = low_half value }
row (Load form dst src offset) =
    record { opcode = memory_opcode (load_mode form) (load_size form) 1; dst = number_of dst; src = number_of src; offset = offset; imm = pos 0 }
row (Store size dst src offset) =
    record { opcode = memory_opcode 3 (store_size size) (store_class src); dst = number_of dst; src = src_of src; offset = offset; imm = imm_of src }
row (Call (Helper number)) = record { opcode = opcode_of 0x8 0 5; dst = 0; src = 0; offset = pos 0; imm = number }
row (Call (Local distance)) = record { opcode = opcode_of 0x8 0 5; dst = 0; src = 1; offset = pos 0; imm = distance }
row Exit = record { opcode = opcode_of 0x9 0 5; dst = 0; src = 0; offset = pos 0; imm = pos 0 }

-- The rows of the slots after the first: a 64-bit constant has one, whose imm is its high half (section 5.4).
abbrev pub further_rows : Insn → List Fields
further_rows (LoadImmediate dst value) = record { opcode = 0; dst = 0; src = 0; offset = pos 0; imm = high_half value } ∷ []
further_rows (Alu width op dst src) = []
further_rows (InPlace op dst) = []
further_rows (SignExtend extension dst src) = []
further_rows (JumpIf width condition dst src offset) = []
further_rows (Jump distance) = []
further_rows (Load form dst src offset) = []
further_rows (Store size dst src offset) = []
further_rows (Call callee) = []
further_rows Exit = []

-- the rows of all slots of an instruction
abbrev pub rows : Insn → List Fields
rows insn = row insn ∷ further_rows insn

-- a 64-bit constant is a number of 64 bits
abbrev pub HasWord : Insn → Type 0
HasWord (LoadImmediate dst value) = value < 2 ^ 64
HasWord (Alu width op dst src) = Unit {0}
HasWord (InPlace op dst) = Unit {0}
HasWord (SignExtend extension dst src) = Unit {0}
HasWord (JumpIf width condition dst src offset) = Unit {0}
HasWord (Jump distance) = Unit {0}
HasWord (Load form dst src offset) = Unit {0}
HasWord (Store size dst src offset) = Unit {0}
HasWord (Call callee) = Unit {0}
HasWord Exit = Unit {0}

-- the bytes begin with slots of these fields
abbrev pub BeginsWith : List ℕ → List Fields → Type 0
BeginsWith bytes [] = Unit {0}
BeginsWith bytes (fields ∷ behind) = (8 ≤ length bytes) × (fields_of bytes ≡ fields) × BeginsWith (drop 8 bytes) behind

-- the bytes begin with the slots of this instruction
abbrev pub SpellsInsn : List ℕ → Insn → Type 0
SpellsInsn bytes insn = BeginsWith bytes (rows insn) × HasWord insn

-- what is left of bytes after the slots of this instruction, 8 bytes each
abbrev pub behind_insn : List ℕ → Insn → List ℕ
behind_insn bytes insn = drop (8 * length (slots_of insn)) bytes

-- The bytes begin with the slots of these instructions, one after the other, and the rest is left.
abbrev pub SpellsThen : List ℕ → List Insn → List ℕ → Type 0
SpellsThen bytes [] rest = bytes ≡ rest
SpellsThen bytes (insn ∷ insns) rest = SpellsInsn bytes insn × SpellsThen (behind_insn bytes insn) insns rest

-- numbers of 8 bits
abbrev pub AreBytes : List ℕ → Type 0
AreBytes bytes = (i : ℕ) → slice_index bytes i < 256

-- the bytes are those of the program's instructions in a row, and nothing is left
pub record Spells (bytes : List ℕ) (program : List Slot) : Type 0 where
  pub is_program : IsProgram program
  pub are_bytes : AreBytes bytes
  pub in_a_row : SpellsThen bytes (insns_in program) []

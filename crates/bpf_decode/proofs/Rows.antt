-- One row of the table: fields spell at most one instruction, and no fault holds of what they spell.
use Rattle.std.proofs.Common.{◌≡◌, ◌<◌, ◌%◌, ℕ, ℤ, pos, false, nat_lt, ◌==◌, List, [], ◌∷◌, Option, None, if◌then◌else◌, refl, ◌∙◌, arith}
use Rattle.std.specs.Option.{unwrap_or}
use Rattle.std.specs.Ordering.{int_eq}
use Rattle.bpf_insn.specs.declared.reg.Reg.{Reg}
use Rattle.bpf_insn.specs.declared.reg.Reg.TheVariants.{R0, R1, R2, R3, R4, R5, R6, R7, R8, R9, R10}
use Rattle.bpf_insn.specs.declared.insn.Insn.{Insn}
use Rattle.bpf_insn.specs.declared.insn.Insn.TheVariants.{Alu, InPlace, SignExtend, JumpIf, Jump, LoadImmediate, Load, Store, Call, Exit}
use Rattle.bpf_insn.specs.declared.insn.Operand.TheVariants.{Immediate, Register}
use Rattle.bpf_insn.specs.declared.insn.Callee.TheVariants.{Helper, Local}
use Rattle.bpf_insn.specs.declared.insn.Distance.TheVariants.{Near, Far}
use Rattle.bpf_insn.specs.declared.insn.Width.TheVariants.{Bits32, Bits64}
use Rattle.bpf_insn.specs.declared.insn.AluOp.{AluOp}
use Rattle.bpf_insn.specs.declared.insn.AluOp.TheVariants.{Add}
use Rattle.bpf_insn.specs.declared.insn.InPlaceOp.TheVariants.{Neg, Reorder}
use Rattle.bpf_insn.specs.declared.insn.ByteOrder.TheVariants.{Little, Big, Swapped}
use Rattle.bpf_insn.specs.declared.insn.WordSize.{WordSize}
use Rattle.bpf_insn.specs.declared.insn.WordSize.TheVariants.{Word16, Word32, Word64}
use Rattle.bpf_insn.specs.declared.insn.SignExtension.{SignExtension}
use Rattle.bpf_insn.specs.declared.insn.SignExtension.TheVariants.{From8To32, From16To32, From8To64, From16To64, From32To64}
use Rattle.bpf_insn.specs.declared.insn.Condition.{Condition}
use Rattle.bpf_insn.specs.declared.insn.Condition.TheVariants.{Equal}
use Rattle.bpf_insn.specs.declared.insn.LoadForm.{LoadForm}
use Rattle.bpf_insn.specs.declared.insn.LoadForm.TheVariants as loads
use Rattle.bpf_insn.specs.declared.insn.StoreSize.{StoreSize}
use Rattle.bpf_insn.specs.declared.insn.StoreSize.TheVariants as stores
use Rattle.bpf_insn.specs.Reg.{number_of}
use Rattle.bpf_insn.specs.Operations.{alu_code, condition_code, alu_of_form, condition_of_code}
use Rattle.bpf_insn.specs.Program.{is_frame_pointer, writes_frame_pointer}
use Rattle.bpf_decode.specs.declared.fields.Fields.{Fields}
use Rattle.bpf_decode.specs.FieldTests.{class_in, code_in, size_in, mode_in, is_sign_extension, fault_of}
use Rattle.bpf_decode.specs.FieldTests as tests
use Rattle.bpf_decode.specs.Kinds.{form_in, operand_in, callee_in, word_of, AreBehind}
use Rattle.bpf_decode.specs.Spells.{row, further_rows, HasWord, opcode_of, source_of}
use Rattle.bpf_decode.proofs.Words.{word_of_halves}

-- the register of a number
abbrev reg_of : ℕ → Reg
reg_of n =
    if n == 0 then R0 else if n == 1 then R1 else if n == 2 then R2 else if n == 3 then R3 else if n == 4 then R4
    else if n == 5 then R5 else if n == 6 then R6 else if n == 7 then R7 else if n == 8 then R8 else if n == 9 then R9 else R10

reg_of-number_of : (r : Reg) → reg_of (number_of r) ≡ r
reg_of-number_of R0 = refl
reg_of-number_of r = refl

in_range : (r : Reg) → nat_lt 10 (number_of r) ≡ false
in_range R0 = refl
in_range r = refl

is_ten : (r : Reg) → (number_of r == 10) ≡ is_frame_pointer r
is_ten R0 = refl
is_ten r = refl

-- the operation of a code and an offset, the size of an imm, the extension of a class and an offset, the condition of a code
abbrev op_from : ℕ → ℤ → AluOp
op_from code offset = unwrap_or (alu_of_form code (form_in code offset)) Add

abbrev size_from : ℤ → WordSize
size_from imm = if int_eq imm (pos 16) then Word16 else if int_eq imm (pos 32) then Word32 else Word64

abbrev extension_from : ℕ → ℤ → SignExtension
extension_from class offset =
    if int_eq offset (pos 32) then From32To64
    else if class == 7 then (if int_eq offset (pos 8) then From8To64 else From16To64)
    else if int_eq offset (pos 8) then From8To32 else From16To32

abbrev condition_from : ℕ → Condition
condition_from code = unwrap_or (condition_of_code code) Equal

-- the load of a mode and a size, and the store of a size
abbrev load_from : ℕ → ℕ → LoadForm
load_from mode size =
    if mode == 3 then (if size == 0 then loads.Word else if size == 1 then loads.HalfWord else if size == 2 then loads.Byte else loads.DoubleWord)
    else if size == 0 then loads.SignedWord else if size == 1 then loads.SignedHalfWord else loads.SignedByte

abbrev store_from : ℕ → StoreSize
store_from size = if size == 0 then stores.Word else if size == 1 then stores.HalfWord else if size == 2 then stores.Byte else stores.DoubleWord

-- the instruction that fields spell, if they spell one, where a second slot has this imm
abbrev pub insn_from : Fields → ℤ → Insn
insn_from f further =
    if f.opcode == 0x05 then Jump (Near f.offset)
    else if f.opcode == 0x06 then Jump (Far f.imm)
    else if f.opcode == 0x85 then Call (callee_in f)
    else if f.opcode == 0x95 then Exit
    else if f.opcode == 0x84 then InPlace (Neg Bits32) (reg_of f.dst)
    else if f.opcode == 0x87 then InPlace (Neg Bits64) (reg_of f.dst)
    else if f.opcode == 0xd4 then InPlace (Reorder Little (size_from f.imm)) (reg_of f.dst)
    else if f.opcode == 0xdc then InPlace (Reorder Big (size_from f.imm)) (reg_of f.dst)
    else if f.opcode == 0xd7 then InPlace (Reorder Swapped (size_from f.imm)) (reg_of f.dst)
    else if is_sign_extension f then SignExtend (extension_from (class_in f) f.offset) (reg_of f.dst) (reg_of f.src)
    else if class_in f == 4 then Alu Bits32 (op_from (code_in f) f.offset) (reg_of f.dst) (operand_in f (reg_of f.src))
    else if class_in f == 7 then Alu Bits64 (op_from (code_in f) f.offset) (reg_of f.dst) (operand_in f (reg_of f.src))
    else if class_in f == 5 then JumpIf Bits64 (condition_from (code_in f)) (reg_of f.dst) (operand_in f (reg_of f.src)) f.offset
    else if class_in f == 6 then JumpIf Bits32 (condition_from (code_in f)) (reg_of f.dst) (operand_in f (reg_of f.src)) f.offset
    else if class_in f == 1 then Load (load_from (mode_in f) (size_in f)) (reg_of f.dst) (reg_of f.src) f.offset
    else if class_in f == 2 then Store (store_from (size_in f)) (reg_of f.dst) (Immediate f.imm) f.offset
    else if class_in f == 3 then Store (store_from (size_in f)) (reg_of f.dst) (Register (reg_of f.src)) f.offset
    else LoadImmediate (reg_of f.dst) (word_of f.imm further)

-- the imm of the second slot, where there is one
abbrev pub HasFurther : List Fields → ℤ → Type 0
HasFurther [] further = Unit {0}
HasFurther (second ∷ rows) further = second.imm ≡ further

-- A line for Add or Equal stands above one for all others, which is checked for each of them.
pub insn_from_row : (i : Insn) (further : ℤ) → HasFurther (further_rows i) further → HasWord i → insn_from (row i) further ≡ i
unfolding alu_of_form condition_of_code
insn_from_row (Alu Bits32 Add dst (Immediate value)) further h w = rw (reg_of-number_of dst) refl
insn_from_row (Alu Bits32 op dst (Immediate value)) further h w = rw (reg_of-number_of dst) refl
insn_from_row (Alu Bits32 Add dst (Register src)) further h w = rw (reg_of-number_of dst, reg_of-number_of src) refl
insn_from_row (Alu Bits32 op dst (Register src)) further h w = rw (reg_of-number_of dst, reg_of-number_of src) refl
insn_from_row (Alu Bits64 Add dst (Immediate value)) further h w = rw (reg_of-number_of dst) refl
insn_from_row (Alu Bits64 op dst (Immediate value)) further h w = rw (reg_of-number_of dst) refl
insn_from_row (Alu Bits64 Add dst (Register src)) further h w = rw (reg_of-number_of dst, reg_of-number_of src) refl
insn_from_row (Alu Bits64 op dst (Register src)) further h w = rw (reg_of-number_of dst, reg_of-number_of src) refl
insn_from_row (InPlace (Neg Bits32) dst) further h w = rw (reg_of-number_of dst) refl
insn_from_row (InPlace (Neg Bits64) dst) further h w = rw (reg_of-number_of dst) refl
insn_from_row (InPlace (Reorder Little Word16) dst) further h w = rw (reg_of-number_of dst) refl
insn_from_row (InPlace (Reorder Little size) dst) further h w = rw (reg_of-number_of dst) refl
insn_from_row (InPlace (Reorder Big Word16) dst) further h w = rw (reg_of-number_of dst) refl
insn_from_row (InPlace (Reorder Big size) dst) further h w = rw (reg_of-number_of dst) refl
insn_from_row (InPlace (Reorder Swapped Word16) dst) further h w = rw (reg_of-number_of dst) refl
insn_from_row (InPlace (Reorder Swapped size) dst) further h w = rw (reg_of-number_of dst) refl
insn_from_row (SignExtend From8To32 dst src) further h w = rw (reg_of-number_of dst, reg_of-number_of src) refl
insn_from_row (SignExtend extension dst src) further h w = rw (reg_of-number_of dst, reg_of-number_of src) refl
insn_from_row (JumpIf Bits32 Equal dst (Immediate value) offset) further h w = rw (reg_of-number_of dst) refl
insn_from_row (JumpIf Bits32 condition dst (Immediate value) offset) further h w = rw (reg_of-number_of dst) refl
insn_from_row (JumpIf Bits32 Equal dst (Register src) offset) further h w = rw (reg_of-number_of dst, reg_of-number_of src) refl
insn_from_row (JumpIf Bits32 condition dst (Register src) offset) further h w = rw (reg_of-number_of dst, reg_of-number_of src) refl
insn_from_row (JumpIf Bits64 Equal dst (Immediate value) offset) further h w = rw (reg_of-number_of dst) refl
insn_from_row (JumpIf Bits64 condition dst (Immediate value) offset) further h w = rw (reg_of-number_of dst) refl
insn_from_row (JumpIf Bits64 Equal dst (Register src) offset) further h w = rw (reg_of-number_of dst, reg_of-number_of src) refl
insn_from_row (JumpIf Bits64 condition dst (Register src) offset) further h w = rw (reg_of-number_of dst, reg_of-number_of src) refl
insn_from_row (Jump (Near offset)) further h w = refl
insn_from_row (Jump (Far imm)) further h w = refl
insn_from_row (LoadImmediate dst value) further h w = rw (reg_of-number_of dst, ← h, word_of_halves value w) refl
insn_from_row (Load loads.Word dst src offset) further h w = rw (reg_of-number_of dst, reg_of-number_of src) refl
insn_from_row (Load form dst src offset) further h w = rw (reg_of-number_of dst, reg_of-number_of src) refl
insn_from_row (Store stores.Word dst (Immediate value) offset) further h w = rw (reg_of-number_of dst) refl
insn_from_row (Store size dst (Immediate value) offset) further h w = rw (reg_of-number_of dst) refl
insn_from_row (Store stores.Word dst (Register src) offset) further h w = rw (reg_of-number_of dst, reg_of-number_of src) refl
insn_from_row (Store size dst (Register src) offset) further h w = rw (reg_of-number_of dst, reg_of-number_of src) refl
insn_from_row (Call (Helper number)) further h w = refl
insn_from_row (Call (Local distance)) further h w = refl
insn_from_row Exit further h w = refl

class_of_row : (code source class : ℕ) → class < 8 → opcode_of code source class % 8 ≡ class
class_of_row code source class h = omega arith

-- whether R10 is written can be told from the fields
pub writes_in_row : (i : Insn) → tests.writes_frame_pointer (row i) ≡ writes_frame_pointer i
writes_in_row (Alu Bits32 op dst src) = rw (class_of_row (alu_code op) (source_of src) 4 (omega arith), is_ten dst) refl
writes_in_row (Alu Bits64 op dst src) = rw (class_of_row (alu_code op) (source_of src) 7 (omega arith), is_ten dst) refl
writes_in_row (InPlace (Neg Bits32) dst) = rw is_ten refl
writes_in_row (InPlace (Neg Bits64) dst) = rw is_ten refl
writes_in_row (InPlace (Reorder Little size) dst) = rw is_ten refl
writes_in_row (InPlace (Reorder Big size) dst) = rw is_ten refl
writes_in_row (InPlace (Reorder Swapped size) dst) = rw is_ten refl
writes_in_row (SignExtend From8To32 dst src) = rw is_ten refl
writes_in_row (SignExtend extension dst src) = rw is_ten refl
writes_in_row (JumpIf Bits32 condition dst src offset) = rw (class_of_row (condition_code condition) (source_of src) 6 (omega arith)) refl
writes_in_row (JumpIf Bits64 condition dst src offset) = rw (class_of_row (condition_code condition) (source_of src) 5 (omega arith)) refl
writes_in_row (Jump (Near offset)) = refl
writes_in_row (Jump (Far imm)) = refl
writes_in_row (LoadImmediate dst value) = rw is_ten refl
writes_in_row (Load loads.Word dst src offset) = rw is_ten refl
writes_in_row (Load form dst src offset) = rw is_ten refl
writes_in_row (Store stores.Word dst (Immediate value) offset) = refl
writes_in_row (Store size dst (Immediate value) offset) = refl
writes_in_row (Store stores.Word dst (Register src) offset) = refl
writes_in_row (Store size dst (Register src) offset) = refl
writes_in_row (Call (Helper number)) = refl
writes_in_row (Call (Local distance)) = refl
writes_in_row Exit = refl

-- no fault holds of a row that spares R10
pub no_fault_of_row : (i : Insn) (behind : Option Fields) → AreBehind behind (further_rows i) → writes_frame_pointer i ≡ false → fault_of (row i) behind ≡ None
no_fault_of_row (Alu Bits32 Add dst (Immediate value)) behind h spares = rw (in_range dst, is_ten dst ∙ spares) refl
no_fault_of_row (Alu Bits32 op dst (Immediate value)) behind h spares = rw (in_range dst, is_ten dst ∙ spares) refl
no_fault_of_row (Alu Bits32 Add dst (Register src)) behind h spares = rw (in_range dst, in_range src, is_ten dst ∙ spares) refl
no_fault_of_row (Alu Bits32 op dst (Register src)) behind h spares = rw (in_range dst, in_range src, is_ten dst ∙ spares) refl
no_fault_of_row (Alu Bits64 Add dst (Immediate value)) behind h spares = rw (in_range dst, is_ten dst ∙ spares) refl
no_fault_of_row (Alu Bits64 op dst (Immediate value)) behind h spares = rw (in_range dst, is_ten dst ∙ spares) refl
no_fault_of_row (Alu Bits64 Add dst (Register src)) behind h spares = rw (in_range dst, in_range src, is_ten dst ∙ spares) refl
no_fault_of_row (Alu Bits64 op dst (Register src)) behind h spares = rw (in_range dst, in_range src, is_ten dst ∙ spares) refl
no_fault_of_row (InPlace (Neg Bits32) dst) behind h spares = rw (in_range dst, is_ten dst ∙ spares) refl
no_fault_of_row (InPlace (Neg Bits64) dst) behind h spares = rw (in_range dst, is_ten dst ∙ spares) refl
no_fault_of_row (InPlace (Reorder Little Word16) dst) behind h spares = rw (in_range dst, is_ten dst ∙ spares) refl
no_fault_of_row (InPlace (Reorder Little size) dst) behind h spares = rw (in_range dst, is_ten dst ∙ spares) refl
no_fault_of_row (InPlace (Reorder Big Word16) dst) behind h spares = rw (in_range dst, is_ten dst ∙ spares) refl
no_fault_of_row (InPlace (Reorder Big size) dst) behind h spares = rw (in_range dst, is_ten dst ∙ spares) refl
no_fault_of_row (InPlace (Reorder Swapped Word16) dst) behind h spares = rw (in_range dst, is_ten dst ∙ spares) refl
no_fault_of_row (InPlace (Reorder Swapped size) dst) behind h spares = rw (in_range dst, is_ten dst ∙ spares) refl
no_fault_of_row (SignExtend From8To32 dst src) behind h spares = rw (in_range dst, in_range src, is_ten dst ∙ spares) refl
no_fault_of_row (SignExtend extension dst src) behind h spares = rw (in_range dst, in_range src, is_ten dst ∙ spares) refl
no_fault_of_row (JumpIf Bits32 Equal dst (Immediate value) offset) behind h spares = rw (in_range dst) refl
no_fault_of_row (JumpIf Bits32 condition dst (Immediate value) offset) behind h spares = rw (in_range dst) refl
no_fault_of_row (JumpIf Bits32 Equal dst (Register src) offset) behind h spares = rw (in_range dst, in_range src) refl
no_fault_of_row (JumpIf Bits32 condition dst (Register src) offset) behind h spares = rw (in_range dst, in_range src) refl
no_fault_of_row (JumpIf Bits64 Equal dst (Immediate value) offset) behind h spares = rw (in_range dst) refl
no_fault_of_row (JumpIf Bits64 condition dst (Immediate value) offset) behind h spares = rw (in_range dst) refl
no_fault_of_row (JumpIf Bits64 Equal dst (Register src) offset) behind h spares = rw (in_range dst, in_range src) refl
no_fault_of_row (JumpIf Bits64 condition dst (Register src) offset) behind h spares = rw (in_range dst, in_range src) refl
no_fault_of_row (Jump (Near offset)) behind h spares = refl
no_fault_of_row (Jump (Far imm)) behind h spares = refl
no_fault_of_row (LoadImmediate dst value) behind h spares = rw (h, in_range dst, is_ten dst ∙ spares) refl
no_fault_of_row (Load loads.Word dst src offset) behind h spares = rw (in_range dst, in_range src, is_ten dst ∙ spares) refl
no_fault_of_row (Load form dst src offset) behind h spares = rw (in_range dst, in_range src, is_ten dst ∙ spares) refl
no_fault_of_row (Store stores.Word dst (Immediate value) offset) behind h spares = rw (in_range dst) refl
no_fault_of_row (Store size dst (Immediate value) offset) behind h spares = rw (in_range dst) refl
no_fault_of_row (Store stores.Word dst (Register src) offset) behind h spares = rw (in_range dst, in_range src) refl
no_fault_of_row (Store size dst (Register src) offset) behind h spares = rw (in_range dst, in_range src) refl
no_fault_of_row (Call (Helper number)) behind h spares = refl
no_fault_of_row (Call (Local distance)) behind h spares = refl
no_fault_of_row Exit behind h spares = refl

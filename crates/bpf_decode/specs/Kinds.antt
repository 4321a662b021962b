-- What the table of opcodes answers: an instruction without its operands, what the operands are beside it, and when fields
-- are the rows of an instruction.
use Rattle.std.specs.Prelude.{◌≡◌, ◌≤◌, ◌+◌, ◌*◌, ◌^◌, ℕ, ℤ, pos, true, false, ◌&&◌, ◌==◌, List, [], ◌∷◌, Option, Some, if◌then◌else◌}
use Rattle.std.specs.Int.{w32, cast_unsigned}
use Rattle.std.specs.Ordering.{int_eq}
use Rattle.bpf_insn.specs.declared.insn.Insn.{Insn}
use Rattle.bpf_insn.specs.declared.insn.Operand.{Operand}
use Rattle.bpf_insn.specs.declared.insn.Operand.TheVariants.{Immediate, Register}
use Rattle.bpf_insn.specs.declared.insn.Callee.{Callee}
use Rattle.bpf_insn.specs.declared.insn.Callee.TheVariants.{Helper, Local}
use Rattle.bpf_insn.specs.declared.reg.Reg.{Reg}
use Rattle.bpf_insn.specs.declared.insn.SignExtension.{SignExtension}
use Rattle.bpf_insn.specs.Operations.{alu_code, alu_offset, condition_code}
use Rattle.bpf_decode.specs.declared.fields.Fields.{Fields}
use Rattle.bpf_decode.specs.declared.kind.Kind.{Kind}
use Rattle.bpf_decode.specs.declared.kind.Kind.TheVariants.{Alu, Neg, Reorder, SignExtend, JumpIf, JumpNear, JumpFar, Call, Exit}
use Rattle.bpf_decode.specs.declared.kind.Kind.TheVariants as kinds
use Rattle.bpf_decode.specs.declared.transfer.Transfer.{Transfer}
use Rattle.bpf_decode.specs.declared.transfer.Transfer.TheVariants.{Constant, Load, StoreImmediate, StoreRegister}
use Rattle.bpf_decode.specs.FieldTests.{is_one_of, class_in, code_in, size_in, mode_in, takes_register, is_sign_extension}
use Rattle.bpf_decode.specs.Spells.{row, further_rows, HasWord, alu_class, order_source, order_class, extension_offset, extension_class, jump_class, load_mode, load_size, store_size}

-- 1 where the code is that of a division and the offset makes it signed, and else 0
abbrev pub form_in : ℕ → ℤ → ℤ
form_in code offset = if is_one_of code (0x3 ∷ 0x9 ∷ []) && int_eq offset (pos 1) then pos 1 else pos 0

-- class, code and source K
abbrev pub IsConstantForm : Fields → ℕ → ℕ → Type 0
IsConstantForm f class code = (class_in f ≡ class) × (code_in f ≡ code) × (takes_register f ≡ false)

-- class, mode and size of a load or store
abbrev pub IsMemoryForm : Fields → ℕ → ℕ → ℕ → Type 0
IsMemoryForm f class mode size = (class_in f ≡ class) × (mode_in f ≡ mode) × (size_in f ≡ size)

abbrev pub IsTransfer : Fields → Transfer → Type 0
IsTransfer f Constant = IsMemoryForm f 0 0 3
IsTransfer f (Load form) = IsMemoryForm f 1 (load_mode form) (load_size form)
IsTransfer f (StoreImmediate size) = IsMemoryForm f 2 3 (store_size size)
IsTransfer f (StoreRegister size) = IsMemoryForm f 3 3 (store_size size)

-- the sign extension of a register's move
abbrev pub IsExtension : Fields → SignExtension → Type 0
IsExtension f extension =
    (class_in f ≡ extension_class extension) × (code_in f ≡ 0xb) × (takes_register f ≡ true) × (f.offset ≡ extension_offset extension)

abbrev pub IsKind : Fields → Kind → Type 0
IsKind f (Alu width op) =
    (class_in f ≡ alu_class width) × (code_in f ≡ alu_code op) × (alu_offset op ≡ form_in (code_in f) f.offset) × (is_sign_extension f ≡ false)
IsKind f (Neg width) = IsConstantForm f (alu_class width) 0x8
IsKind f (Reorder order) = (class_in f ≡ order_class order) × (code_in f ≡ 0xd) × (takes_register f ≡ (order_source order == 1))
IsKind f (SignExtend extension) = IsExtension f extension
IsKind f (JumpIf width condition) = (class_in f ≡ jump_class width) × (code_in f ≡ condition_code condition)
IsKind f JumpNear = IsConstantForm f 5 0x0
IsKind f JumpFar = IsConstantForm f 6 0x0
IsKind f Call = IsConstantForm f 5 0x8
IsKind f Exit = IsConstantForm f 5 0x9
IsKind f (kinds.Transfer transfer) = IsTransfer f transfer

-- the second operand, where src names this register
abbrev pub operand_in : Fields → Reg → Operand
operand_in f src = if takes_register f then Register src else Immediate f.imm

-- what a call calls
abbrev pub callee_in : Fields → Callee
callee_in f = if f.src == 1 then Local f.imm else Helper f.imm

-- the constant of 64 bits of these halves
abbrev pub word_of : ℤ → ℤ → ℕ
word_of low high = cast_unsigned w32 high * 2 ^ 32 + cast_unsigned w32 low

-- the slots after the first have these fields
abbrev pub AreBehind : Option Fields → List Fields → Type 0
AreBehind behind [] = Unit {0}
AreBehind behind (second ∷ further) = behind ≡ Some second

-- the fields of the first slot, and of the one after it, are the rows of this instruction
abbrev pub IsSpelled : Fields → Option Fields → Insn → Type 0
IsSpelled f behind insn = (f ≡ row insn) × AreBehind behind (further_rows insn) × HasWord insn

-- the fields of the first slot are the row of this instruction, and name registers
abbrev pub IsRow : Fields → Insn → Type 0
IsRow f insn = (f ≡ row insn) × (f.dst ≤ 10) × (f.src ≤ 10)

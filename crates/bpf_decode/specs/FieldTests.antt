-- The faults of one instruction, by the fields of its first slot and of the slot after it, each a test of its own, in the
-- classes, codes, modes and sizes of RFC 9669, sections 3.3, 4 and 5. They do not rely on `Spells`.
use Rattle.std.specs.Prelude.{ℕ, ℤ, pos, ◌%◌, ◌/◌, Bool, true, false, not, ◌&&◌, ◌||◌, ◌==◌, nat_lt, nat_le, List, [], ◌∷◌, Option, Some, None, is_none, if◌then◌else◌}
use Rattle.std.specs.List.{list_any}
use Rattle.std.specs.Ordering.{int_eq}
use Rattle.bpf_decode.specs.declared.fields.Fields.{Fields}
use Rattle.bpf_decode.specs.declared.fault.InsnFault.{InsnFault}
use Rattle.bpf_decode.specs.declared.fault.InsnFault.TheVariants.{UnknownOpcode, OutsideProfile, NoSuchRegister, UnusedField, NoSuchForm, CutShort, FramePointer}
use Rattle.bpf_decode.specs.declared.used.Used.{Used}

abbrev pub is_one_of : ℕ → List ℕ → Bool
is_one_of n ns = list_any (λ m. n == m) ns

abbrev pub is_zero : ℤ → Bool
is_zero z = int_eq z (pos 0)

-- the class: LD 0, LDX 1, ST 2, STX 3, ALU 4, JMP 5, JMP32 6, ALU64 7
abbrev pub class_in : Fields → ℕ
class_in f = f.opcode % 8

-- source X: the second operand is the register src, and not imm as with source K
abbrev pub takes_register : Fields → Bool
takes_register f = f.opcode / 8 % 2 == 1

abbrev pub code_in : Fields → ℕ
code_in f = f.opcode / 16

-- of a load or store, the size: W 0, H 1, B 2, DW 3
abbrev pub size_in : Fields → ℕ
size_in f = f.opcode / 8 % 4

-- of a load or store, the mode: IMM 0, MEM 3, MEMSX 4
abbrev pub mode_in : Fields → ℕ
mode_in f = f.opcode / 32

-- arithmetic: the codes from 0 to c in ALU and ALU64, but for NEG 8
abbrev pub is_arithmetic : Fields → Bool
is_arithmetic f = is_one_of (class_in f) (4 ∷ 7 ∷ []) && nat_le (code_in f) 0xc && not (code_in f == 0x8)

-- DIV 3 and MOD 9
abbrev pub is_division : Fields → Bool
is_division f = is_arithmetic f && is_one_of (code_in f) (0x3 ∷ 0x9 ∷ [])

-- MOV b of a register
abbrev pub is_register_move : Fields → Bool
is_register_move f = is_arithmetic f && code_in f == 0xb && takes_register f

-- such a move that sign-extends the low 8, 16 or, in ALU64, 32 bits
abbrev pub is_sign_extension : Fields → Bool
is_sign_extension f =
    is_register_move f && (int_eq f.offset (pos 8) || int_eq f.offset (pos 16) || (int_eq f.offset (pos 32) && class_in f == 7))

-- NEG 8 with source K, in ALU and ALU64
abbrev pub is_negation : Fields → Bool
is_negation f = is_one_of (class_in f) (4 ∷ 7 ∷ []) && code_in f == 0x8 && not (takes_register f)

-- END d: in ALU to little-endian by source K and to big-endian by source X, and in ALU64 swapped, with source K
abbrev pub is_byte_order : Fields → Bool
is_byte_order f = is_one_of (class_in f) (4 ∷ 7 ∷ []) && code_in f == 0xd && not (class_in f == 7 && takes_register f)

-- conditional jumps: the codes from 1 to d in JMP and JMP32, but for CALL 8 and EXIT 9
abbrev pub is_conditional : Fields → Bool
is_conditional f = is_one_of (class_in f) (5 ∷ 6 ∷ []) && nat_le 0x1 (code_in f) && nat_le (code_in f) 0xd && not (is_one_of (code_in f) (0x8 ∷ 0x9 ∷ []))

-- JA 0 with source K: in JMP by offset, in JMP32 by imm
abbrev pub is_near_jump : Fields → Bool
is_near_jump f = class_in f == 5 && code_in f == 0x0 && not (takes_register f)

abbrev pub is_far_jump : Fields → Bool
is_far_jump f = class_in f == 6 && code_in f == 0x0 && not (takes_register f)

-- CALL 8 in JMP with source K, where src is 0 for a helper, 1 for a local function and 2 for a BTF identifier
abbrev pub is_call : Fields → Bool
is_call f = class_in f == 5 && code_in f == 0x8 && not (takes_register f)

-- EXIT 9 in JMP with source K
abbrev pub is_exit : Fields → Bool
is_exit f = class_in f == 5 && code_in f == 0x9 && not (takes_register f)

-- a 64-bit constant, of two slots: IMM and DW in LD
abbrev pub is_load_immediate : Fields → Bool
is_load_immediate f = class_in f == 0 && mode_in f == 0 && size_in f == 3

-- loads: MEM, and but for DW also MEMSX, in LDX
abbrev pub is_load : Fields → Bool
is_load f = class_in f == 1 && (mode_in f == 3 || (mode_in f == 4 && not (size_in f == 3)))

-- stores: MEM, in ST of imm and in STX of src
abbrev pub is_store : Fields → Bool
is_store f = is_one_of (class_in f) (2 ∷ 3 ∷ []) && mode_in f == 3

-- the opcodes that there are in this project's profile
abbrev pub is_known : Fields → Bool
is_known f =
    is_arithmetic f || is_negation f || is_byte_order f || is_conditional f || is_near_jump f || is_far_jump f || is_call f || is_exit f
    || is_load_immediate f || is_load f || is_store f

-- E5: atomic instructions, packet access, 64-bit immediates that are no numbers, calls by BTF identifier
abbrev pub is_outside_profile : Fields → Bool
is_outside_profile f =
    is_one_of f.opcode (0xc3 ∷ 0xdb ∷ 0x20 ∷ 0x28 ∷ 0x30 ∷ 0x40 ∷ 0x48 ∷ 0x50 ∷ [])
    || (is_load_immediate f && nat_le 1 f.src && nat_le f.src 6)
    || (is_call f && f.src == 2)

-- E4
abbrev pub is_unknown : Fields → Bool
is_unknown f = not (is_outside_profile f) && not (is_known f)

-- E6
abbrev pub has_no_register : Fields → Bool
has_no_register f = nat_lt 10 f.dst || nat_lt 10 f.src

-- Which fields an instruction uses. The src of a call is one of them where it is 1, for a local function.
abbrev pub used : Fields → Used
used f =
    if is_arithmetic f then
    record { dst = true; src = takes_register f; offset = is_division f || is_register_move f; imm = not (takes_register f) }
    else if is_conditional f then record { dst = true; src = takes_register f; offset = true; imm = not (takes_register f) }
    else if is_negation f then record { dst = true; src = false; offset = false; imm = false }
    else if is_byte_order f then record { dst = true; src = false; offset = false; imm = true }
    else if is_near_jump f then record { dst = false; src = false; offset = true; imm = false }
    else if is_far_jump f then record { dst = false; src = false; offset = false; imm = true }
    else if is_call f then record { dst = false; src = f.src == 1; offset = false; imm = true }
    else if is_load_immediate f then record { dst = true; src = false; offset = false; imm = true }
    else if is_load f then record { dst = true; src = true; offset = true; imm = false }
    else if is_store f then record { dst = true; src = class_in f == 3; offset = true; imm = class_in f == 2 }
    else record { dst = false; src = false; offset = false; imm = false }

-- a field that is not among them is not zero
abbrev pub has_field_beside : Used → Fields → Bool
has_field_beside used f =
    (not used.dst && not (f.dst == 0))
    || (not used.src && not (f.src == 0))
    || (not used.offset && not (is_zero f.offset))
    || (not used.imm && not (is_zero f.imm))

-- of a second slot, something beside imm is not zero
abbrev pub has_beside_imm : Option Fields → Bool
has_beside_imm None = false
has_beside_imm (Some f) = not (f.opcode == 0) || not (f.dst == 0) || not (f.src == 0) || not (is_zero f.offset)

-- E7: a field that the instruction does not use is not zero, in its first slot or in its second
abbrev pub has_unused_field : Fields → Option Fields → Bool
has_unused_field f behind = has_field_beside (used f) f || (is_load_immediate f && has_beside_imm behind)

-- how many bits a byte order is for
abbrev pub has_word_size : Fields → Bool
has_word_size f = int_eq f.imm (pos 16) || int_eq f.imm (pos 32) || int_eq f.imm (pos 64)

-- E8: The offset or imm selects no form. A division is unsigned by 0 and signed by 1; a move of a register is plain by 0;
-- a byte order is for 16, 32 or 64 bits.
abbrev pub has_no_form : Fields → Bool
has_no_form f =
    (is_division f && not (is_zero f.offset || int_eq f.offset (pos 1)))
    || (is_register_move f && not (is_zero f.offset || is_sign_extension f))
    || (is_byte_order f && not (has_word_size f))

-- E9: there is no second slot
abbrev pub is_cut_short : Fields → Option Fields → Bool
is_cut_short f behind = is_load_immediate f && is_none behind

-- E10: dst is the frame pointer in one of the classes LD, LDX, ALU and ALU64
abbrev pub writes_frame_pointer : Fields → Bool
writes_frame_pointer f = is_one_of (class_in f) (0 ∷ 1 ∷ 4 ∷ 7 ∷ []) && f.dst == 10

-- the fault of an instruction, the first of those that hold in the order of their numbers
abbrev pub fault_of : Fields → Option Fields → Option InsnFault
fault_of f behind =
    if is_unknown f then Some UnknownOpcode
    else if is_outside_profile f then Some OutsideProfile
    else if has_no_register f then Some NoSuchRegister
    else if has_unused_field f behind then Some UnusedField
    else if has_no_form f then Some NoSuchForm
    else if is_cut_short f behind then Some CutShort
    else if writes_frame_pointer f then Some FramePointer
    else None

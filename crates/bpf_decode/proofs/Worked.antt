-- Worked rows of the definitions: rows of instructions, the opcodes that are known as RFC 9669
-- lists them, the faults of single instructions, and a constant of 64 bits from its bytes.
use Rattle.std.proofs.Common.{◌≡◌, ℕ, ℤ, pos, negsuc, List, [], ◌∷◌, ◌++◌, Option, Some, None, map, filter, flat_map, replicate, refl, arith}
use Rattle.bpf_insn.specs.declared.reg.Reg.TheVariants.{R1, R2, R3, R10}
use Rattle.bpf_insn.specs.declared.insn.Insn.TheVariants.{Alu, InPlace, SignExtend, JumpIf, Jump, LoadImmediate, Load, Store, Call, Exit}
use Rattle.bpf_insn.specs.declared.insn.Callee.TheVariants.{Local}
use Rattle.bpf_insn.specs.declared.insn.Distance.TheVariants.{Near, Far}
use Rattle.bpf_insn.specs.declared.insn.LoadForm.TheVariants as loads
use Rattle.bpf_insn.specs.declared.insn.StoreSize.TheVariants as stores
use Rattle.bpf_insn.specs.declared.insn.Operand.TheVariants.{Immediate, Register}
use Rattle.bpf_insn.specs.declared.insn.Width.TheVariants.{Bits32, Bits64}
use Rattle.bpf_insn.specs.declared.insn.AluOp.TheVariants.{Add, Sub, SignedDiv, SignedMod, Arsh, Mov}
use Rattle.bpf_insn.specs.declared.insn.InPlaceOp.TheVariants.{Neg, Reorder}
use Rattle.bpf_insn.specs.declared.insn.ByteOrder.TheVariants.{Little, Big, Swapped}
use Rattle.bpf_insn.specs.declared.insn.WordSize.TheVariants.{Word16, Word32, Word64}
use Rattle.bpf_insn.specs.declared.insn.SignExtension.TheVariants.{From8To32, From16To32, From8To64, From16To64, From32To64}
use Rattle.bpf_insn.specs.declared.insn.Condition.TheVariants.{Equal, AnyBit, Less, SignedLessOrEqual}
use Rattle.bpf_decode.specs.declared.fields.Fields.{Fields}
use Rattle.bpf_decode.specs.declared.fault.InsnFault.TheVariants.{UnknownOpcode, OutsideProfile, NoSuchRegister, UnusedField, NoSuchForm, CutShort, FramePointer}
use Rattle.bpf_decode.specs.declared.fault.DecodeFault.TheVariants.{At}
use Rattle.bpf_decode.specs.declared.fault.InsnFault.{InsnFault}
use Rattle.bpf_decode.specs.FieldTests.{is_known, fault_of}
use Rattle.bpf_decode.specs.FirstFault.{HasFault}
use Rattle.bpf_decode.specs.Spells.{row, further_rows, opcode_of, memory_opcode, SpellsThen}

abbrev fields : ℕ → ℕ → ℕ → ℤ → ℤ → Fields
fields opcode dst src offset imm = record { opcode = opcode; dst = dst; src = src; offset = offset; imm = imm }

-- r1 = 5, r1 += r2, w1 -= w2, r1 s/= 3, w1 s%= w2, w1 s>>= 31
mov64_k : row (Alu Bits64 Mov R1 (Immediate (pos 5))) ≡ fields 0xb7 1 0 (pos 0) (pos 5)
mov64_k = refl

add64_x : row (Alu Bits64 Add R1 (Register R2)) ≡ fields 0x0f 1 2 (pos 0) (pos 0)
add64_x = refl

sub32_x : row (Alu Bits32 Sub R1 (Register R2)) ≡ fields 0x1c 1 2 (pos 0) (pos 0)
sub32_x = refl

sdiv64_k : row (Alu Bits64 SignedDiv R1 (Immediate (pos 3))) ≡ fields 0x37 1 0 (pos 1) (pos 3)
sdiv64_k = refl

smod32_x : row (Alu Bits32 SignedMod R1 (Register R2)) ≡ fields 0x9c 1 2 (pos 1) (pos 0)
smod32_x = refl

arsh32_k : row (Alu Bits32 Arsh R1 (Immediate (pos 31))) ≡ fields 0xc4 1 0 (pos 0) (pos 31)
arsh32_k = refl

-- w1 = -w1, r1 = -r1
neg32 : row (InPlace (Neg Bits32) R1) ≡ fields 0x84 1 0 (pos 0) (pos 0)
neg32 = refl

neg64 : row (InPlace (Neg Bits64) R1) ≡ fields 0x87 1 0 (pos 0) (pos 0)
neg64 = refl

-- r1 = le16 r1, r1 = be64 r1, r1 = bswap32 r1
le16 : row (InPlace (Reorder Little Word16) R1) ≡ fields 0xd4 1 0 (pos 0) (pos 16)
le16 = refl

be64 : row (InPlace (Reorder Big Word64) R1) ≡ fields 0xdc 1 0 (pos 0) (pos 64)
be64 = refl

bswap32 : row (InPlace (Reorder Swapped Word32) R1) ≡ fields 0xd7 1 0 (pos 0) (pos 32)
bswap32 = refl

-- w1 = (s8) w2, w1 = (s16) w2, r1 = (s8) r2, r1 = (s16) r2, r1 = (s32) r2
movsx8_32 : row (SignExtend From8To32 R1 R2) ≡ fields 0xbc 1 2 (pos 8) (pos 0)
movsx8_32 = refl

movsx16_32 : row (SignExtend From16To32 R1 R2) ≡ fields 0xbc 1 2 (pos 16) (pos 0)
movsx16_32 = refl

movsx8_64 : row (SignExtend From8To64 R1 R2) ≡ fields 0xbf 1 2 (pos 8) (pos 0)
movsx8_64 = refl

movsx16_64 : row (SignExtend From16To64 R1 R2) ≡ fields 0xbf 1 2 (pos 16) (pos 0)
movsx16_64 = refl

movsx32_64 : row (SignExtend From32To64 R1 R2) ≡ fields 0xbf 1 2 (pos 32) (pos 0)
movsx32_64 = refl

-- if r1 == 0 goto -2, if r1 & r10, if w1 < 7, if w1 s<= w2
jeq64_k : row (JumpIf Bits64 Equal R1 (Immediate (pos 0)) (negsuc 1)) ≡ fields 0x15 1 0 (negsuc 1) (pos 0)
jeq64_k = refl

jset64_x : row (JumpIf Bits64 AnyBit R1 (Register R10) (pos 4)) ≡ fields 0x4d 1 10 (pos 4) (pos 0)
jset64_x = refl

jlt32_k : row (JumpIf Bits32 Less R1 (Immediate (pos 7)) (pos 4)) ≡ fields 0xa6 1 0 (pos 4) (pos 7)
jlt32_k = refl

jsle32_x : row (JumpIf Bits32 SignedLessOrEqual R1 (Register R2) (pos 4)) ≡ fields 0xde 1 2 (pos 4) (pos 0)
jsle32_x = refl

-- goto +4, gotol -2, call local +4
ja : row (Jump (Near (pos 4))) ≡ fields 0x05 0 0 (pos 4) (pos 0)
ja = refl

ja32 : row (Jump (Far (negsuc 1))) ≡ fields 0x06 0 0 (pos 0) (negsuc 1)
ja32 = refl

call_local : row (Call (Local (pos 4))) ≡ fields 0x85 0 1 (pos 0) (pos 4)
call_local = refl

-- r1 = *(u32 *)(r2 + 4), r1 = *(u64 *)(r10 - 8), r1 = *(s8 *)(r2 + 4), r1 = *(s16 *)(r2 + 4)
ldxw : row (Load loads.Word R1 R2 (pos 4)) ≡ fields 0x61 1 2 (pos 4) (pos 0)
ldxw = refl

ldxdw : row (Load loads.DoubleWord R1 R10 (negsuc 7)) ≡ fields 0x79 1 10 (negsuc 7) (pos 0)
ldxdw = refl

ldxsb : row (Load loads.SignedByte R1 R2 (pos 4)) ≡ fields 0x91 1 2 (pos 4) (pos 0)
ldxsb = refl

ldxsh : row (Load loads.SignedHalfWord R1 R2 (pos 4)) ≡ fields 0x89 1 2 (pos 4) (pos 0)
ldxsh = refl

-- *(u8 *)(r10 - 1) = 7, *(u16 *)(r1 + 2) = r2, *(u64 *)(r10 - 8) = r1
stb : row (Store stores.Byte R10 (Immediate (pos 7)) (negsuc 0)) ≡ fields 0x72 10 0 (negsuc 0) (pos 7)
stb = refl

stxh : row (Store stores.HalfWord R1 (Register R2) (pos 2)) ≡ fields 0x6b 1 2 (pos 2) (pos 0)
stxh = refl

stxdw : row (Store stores.DoubleWord R10 (Register R1) (negsuc 7)) ≡ fields 0x7b 10 1 (negsuc 7) (pos 0)
stxdw = refl

-- r3 = 0x1122334455667788 ll, r3 = -1 ll
lddw : row (LoadImmediate R3 0x1122334455667788) ≡ fields 0x18 3 0 (pos 0) (pos 0x55667788)
lddw = refl

lddw_further : further_rows (LoadImmediate R3 0x1122334455667788) ≡ fields 0 0 0 (pos 0) (pos 0x11223344) ∷ []
lddw_further = refl

lddw_all_ones : row (LoadImmediate R3 0xffffffffffffffff) ∷ further_rows (LoadImmediate R3 0xffffffffffffffff) ≡ fields 0x18 3 0 (pos 0) (negsuc 0) ∷ fields 0 0 0 (pos 0) (negsuc 0) ∷ []
lddw_all_ones = refl

-- the opcodes of a class and a source that are known where all other fields are zero: their codes are from 0 to f
abbrev known_with : ℕ → ℕ → List ℕ
known_with class source =
    filter (λ opcode. is_known (fields opcode 0 0 (pos 0) (pos 0)))
    (map (λ code. opcode_of code source class) (0x0 ∷ 0x1 ∷ 0x2 ∷ 0x3 ∷ 0x4 ∷ 0x5 ∷ 0x6 ∷ 0x7 ∷ 0x8 ∷ 0x9 ∷ 0xa ∷ 0xb ∷ 0xc ∷ 0xd ∷ 0xe ∷ 0xf ∷ []))

alu_k : known_with 4 0 ≡ 0x04 ∷ 0x14 ∷ 0x24 ∷ 0x34 ∷ 0x44 ∷ 0x54 ∷ 0x64 ∷ 0x74 ∷ 0x84 ∷ 0x94 ∷ 0xa4 ∷ 0xb4 ∷ 0xc4 ∷ 0xd4 ∷ []
alu_k = refl

alu_x : known_with 4 1 ≡ 0x0c ∷ 0x1c ∷ 0x2c ∷ 0x3c ∷ 0x4c ∷ 0x5c ∷ 0x6c ∷ 0x7c ∷ 0x9c ∷ 0xac ∷ 0xbc ∷ 0xcc ∷ 0xdc ∷ []
alu_x = refl

jmp_k : known_with 5 0 ≡ 0x05 ∷ 0x15 ∷ 0x25 ∷ 0x35 ∷ 0x45 ∷ 0x55 ∷ 0x65 ∷ 0x75 ∷ 0x85 ∷ 0x95 ∷ 0xa5 ∷ 0xb5 ∷ 0xc5 ∷ 0xd5 ∷ []
jmp_k = refl

jmp_x : known_with 5 1 ≡ 0x1d ∷ 0x2d ∷ 0x3d ∷ 0x4d ∷ 0x5d ∷ 0x6d ∷ 0x7d ∷ 0xad ∷ 0xbd ∷ 0xcd ∷ 0xdd ∷ []
jmp_x = refl

jmp32_k : known_with 6 0 ≡ 0x06 ∷ 0x16 ∷ 0x26 ∷ 0x36 ∷ 0x46 ∷ 0x56 ∷ 0x66 ∷ 0x76 ∷ 0xa6 ∷ 0xb6 ∷ 0xc6 ∷ 0xd6 ∷ []
jmp32_k = refl

jmp32_x : known_with 6 1 ≡ 0x1e ∷ 0x2e ∷ 0x3e ∷ 0x4e ∷ 0x5e ∷ 0x6e ∷ 0x7e ∷ 0xae ∷ 0xbe ∷ 0xce ∷ 0xde ∷ []
jmp32_x = refl

alu64_k : known_with 7 0 ≡ 0x07 ∷ 0x17 ∷ 0x27 ∷ 0x37 ∷ 0x47 ∷ 0x57 ∷ 0x67 ∷ 0x77 ∷ 0x87 ∷ 0x97 ∷ 0xa7 ∷ 0xb7 ∷ 0xc7 ∷ 0xd7 ∷ []
alu64_k = refl

alu64_x : known_with 7 1 ≡ 0x0f ∷ 0x1f ∷ 0x2f ∷ 0x3f ∷ 0x4f ∷ 0x5f ∷ 0x6f ∷ 0x7f ∷ 0x9f ∷ 0xaf ∷ 0xbf ∷ 0xcf ∷ []
alu64_x = refl

-- the same of a class of loads and stores: their modes are from 0 to 7, their sizes from 0 to 3
abbrev known_of : ℕ → List ℕ
known_of class =
    filter (λ opcode. is_known (fields opcode 0 0 (pos 0) (pos 0)))
    (flat_map (λ mode. map (λ size. memory_opcode mode size class) (0 ∷ 1 ∷ 2 ∷ 3 ∷ [])) (0 ∷ 1 ∷ 2 ∷ 3 ∷ 4 ∷ 5 ∷ 6 ∷ 7 ∷ []))

ld : known_of 0 ≡ 0x18 ∷ []
ld = refl

ldx : known_of 1 ≡ 0x61 ∷ 0x69 ∷ 0x71 ∷ 0x79 ∷ 0x81 ∷ 0x89 ∷ 0x91 ∷ []
ldx = refl

st : known_of 2 ≡ 0x62 ∷ 0x6a ∷ 0x72 ∷ 0x7a ∷ []
st = refl

stx : known_of 3 ≡ 0x63 ∷ 0x6b ∷ 0x73 ∷ 0x7b ∷ []
stx = refl

-- the fault of fields with no slot after
abbrev fault_of_last : Fields → Option InsnFault
fault_of_last f = fault_of f None

-- no instruction
e4 : map fault_of_last (
    fields 0x8c 1 0 (pos 0) (pos 0) ∷  -- neg32 with source X
    fields 0x8f 1 2 (pos 0) (pos 0) ∷  -- neg64 with source X
    fields 0xdf 1 0 (pos 0) (pos 32) ∷  -- bswap32 with source X
    fields 0xe7 1 0 (pos 0) (pos 0) ∷  -- code e
    fields 0x0d 0 0 (pos 3) (pos 0) ∷  -- goto with source X
    fields 0x0e 0 0 (pos 0) (pos 3) ∷  -- gotol with source X
    fields 0x8d 1 0 (pos 0) (pos 0) ∷  -- a call with source X
    fields 0x86 0 0 (pos 0) (pos 1) ∷  -- call in JMP32
    fields 0x96 0 0 (pos 0) (pos 0) ∷  -- exit in JMP32
    fields 0xe5 1 0 (pos 0) (pos 0) ∷  -- code e
    fields 0x99 1 2 (pos 0) (pos 0) ∷  -- MEMSX of a double word
    fields 0x82 1 0 (pos 0) (pos 5) ∷  -- MEMSX of a store
    fields 0x00 1 0 (pos 0) (pos 5) ∷  -- a 32-bit immediate in LD
    fields 0xe7 11 11 (pos 1) (pos 1) ∷  -- whatever else is wrong
    []) ≡ replicate 14 (Some UnknownOpcode)
e4 = refl

-- outside the profile
e5 : map fault_of_last (
    fields 0xdb 1 2 (pos 0) (pos 0) ∷  -- atomic add
    fields 0x30 0 0 (pos 0) (pos 0) ∷  -- packet access
    fields 0x18 1 1 (pos 0) (pos 0) ∷  -- the address of a map
    fields 0x18 3 3 (pos 0) (pos 0) ∷  -- the address of a variable
    fields 0x18 15 6 (pos 1) (pos 0) ∷  -- whatever else is wrong
    fields 0x85 0 2 (pos 0) (pos 7) ∷  -- a call by BTF identifier
    fields 0x85 15 2 (pos 1) (pos 7) ∷  -- whatever else is wrong
    []) ≡ replicate 7 (Some OutsideProfile)
e5 = refl

-- no register
e6 : map fault_of_last (
    fields 0x07 11 0 (pos 0) (pos 0) ∷  -- dst
    fields 0x07 1 11 (pos 0) (pos 0) ∷  -- src, though it is not used
    fields 0x1f 1 15 (pos 9) (pos 0) ∷  -- and no use for the offset
    fields 0x84 1 11 (pos 0) (pos 0) ∷  -- src of a negation
    fields 0xd4 11 0 (pos 0) (pos 5) ∷  -- and no size of a byte order
    fields 0xbf 1 11 (pos 8) (pos 0) ∷  -- src of a sign extension
    fields 0x05 0 11 (pos 3) (pos 0) ∷  -- src of a goto
    fields 0x18 11 0 (pos 0) (pos 0) ∷  -- and no second slot
    []) ≡ replicate 8 (Some NoSuchRegister)
e6 = refl

-- a field that is not used
e7 : map fault_of_last (
    fields 0x07 1 2 (pos 0) (pos 5) ∷  -- src with source K
    fields 0x0f 1 2 (pos 0) (pos 5) ∷  -- imm with source X
    fields 0x04 1 0 (pos 1) (pos 5) ∷  -- the offset of add32
    fields 0xb7 1 0 (pos 8) (pos 5) ∷  -- the offset of a move of a constant
    fields 0x37 1 2 (pos 1) (pos 5) ∷  -- src of a division by a constant
    fields 0x3f 1 2 (pos 1) (pos 5) ∷  -- imm of a division by a register
    fields 0x15 1 2 (pos 3) (pos 5) ∷  -- src with source K
    fields 0x1e 1 2 (pos 3) (pos 5) ∷  -- imm with source X
    fields 0x85 1 0 (pos 0) (pos 5) ∷  -- dst of a call
    fields 0x85 0 3 (pos 0) (pos 5) ∷  -- src of a call, but for 1 and 2
    fields 0x95 0 0 (pos 0) (pos 1) ∷  -- imm of an exit
    fields 0x37 10 2 (pos 2) (pos 5) ∷  -- and no form, and the frame pointer
    fields 0x84 1 2 (pos 0) (pos 0) ∷  -- src of a negation
    fields 0x87 1 0 (pos 1) (pos 0) ∷  -- its offset
    fields 0x87 1 0 (pos 0) (pos 5) ∷  -- its imm
    fields 0xdc 1 2 (pos 0) (pos 16) ∷  -- src of a byte order
    fields 0xd7 1 0 (pos 1) (pos 64) ∷  -- its offset
    fields 0xd4 10 0 (pos 1) (pos 5) ∷  -- and no size, and the frame pointer
    fields 0xbf 1 2 (pos 8) (pos 5) ∷  -- imm of a sign extension
    fields 0x05 0 0 (pos 3) (pos 5) ∷  -- imm of a goto
    fields 0x05 1 0 (pos 3) (pos 0) ∷  -- its dst
    fields 0x06 0 0 (pos 3) (pos 5) ∷  -- the offset of a gotol
    fields 0x85 1 1 (pos 0) (pos 5) ∷  -- dst of a local call
    fields 0x61 10 2 (pos 4) (pos 5) ∷  -- imm of a load, and the frame pointer
    fields 0x62 1 2 (pos 4) (pos 5) ∷  -- src of a store of a constant
    fields 0x63 1 2 (pos 4) (pos 5) ∷  -- imm of a store of a register
    fields 0x18 1 7 (pos 0) (pos 5) ∷  -- src of a 64-bit immediate, but for 1 to 6, and no second slot
    fields 0x18 1 0 (pos 1) (pos 5) ∷  -- its offset, and no second slot
    []) ≡ replicate 28 (Some UnusedField)
e7 = refl

-- no form
e8 : map fault_of_last (
    fields 0x34 1 0 (pos 2) (pos 5) ∷  -- a division with offset 2
    fields 0x9f 1 2 (negsuc 0) (pos 0) ∷  -- a remainder with offset -1
    fields 0xbf 1 2 (pos 1) (pos 0) ∷  -- a move with offset 1
    fields 0xbc 1 2 (pos 32) (pos 0) ∷  -- w1 = (s32) w2
    fields 0xbf 1 2 (pos 64) (pos 0) ∷  -- a move with offset 64
    fields 0xbf 10 2 (pos 1) (pos 0) ∷  -- and the frame pointer
    fields 0xd4 1 0 (pos 0) (pos 0) ∷  -- a byte order with imm 0
    fields 0xdc 1 0 (pos 0) (pos 8) ∷  -- with imm 8
    fields 0xd7 1 0 (pos 0) (negsuc 15) ∷  -- with imm -16
    fields 0xd7 10 0 (pos 0) (pos 24) ∷  -- and the frame pointer
    []) ≡ replicate 10 (Some NoSuchForm)
e8 = refl

-- a second slot that is missing
e9 : map fault_of_last (
    fields 0x18 3 0 (pos 0) (pos 5) ∷  -- r3 = 5 ll
    fields 0x18 10 0 (pos 0) (pos 5) ∷  -- and the frame pointer
    []) ≡ replicate 2 (Some CutShort)
e9 = refl

-- the frame pointer is written
e10 : map fault_of_last (
    fields 0xb7 10 0 (pos 0) (pos 5) ∷  -- r10 = 5
    fields 0x0c 10 1 (pos 0) (pos 0) ∷  -- w10 += w1
    fields 0x3f 10 1 (pos 1) (pos 0) ∷  -- r10 s/= r1
    fields 0x84 10 0 (pos 0) (pos 0) ∷  -- w10 = -w10
    fields 0x87 10 0 (pos 0) (pos 0) ∷  -- r10 = -r10
    fields 0xd4 10 0 (pos 0) (pos 32) ∷  -- r10 = le32 r10
    fields 0xd7 10 0 (pos 0) (pos 16) ∷  -- r10 = bswap16 r10
    fields 0xbc 10 1 (pos 16) (pos 0) ∷  -- w10 = (s16) w1
    fields 0xbf 10 1 (pos 32) (pos 0) ∷  -- r10 = (s32) r1
    fields 0x79 10 1 (pos 8) (pos 0) ∷  -- r10 = *(u64 *)(r1 + 8)
    fields 0x81 10 1 (pos 8) (pos 0) ∷  -- r10 = *(s32 *)(r1 + 8)
    []) ≡ replicate 11 (Some FramePointer)
e10 = refl

-- no fault
no_fault : map fault_of_last (
    fields 0xb7 1 0 (pos 0) (pos 5) ∷  -- r1 = 5
    fields 0xbf 1 10 (pos 0) (pos 0) ∷  -- r1 = r10
    fields 0x37 1 0 (pos 1) (pos 0) ∷  -- r1 s/= 0
    fields 0x94 1 0 (pos 0) (pos 3) ∷  -- w1 %= 3
    fields 0x84 1 0 (pos 0) (pos 0) ∷  -- w1 = -w1
    fields 0x87 1 0 (pos 0) (pos 0) ∷  -- r1 = -r1
    fields 0xd4 1 0 (pos 0) (pos 16) ∷  -- r1 = le16 r1
    fields 0xdc 1 0 (pos 0) (pos 64) ∷  -- r1 = be64 r1
    fields 0xd7 1 0 (pos 0) (pos 32) ∷  -- r1 = bswap32 r1
    fields 0xbc 1 2 (pos 16) (pos 0) ∷  -- w1 = (s16) w2
    fields 0xbf 1 10 (pos 8) (pos 0) ∷  -- r1 = (s8) r10
    fields 0xbf 1 2 (pos 32) (pos 0) ∷  -- r1 = (s32) r2
    fields 0x15 10 0 (negsuc 1) (pos 0) ∷  -- if r10 == 0 goto -2
    fields 0xde 1 2 (pos 4) (pos 0) ∷  -- if w1 s<= w2 goto +4
    fields 0x05 0 0 (pos 3) (pos 0) ∷  -- goto +3
    fields 0x06 0 0 (pos 0) (pos 3) ∷  -- gotol +3
    fields 0x69 1 10 (negsuc 1) (pos 0) ∷  -- r1 = *(u16 *)(r10 - 2)
    fields 0x81 1 2 (pos 4) (pos 0) ∷  -- r1 = *(s32 *)(r2 + 4)
    fields 0x62 10 0 (negsuc 3) (pos 5) ∷  -- *(u32 *)(r10 - 4) = 5
    fields 0x7b 10 1 (negsuc 7) (pos 0) ∷  -- *(u64 *)(r10 - 8) = r1
    fields 0x85 0 0 (pos 0) (pos 7) ∷  -- a call of helper 7
    fields 0x85 0 1 (pos 0) (pos 7) ∷  -- a call of a local function
    fields 0x95 0 0 (pos 0) (pos 0) ∷  -- exit
    []) ≡ replicate 23 None
no_fault = refl

-- a 64-bit immediate with a slot after
with_slot_behind : map (fault_of (fields 0x18 3 0 (pos 0) (pos 5))) (
    Some (fields 0 0 0 (pos 0) (pos 7)) ∷  -- r3 = 0x700000005 ll
    Some (fields 1 0 0 (pos 0) (pos 7)) ∷  -- its first byte
    Some (fields 0 1 0 (pos 0) (pos 7)) ∷  -- its second
    Some (fields 0 0 1 (pos 0) (pos 7)) ∷
    Some (fields 0 0 0 (pos 256) (pos 7)) ∷  -- its third and fourth
    []) ≡ None ∷ replicate 4 (Some UnusedField)
with_slot_behind = refl

-- r10 = 0x700000005 ll
e10_of_two_slots : fault_of (fields 0x18 10 0 (pos 0) (pos 5)) (Some (fields 0 0 0 (pos 0) (pos 7))) ≡ Some FramePointer
e10_of_two_slots = refl

-- the same from bytes, where this is the ninth byte
abbrev two_slots : ℕ → List ℕ
two_slots ninth = 0x18 ∷ 0x03 ∷ 0x00 ∷ 0x00 ∷ 0x88 ∷ 0x77 ∷ 0x66 ∷ 0x55 ∷ ninth ∷ 0x00 ∷ 0x00 ∷ 0x00 ∷ 0x44 ∷ 0x33 ∷ 0x22 ∷ 0x11 ∷ []

is_one_instruction : SpellsThen (two_slots 0x00) (LoadImmediate R3 0x1122334455667788 ∷ []) []
is_one_instruction = (((omega arith, refl, (omega arith, refl, tt)), omega arith), refl)

has_fault_in_second_slot : HasFault (two_slots 0x01) (At 0 UnusedField)
has_fault_in_second_slot =
    ((omega arith, refl, omega arith), record { insns = []; rest = two_slots 0x01; before = refl; spares = refl; slots = refl; here = omega arith; has = refl })

-- its first slot alone, after exit
has_no_second_slot : HasFault (0x95 ∷ replicate 7 0 ++ 0x18 ∷ 0x03 ∷ replicate 6 0) (At 1 CutShort)
has_no_second_slot = (
  (omega arith, refl, omega arith),
  record {
    insns = Exit ∷ [];
    rest = 0x18 ∷ 0x03 ∷ replicate 6 0;
    before = (((omega arith, refl, tt), tt), refl);
    spares = refl;
    slots = refl;
    here = omega arith;
    has = refl;
  },
)

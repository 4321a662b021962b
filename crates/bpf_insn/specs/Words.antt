-- An instruction as words of 32 bits: no two instructions have the same ones, so that programs are compared by them.
use Rattle.std.specs.Prelude.{◌≡◌, ◌+◌, ◌*◌, ◌%◌, ◌/◌, ◌^◌, ℕ, ℤ, List, [], ◌∷◌, ⊤}
use Rattle.std.specs.Int.{Width as Bits, w16, w32, cast_unsigned, cast_signed}
use Rattle.std.specs.List.{flat_map, AllByRecursion}
use denote.Enum.Declared.{tag_of}
use Rattle.bpf_insn.specs.declared.reg.Reg.{Reg}
use Rattle.bpf_insn.specs.declared.reg.Reg.TheVariants.{R0}
use Rattle.bpf_insn.specs.declared.insn.Width.{Width}
use Rattle.bpf_insn.specs.declared.insn.Insn.{Insn}
use Rattle.bpf_insn.specs.declared.insn.Insn.TheVariants.{Alu, InPlace, SignExtend, JumpIf, Jump, LoadImmediate, Load, Store, Call, Exit}
use Rattle.bpf_insn.specs.declared.insn.Distance.TheVariants.{Near, Far}
use Rattle.bpf_insn.specs.declared.insn.Operand.{Operand}
use Rattle.bpf_insn.specs.declared.insn.Operand.TheVariants.{Immediate, Register}
use Rattle.bpf_insn.specs.declared.insn.Callee.TheVariants.{Helper, Local}
use Rattle.bpf_insn.specs.declared.insn.InPlaceOp.{InPlaceOp}
use Rattle.bpf_insn.specs.declared.insn.InPlaceOp.TheVariants.{Neg, Reorder}
use Rattle.bpf_insn.specs.contracts.insn.Width as width
use Rattle.bpf_insn.specs.contracts.insn.AluOp as op
use Rattle.bpf_insn.specs.contracts.insn.ByteOrder as order
use Rattle.bpf_insn.specs.contracts.insn.WordSize as size
use Rattle.bpf_insn.specs.contracts.insn.SignExtension as extension
use Rattle.bpf_insn.specs.contracts.insn.Condition as condition
use Rattle.bpf_insn.specs.contracts.insn.LoadForm as load_form
use Rattle.bpf_insn.specs.contracts.insn.StoreSize as store_size
use Rattle.bpf_insn.specs.contracts.insn.Insn as insn
use Rattle.bpf_insn.specs.Reg.{number_of}

-- the first word: one of 10 kinds, of 28 operations, of 11 registers and of 12 sources, and the 16 bits of an offset
abbrev pub packed : ℕ → ℕ → Reg → ℕ → ℕ → ℕ
packed kind operation dst src offset = kind + 10 * (operation + 28 * (number_of dst + 11 * (src + 12 * offset)))

-- an operation in a width
abbrev pub in_width : ℕ → Width → ℕ
in_width operation w = 2 * operation + tag_of width.the_type w

abbrev pub in_place_number : InPlaceOp → ℕ
in_place_number (Neg w) = tag_of width.the_type w
in_place_number (Reorder o s) = 2 + (3 * tag_of order.the_type o + tag_of size.the_type s)

-- a register's number, or 11 for a constant
abbrev pub source_number : Operand → ℕ
source_number (Register reg) = number_of reg
source_number (Immediate value) = 11

abbrev pub constant_word : Operand → ℕ
constant_word (Register reg) = 0
constant_word (Immediate value) = cast_unsigned w32 value

-- the words of an instruction of this kind
abbrev pub words_in : ℕ → Insn → List ℕ
words_in kind (Alu w o dst src) = packed kind (in_width (tag_of op.the_type o) w) dst (source_number src) 0 ∷ constant_word src ∷ []
words_in kind (InPlace o dst) = packed kind (in_place_number o) dst 0 0 ∷ 0 ∷ []
words_in kind (SignExtend e dst src) = packed kind (tag_of extension.the_type e) dst (number_of src) 0 ∷ 0 ∷ []
words_in kind (JumpIf w c dst src offset) = packed kind (in_width (tag_of condition.the_type c) w) dst (source_number src) (cast_unsigned w16 offset) ∷ constant_word src ∷ []
words_in kind (Jump (Near offset)) = packed kind 0 R0 0 (cast_unsigned w16 offset) ∷ 0 ∷ []
words_in kind (Jump (Far imm)) = packed kind 1 R0 0 0 ∷ cast_unsigned w32 imm ∷ []
words_in kind (LoadImmediate dst value) = packed kind 0 dst 0 0 ∷ value % 2 ^ 32 ∷ value / 2 ^ 32 ∷ []
words_in kind (Load form dst src offset) = packed kind (tag_of load_form.the_type form) dst (number_of src) (cast_unsigned w16 offset) ∷ 0 ∷ []
words_in kind (Store s dst src offset) = packed kind (tag_of store_size.the_type s) dst (source_number src) (cast_unsigned w16 offset) ∷ constant_word src ∷ []
words_in kind (Call (Helper number)) = packed kind 0 R0 0 0 ∷ cast_unsigned w32 number ∷ []
words_in kind (Call (Local distance)) = packed kind 1 R0 0 0 ∷ cast_unsigned w32 distance ∷ []
words_in kind Exit = packed kind 0 R0 0 0 ∷ 0 ∷ []

-- the words of an instruction, whose kind is its name's place among all
abbrev pub words_of : Insn → List ℕ
words_of i = words_in (tag_of insn.the_type i) i

-- the words of instructions, one after the other
abbrev pub words_of_all : List Insn → List ℕ
words_of_all insns = flat_map words_of insns

-- a signed number of a width is read back from its bits
abbrev pub IsOfWidth : (w : Bits) → ℤ → Type 0
IsOfWidth w z = cast_signed w (cast_unsigned w z) ≡ z

abbrev pub HasConstant : Operand → Type 0
HasConstant (Register reg) = ⊤
HasConstant (Immediate value) = IsOfWidth w32 value

-- the signed numbers in an instruction are of their widths
abbrev pub HasNumbers : Insn → Type 0
HasNumbers (Alu w o dst src) = HasConstant src
HasNumbers (InPlace o dst) = ⊤
HasNumbers (SignExtend e dst src) = ⊤
HasNumbers (JumpIf w c dst src offset) = HasConstant src × IsOfWidth w16 offset
HasNumbers (Jump (Near offset)) = IsOfWidth w16 offset
HasNumbers (Jump (Far imm)) = IsOfWidth w32 imm
HasNumbers (LoadImmediate dst value) = ⊤
HasNumbers (Load form dst src offset) = IsOfWidth w16 offset
HasNumbers (Store s dst src offset) = HasConstant src × IsOfWidth w16 offset
HasNumbers (Call (Helper number)) = IsOfWidth w32 number
HasNumbers (Call (Local distance)) = IsOfWidth w32 distance
HasNumbers Exit = ⊤

-- these are the words of the instructions, whose numbers are of their widths
pub record AreWordsOf (insns : List Insn) (those : List ℕ) : Type 0 where
  pub words : those ≡ words_of_all insns
  pub numbers : AllByRecursion HasNumbers insns

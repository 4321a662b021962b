-- Plain programs: loads from the context into R6 to R9; the freeze is given back where there is one; then comes any list
-- of arithmetic, of conditional jumps forward, and of loads and stores of the stack frame, on numbers and stack bytes
-- that those loads or the list itself has written; then the CCB is made to wait again, and the run ends.
use Rattle.std.specs.Prelude.{◌≡◌, ℕ, zero, suc, ℤ, pos, ◌+◌, ◌<◌, ◌≤◌, ◌==◌, ◌&&◌, nat_le, nat_lt, Bool, true, false, List, [], ◌∷◌, ◌++◌, length, slice_get, Some, ◌⊎◌}
use Rattle.std.specs.Int.{byte_len}
use Rattle.bpf_insn.specs.declared.insn.Insn.{Insn}
use Rattle.bpf_insn.specs.declared.insn.Insn.TheVariants.{Alu, InPlace, SignExtend, JumpIf, Load, Store, Call, Exit}
use Rattle.bpf_insn.specs.declared.insn.Operand.{Operand}
use Rattle.bpf_insn.specs.declared.insn.Operand.TheVariants.{Immediate, Register}
use Rattle.bpf_insn.specs.declared.insn.Callee.TheVariants.{Helper}
use Rattle.bpf_insn.specs.declared.insn.Width.TheVariants.{Bits64}
use Rattle.bpf_insn.specs.declared.insn.AluOp.TheVariants.{Mov}
use Rattle.bpf_insn.specs.declared.insn.Condition.TheVariants.{Equal}
use Rattle.bpf_insn.specs.declared.reg.Reg.{Reg}
use Rattle.bpf_insn.specs.declared.reg.Reg.TheVariants.{R0, R1, R2, R6, R7, R8, R9, R10}
use Rattle.bpf_insn.specs.declared.program.Slot.{Slot}
use Rattle.bpf_insn.specs.declared.program.TheConstants.{MAX_SLOTS}
use Rattle.bpf_insn.specs.Reg.{number_of}
use Rattle.bpf_insn.specs.Program.{insn_at, layout}
use Rattle.bpf_insn.specs.Target.{target}
use Rattle.bpf_semantics.specs.Memory.{address_at, load_width, store_width}
use Rattle.bpf_words.specs.Words.{reads_dst}
use Rattle.call_shape.specs.StaticPath.{outermost, StepLeadsTo}

-- jeq r2, 0, +2; mov64 r1, r2; call 2
abbrev pub releases : List Insn
releases =
    JumpIf Bits64 Equal R2 (Immediate (pos 0)) (pos 2)
    ∷ Alu Bits64 Mov R1 (Register R2)
    ∷ Call (Helper (pos 2)) ∷ []

-- mov64 r1, n; call 4; mov64 r0, k; exit
abbrev pub requeues : ℤ → ℤ → List Insn
requeues n k =
    Alu Bits64 Mov R1 (Immediate n)
    ∷ Call (Helper (pos 4))
    ∷ Alu Bits64 Mov R0 (Immediate k)
    ∷ Exit ∷ []

abbrev pub plain : List Insn → List Insn → ℤ → ℤ → List Insn
plain loads list n k = loads ++ (releases ++ (list ++ requeues n k))

-- R6 to R9, which a call keeps
abbrev pub is_kept : Reg → Bool
is_kept R6 = true
is_kept R7 = true
is_kept R8 = true
is_kept R9 = true
is_kept reg = false

-- the registers of the list: R0 and R3 to R9
abbrev pub is_free : Reg → Bool
is_free R1 = false
is_free R2 = false
is_free R10 = false
is_free reg = true

abbrev pub IsFreeOperand : Operand → Type 0
IsFreeOperand (Immediate value) = Unit {0}
IsFreeOperand (Register reg) = is_free reg ≡ true

-- where [r10 + offset] lies in the stack frame, whose end R10 is
abbrev pub byte_of : ℤ → ℕ
byte_of offset = address_at 512 offset

-- a load into R6 to R9 of bytes of the context
abbrev pub IsContextLoad : Insn → Type 0
IsContextLoad (Load form dst src offset) = (is_kept dst ≡ true) × (src ≡ R1) × (address_at 0 offset + byte_len (load_width form) ≤ 96)
IsContextLoad insn = ⊥

-- arithmetic, loads and stores of the frame, and conditional jumps that lead forward, at most to the slot after the list
abbrev pub IsListed : ℕ → ℕ → Insn → Type 0
IsListed place end (Alu width op dst src) = (is_free dst ≡ true) × IsFreeOperand src
IsListed place end (InPlace op dst) = is_free dst ≡ true
IsListed place end (SignExtend extension dst src) = (is_free dst ≡ true) × (is_free src ≡ true)
IsListed place end (JumpIf width condition dst src offset) =
    (is_free dst ≡ true) × IsFreeOperand src × (place < target place offset) × (target place offset ≤ end)
IsListed place end (Load form dst src offset) = (is_free dst ≡ true) × (src ≡ R10) × (byte_of offset + byte_len (load_width form) ≤ 512)
IsListed place end (Store size dst src offset) = IsFreeOperand src × (dst ≡ R10) × (byte_of offset + byte_len (store_width size) ≤ 512)
IsListed place end insn = ⊥

-- an instruction of the list reads the register
abbrev pub ReadsRegister : Insn → Reg → Type 0
ReadsRegister (Alu width op dst src) reg = ((reads_dst op ≡ true) × (dst ≡ reg)) ⊎ (src ≡ Register reg)
ReadsRegister (InPlace op dst) reg = dst ≡ reg
ReadsRegister (SignExtend extension dst src) reg = src ≡ reg
ReadsRegister (JumpIf width condition dst src offset) reg = (dst ≡ reg) ⊎ (src ≡ Register reg)
ReadsRegister (Load form dst src offset) reg = src ≡ reg
ReadsRegister (Store size dst src offset) reg = (dst ≡ reg) ⊎ (src ≡ Register reg)
ReadsRegister insn reg = ⊥

-- and one of the loads or of the list writes it; what a call leaves in R0 does not count
abbrev pub writes_register : Reg → Insn → Bool
writes_register reg (Alu width op dst src) = number_of dst == number_of reg
writes_register reg (InPlace op dst) = number_of dst == number_of reg
writes_register reg (SignExtend extension dst src) = number_of dst == number_of reg
writes_register reg (Load form dst src offset) = number_of dst == number_of reg
writes_register reg insn = false

-- an instruction of the list reads, or writes, that byte of the frame
abbrev pub ReadsByte : Insn → ℕ → Type 0
ReadsByte (Load form dst src offset) at = (byte_of offset ≤ at) × (at < byte_of offset + byte_len (load_width form))
ReadsByte insn at = ⊥

abbrev pub writes_byte : ℕ → Insn → Bool
writes_byte at (Store size dst src offset) = nat_le (byte_of offset) at && nat_lt at (byte_of offset + byte_len (store_width size))
writes_byte at insn = false

-- some static path comes by so many instructions to a slot, and none of these writes it
abbrev pub ComesUnwritten : (Insn → Bool) → List Slot → ℕ → ℕ → Type 0
ComesUnwritten writes program zero slot = slot ≡ 0
ComesUnwritten writes program (suc n) slot =
    (from : ℕ) × (insn : Insn) × ComesUnwritten writes program n from × (insn_at program from ≡ Some insn)
    × StepLeadsTo (outermost from) insn (outermost slot) × (writes insn ≡ false)

-- with 0 or 1 retries used up, and any result
pub record IsPlain (program : List Slot) : Type 0 where
  pub loads : List Insn
  pub list : List Insn
  pub retries : ℤ
  pub answer : ℤ
  pub few : (retries ≡ pos 0) ⊎ (retries ≡ pos 1)
  pub is : program ≡ layout (plain loads list retries answer)
  pub in_range : length program ≤ MAX_SLOTS
  pub loaded : (i : ℕ) (insn : Insn) → slice_get loads i ≡ Some insn → IsContextLoad insn
  pub listed : (i : ℕ) (insn : Insn) → slice_get list i ≡ Some insn → IsListed (length loads + 3 + i) (length loads + 3 + length list) insn
  pub written : (i : ℕ) (insn : Insn) (reg : Reg) → slice_get list i ≡ Some insn → is_free reg ≡ true → ReadsRegister insn reg →
      (n : ℕ) → ComesUnwritten (writes_register reg) program n (length loads + 3 + i) → ⊥
  pub known : (i : ℕ) (insn : Insn) (at : ℕ) → slice_get list i ≡ Some insn → ReadsByte insn at →
      (n : ℕ) → ComesUnwritten (writes_byte at) program n (length loads + 3 + i) → ⊥

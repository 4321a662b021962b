-- What is enough for the check of an instruction to pass that is no call and no exit, and what is known after it then. It says
-- nothing of machines: it is what a program may rely on that is to be accepted.
use Rattle.std.specs.Prelude.{◌≡◌, ℕ, ℤ, pos, ◌+◌, ◌<◌, ◌≤◌, ◌==◌, true, false, [], length, Some, ◌⊎◌, IfSome}
use Rattle.std.specs.Int.{w64, cast_unsigned}
use Rattle.bpf_insn.specs.declared.insn.AluOp.{AluOp}
use Rattle.bpf_insn.specs.declared.insn.AluOp.TheVariants.{Mov}
use Rattle.bpf_insn.specs.declared.insn.Condition.{Condition}
use Rattle.bpf_insn.specs.declared.insn.Condition.TheVariants.{Equal}
use Rattle.bpf_insn.specs.declared.insn.Operand.{Operand}
use Rattle.bpf_insn.specs.declared.insn.Operand.TheVariants.{Immediate, Register}
use Rattle.bpf_insn.specs.declared.insn.Width.{Width}
use Rattle.bpf_insn.specs.declared.insn.Width.TheVariants.{Bits64}
use Rattle.bpf_insn.specs.declared.reg.Reg.{Reg}
use Rattle.bpf_insn.specs.Reg.{number_of}
use Rattle.bpf_semantics.specs.Memory.{address_at}
use Rattle.bpf_words.specs.Words.{reads_dst}
use Rattle.stack_domain.specs.Stack.{Knows}
use Rattle.check_description.specs.declared.description.Description.{Description}
use Rattle.check_private_insns.specs.declared.way.Way.{Way}
use Rattle.check_private_insns.specs.declared.way.Way.TheVariants.{FallThrough, Taken}
use Rattle.check_register_kinds.specs.declared.freeze_name.FreezeName.{FreezeName}
use Rattle.check_register_kinds.specs.declared.held.Certainty.TheVariants.{Sure}
use Rattle.check_register_kinds.specs.declared.kind.Kind.{Kind}
use Rattle.check_register_kinds.specs.declared.kind.Kind.TheVariants.{Unwritten, Number, Address, Freeze}
use Rattle.check_register_kinds.specs.declared.region.Region.TheVariants.{Context, Frame}
use Rattle.check_description.specs.Description.{kind_at}
use Rattle.check_register_kinds.specs.Freezes.{certainty_of, with_sure}
use Rattle.check_register_kinds.specs.Kinds.{IsAt, IsKnown, IsNumber}
use Rattle.check_description.specs.Changes.{IsFreeze, LeavesGivenUp}
use Rattle.check_description.specs.Memory.{AreKnown}
use Rattle.check_description.specs.Spills.{AreUnspilled}

abbrev pub IsNumberOperand : Description → Operand → Type 0
IsNumberOperand d (Immediate value) = Unit {0}
IsNumberOperand d (Register reg) = IsNumber (kind_at d reg)

-- bytes of the context, of which it is known where they lie
pub record LiesInContext (d : Description) (reg : Reg) (offset : ℤ) (bytes : ℕ) : Type 0 where
  pub at : ℕ
  pub base : IsAt Context at (kind_at d reg)
  pub inside : address_at at offset + bytes ≤ 96

-- and bytes of a live frame
pub record LiesInFrame (d : Description) (reg : Reg) (offset : ℤ) (bytes : ℕ) : Type 0 where
  pub frame : ℕ
  pub at : ℕ
  pub base : IsAt (Frame frame) at (kind_at d reg)
  pub live : frame < length d.stack
  pub inside : address_at at offset + bytes ≤ 512

-- the bytes of a load, in which nothing is spilled
pub record LiesWritten (d : Description) (reg : Reg) (offset : ℤ) (bytes : ℕ) : Type 0 where
  pub there : LiesInFrame d reg offset bytes
  pub known : AreKnown d there.frame (address_at there.at offset) bytes
  pub unspilled : AreUnspilled d.spills there.frame (address_at there.at offset) (address_at there.at offset + bytes)

-- a freeze that is tested for 0
pub record TestsFreeze (d : Description) (width : Width) (condition : Condition) (dst : Reg) (src : Operand) : Type 0 where
  pub all : width ≡ Bits64
  pub equal : condition ≡ Equal
  pub zero_constant : src ≡ Immediate (pos 0)
  pub name : FreezeName
  pub freeze : kind_at d dst ≡ Freeze name

-- numbers that are compared
pub record ComparesNumbers (d : Description) (dst : Reg) (src : Operand) : Type 0 where
  pub first : IsNumber (kind_at d dst)
  pub second : IsNumberOperand d src

-- a register is copied, or numbers are computed with
abbrev pub EnoughToCompute : Description → Width → AluOp → Reg → Operand → Type 0
EnoughToCompute d width op dst src =
    ((reads_dst op ≡ true → IsNumber (kind_at d dst)) × IsNumberOperand d src)
    ⊎ ((width ≡ Bits64) × (op ≡ Mov) × (reg : Reg) × (src ≡ Register reg) × IsFreeze (kind_at d reg))

-- after an instruction that writes one register: all else is known as before
pub record ChangesOnly (dst : Reg) (d there : Description) : Type 0 where
  pub others : (reg : Reg) → (number_of reg == number_of dst) ≡ false → kind_at there reg ≡ kind_at d reg
  pub stack : there.stack ≡ d.stack
  pub spills : there.spills ≡ d.spills
  pub held : there.held ≡ d.held
  pub disposal : there.disposed ≡ d.disposed

-- and of the stack: the register is no more the one that was loaded last
pub record Replaces (dst : Reg) (d there : Description) : Type 0 where
  pub only : ChangesOnly dst d there
  pub numbers : there.numbers ≡ d.numbers
  pub loaded : IfSome there.loaded (λ loaded. (d.loaded ≡ Some loaded) × (number_of loaded.reg ≡ number_of dst → ⊥))

-- what is moved is what is there then
abbrev pub IsMoved : Description → Operand → Kind → Type 0
IsMoved d (Immediate value) kind = IsKnown (cast_unsigned w64 value) kind
IsMoved d (Register reg) kind = kind ≡ kind_at d reg

pub record LeavesComputed (d : Description) (width : Width) (op : AluOp) (dst : Reg) (src : Operand) (there : Description) : Type 0 where
  pub only : ChangesOnly dst d there
  pub number : IsNumberOperand d src → IsNumber (kind_at there dst)
  pub moved : width ≡ Bits64 → op ≡ Mov → IsMoved d src (kind_at there dst)

pub record LeavesNumber (dst : Reg) (d there : Description) : Type 0 where
  pub only : ChangesOnly dst d there
  pub number : IsNumber (kind_at there dst)

-- after a store the bytes that it wrote are known, and so is what was
pub record LeavesStored (d : Description) (dst : Reg) (offset : ℤ) (bytes : ℕ) (there : Description) : Type 0 where
  pub registers : there.registers ≡ d.registers
  pub unspilled : d.spills ≡ [] → there.spills ≡ []
  pub depth : length there.stack ≡ length d.stack
  pub written : (frame at : ℕ) → IsAt (Frame frame) at (kind_at d dst) → AreKnown there frame (address_at at offset) bytes
  pub known : (frame at : ℕ) → Knows d.stack frame at → Knows there.stack frame at
  pub held : there.held ≡ d.held
  pub disposal : there.disposed ≡ d.disposed

-- a number is still one, and an address or a freeze stays what it is
abbrev pub StaysKnown : Kind → Kind → Type 0
StaysKnown Unwritten after = Unit {0}
StaysKnown (Number scalar) after = IsNumber after
StaysKnown (Address region offsets) after = after ≡ Address region offsets
StaysKnown (Freeze name) after = after ≡ Freeze name

-- after a jump on numbers
pub record LeavesKnown (d there : Description) : Type 0 where
  pub registers : (reg : Reg) → StaysKnown (kind_at d reg) (kind_at there reg)
  pub stack : there.stack ≡ d.stack
  pub spills : there.spills ≡ d.spills
  pub disposal : there.disposed ≡ d.disposed

-- after a test that found a freeze not to be 0
pub record LeavesSure (name : FreezeName) (d there : Description) : Type 0 where
  pub registers : there.registers ≡ d.registers
  pub stack : there.stack ≡ d.stack
  pub spills : there.spills ≡ d.spills
  pub held : there.held ≡ with_sure d.held name
  pub disposal : there.disposed ≡ d.disposed

-- After a test for 0 the freeze is sure where it was not 0, and held no more where it was. The latter way is open only
-- where it was not sure before.
abbrev pub LeavesTested : Way → FreezeName → Description → Description → Type 0
LeavesTested FallThrough name d there = LeavesSure name d there
LeavesTested Taken name d there = (certainty_of d.held name ≡ Some Sure → ⊥) × (copy : Kind) × IsKnown 0 copy × LeavesGivenUp name copy d there

pub record LeavesCompared (d : Description) (width : Width) (condition : Condition) (dst : Reg) (src : Operand) (way : Way) (there : Description) : Type 0 where
  pub numbers : ComparesNumbers d dst src → LeavesKnown d there × (there.held ≡ d.held)
  pub tested : (tests : TestsFreeze d width condition dst src) → LeavesTested way tests.name d there

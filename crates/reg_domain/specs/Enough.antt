-- What is enough for the check of an instruction to pass, and what is known after it then, at the entry, and where paths
-- meet. It says nothing of machines: it is what a program may rely on that is to be accepted.
use Rattle.std.specs.Prelude.{◌≡◌, ℕ, ◌/◌, true, false, [], ◌∷◌, length, ◌⊎◌}
use Rattle.std.specs.Int.{byte_len}
use Rattle.bpf_insn.specs.declared.insn.Callee.TheVariants.{Helper as helper_call, Local}
use Rattle.bpf_insn.specs.declared.insn.Insn.{Insn}
use Rattle.bpf_insn.specs.declared.insn.Insn.TheVariants.{Alu, InPlace, SignExtend, JumpIf, Jump, LoadImmediate, Load, Store, Call, Exit}
use Rattle.bpf_insn.specs.declared.reg.Reg.{Reg}
use Rattle.bpf_insn.specs.declared.reg.Reg.TheVariants.{R0, R1, R2, R10}
use Rattle.bpf_semantics.specs.Memory.{load_width, store_width}
use Rattle.stack_domain.specs.Stack.{Knows}
use Rattle.check_description.specs.declared.description.Description.{Description}
use Rattle.check_private_insns.specs.declared.way.Way.{Way}
use Rattle.check_register_kinds.specs.declared.freeze_name.FreezeName.{FreezeName}
use Rattle.check_register_kinds.specs.declared.freeze_name.FreezeName.TheVariants as names
use Rattle.check_register_kinds.specs.declared.kind.Kind.TheVariants.{Freeze}
use Rattle.check_register_kinds.specs.declared.region.Region.TheVariants.{Context, Frame}
use Rattle.check_description.specs.Description.{kind_at}
use Rattle.check_description.specs.Spills.{spill_at}
use Rattle.check_register_kinds.specs.Freezes.{open_freeze}
use Rattle.check_register_kinds.specs.Kinds.{IsAt, IsAtMost, IsNumber}
use Rattle.check_private_insns.specs.Enough.{IsNumberOperand, LiesInContext, LiesInFrame, LiesWritten, TestsFreeze, ComparesNumbers, EnoughToCompute, LeavesComputed, LeavesNumber, LeavesStored, LeavesCompared}
use Rattle.check_helper_calls.specs.Called.{EnoughToCall, LeavesCalled}

-- the check passes
abbrev pub Enough : Insn → Description → Type 0
Enough (Alu width op dst src) d = EnoughToCompute d width op dst src
Enough (InPlace op dst) d = IsNumber (kind_at d dst)
Enough (SignExtend extension dst src) d = IsNumber (kind_at d src)
Enough (JumpIf width condition dst src offset) d = ComparesNumbers d dst src ⊎ TestsFreeze d width condition dst src
Enough (Jump distance) d = Unit {0}
Enough (LoadImmediate dst value) d = Unit {0}
Enough (Load form dst src offset) d = LiesInContext d src offset (byte_len (load_width form)) ⊎ LiesWritten d src offset (byte_len (load_width form))
Enough (Store size dst src offset) d = IsNumberOperand d src × LiesInFrame d dst offset (byte_len (store_width size))
Enough (Call (Local distance)) d = ⊥
Enough (Call (helper_call number)) d = EnoughToCall number d
Enough Exit d = (d.held ≡ []) × (d.disposed ≡ true) × IsNumber (kind_at d R0)

-- what is known after an instruction of which enough was known, where the way is open: none is after an exit
abbrev pub Leaves : Insn → Way → Description → Description → Type 0
Leaves (Alu width op dst src) way d there = LeavesComputed d width op dst src there
Leaves (InPlace op dst) way d there = LeavesNumber dst d there
Leaves (SignExtend extension dst src) way d there = LeavesNumber dst d there
Leaves (JumpIf width condition dst src offset) way d there = LeavesCompared d width condition dst src way there
Leaves (Jump distance) way d there = there ≡ d
Leaves (LoadImmediate dst value) way d there = LeavesNumber dst d there
Leaves (Load form dst src offset) way d there = LeavesNumber dst d there
Leaves (Store size dst src offset) way d there = LeavesStored d dst offset (byte_len (store_width size)) there
Leaves (Call (Local distance)) way d there = Unit {0}
Leaves (Call (helper_call number)) way d there = (name : FreezeName) × LeavesCalled name d number there
Leaves Exit way d there = ⊥

-- what is known at the entry
pub record IsEntryKnown (d : Description) : Type 0 where
  pub context : IsAt Context 0 (kind_at d R1)
  pub freeze : kind_at d R2 ≡ Freeze names.Start
  pub frame : IsAt (Frame 0) 512 (kind_at d R10)
  pub depth : length d.stack ≡ 1
  pub unspilled : d.spills ≡ []
  pub held : d.held ≡ open_freeze names.Start ∷ []
  pub waits : d.disposed ≡ false

-- two that can be joined
pub record Agree (a b : Description) : Type 0 where
  pub held : a.held ≡ b.held
  pub disposal : a.disposed ≡ b.disposed
  pub depth : length a.stack ≡ length b.stack

-- what is known where two are joined
pub record JoinsTo (a b joined : Description) : Type 0 where
  pub equal : (reg : Reg) → kind_at a reg ≡ kind_at b reg → kind_at joined reg ≡ kind_at a reg
  pub numbers : (reg : Reg) → IsNumber (kind_at a reg) → IsNumber (kind_at b reg) → IsNumber (kind_at joined reg)
  pub bounds : (reg : Reg) (most : ℕ) → IsAtMost most (kind_at a reg) → IsAtMost most (kind_at b reg) → IsAtMost most (kind_at joined reg)
  pub known : (frame at : ℕ) → spill_at a.spills frame (at / 8) ≡ spill_at b.spills frame (at / 8) → Knows a.stack frame at → Knows b.stack frame at → Knows joined.stack frame at
  pub unspilled : a.spills ≡ [] → joined.spills ≡ []
  pub depth : length joined.stack ≡ length a.stack
  pub held : joined.held ≡ a.held
  pub disposal : joined.disposed ≡ a.disposed

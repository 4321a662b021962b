-- An instruction that leads on, under any limits of helper calls.
use Rattle.std.specs.Prelude.{◌≡◌, Bool, true, false, List}
use Rattle.bpf_insn.specs.declared.insn.Insn.{Insn}
use Rattle.bpf_insn.specs.declared.insn.Operand.{Operand}
use Rattle.bpf_insn.specs.declared.insn.Operand.TheVariants.{Immediate, Register}
use Rattle.helpers.specs.declared.limits.HelperLimits.{HelperLimits}
use Rattle.check_description.specs.declared.description.Description.{Description}
use Rattle.check_private_insns.specs.declared.way.Way.{Way}
use Rattle.check_private_insns.specs.declared.way.Way.TheVariants.{FallThrough, Taken}
use Rattle.check_register_kinds.specs.declared.kind.Kind.TheVariants.{Unwritten}
use Rattle.check_description.specs.declared.saved.SavedRegisters.{SavedRegisters}
use Rattle.check_description.specs.Description.{kind_at, NeverStuck}
use Rattle.check_private_insns.specs.Follows.{Follows}

-- the way is that of the jump
abbrev pub is_taken : Way → Bool
is_taken FallThrough = false
is_taken Taken = true

-- no machine is stuck, and each goes on at the next instruction and is described there
pub record GoesOn (insn : Insn) (d there : Description) : Type 0 where
  pub unstuck : (limits : HelperLimits) (callers : List SavedRegisters) → NeverStuck limits callers insn d
  pub follows : (callers : List SavedRegisters) → Follows callers insn FallThrough d true there

-- the operand is a register that may be unwritten
abbrev pub ReadsUnwritten : Description → Operand → Type 0
ReadsUnwritten d (Immediate value) = ⊥
ReadsUnwritten d (Register reg) = kind_at d reg ≡ Unwritten

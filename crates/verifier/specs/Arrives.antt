-- What is known at each place of a program by the promises of descriptions alone, whatever the machine: a program of
-- which that is enough everywhere is not refused.
use Rattle.std.specs.Prelude.{◌≡◌, ℕ, ◌<◌, List, [], length, Option, Some}
use Rattle.bpf_insn.specs.declared.insn.Insn.{Insn}
use Rattle.bpf_insn.specs.declared.program.Slot.{Slot}
use Rattle.bpf_insn.specs.Program.{insn_at}
use Rattle.call_shape.specs.Shape.{behind, target_in}
use Rattle.check_description.specs.declared.description.Description.{Description}
use Rattle.check_description.specs.declared.saved.SavedRegisters.{SavedRegisters}
use Rattle.check_private_insns.specs.declared.way.Way.{Way}
use Rattle.check_private_insns.specs.declared.way.Way.TheVariants.{FallThrough, Taken}
use Rattle.reg_domain.specs.Enough.{Enough, Leaves, IsEntryKnown, Agree, JoinsTo}
use Rattle.base.specs.declared.or_memory.OrMemory.{OrMemory}
use Rattle.base.specs.declared.or_memory.OrMemory.TheVariants.{OutOfMemory, Fault as refused}
use Rattle.verifier.specs.declared.refusal.Refusal.{Refusal}
use Rattle.verifier.specs.declared.refusal.Refusal.TheVariants.{Shape, Check}
use Rattle.verifier.specs.Table.{Table, described}

-- where one goes by an instruction
abbrev pub goes_to : ℕ → Insn → Way → Option ℕ
goes_to place insn FallThrough = Some (behind place insn)
goes_to place insn Taken = target_in place insn

-- What may be known where paths come to a place: at the entry, after an instruction, and where two join.
pub data Arrives (program : List Slot) : ℕ → Description → Type 0 where
  enters : (d : Description) → IsEntryKnown d → Arrives program 0 d
  follows : (place to : ℕ) (insn : Insn) (way : Way) (d there : Description) → Arrives program place d → insn_at program place ≡ Some insn → Enough insn d → goes_to place insn way ≡ Some to → Leaves insn way d there → Arrives program to there
  joins : (place : ℕ) (a b joined : Description) → Arrives program place a → Arrives program place b → Agree a b → JoinsTo a b joined → Arrives program place joined

-- It is enough for each instruction, and where paths join they agree.
pub record NeverLacks (program : List Slot) : Type 0 where
  pub enough : (place : ℕ) (insn : Insn) (d : Description) → Arrives program place d → insn_at program place ≡ Some insn → Enough insn d
  pub agree : (place : ℕ) (a b : Description) → place < length program → Arrives program place a → Arrives program place b → Agree a b

-- all that a table says arrives there
abbrev pub AllArrive : List Slot → Table → Type 0
AllArrive program table = (place : ℕ) (d : Description) → described table place ≡ Some d → Arrives program place d

-- memory was refused, or a check failed, where it is not so that none ever does; the shape is at fault for neither
abbrev pub FailsUnless : Type 0 → OrMemory Refusal → Type 0
FailsUnless never OutOfMemory = Unit {0}
FailsUnless never (refused (Shape fault)) = ⊥
FailsUnless never (refused (Check cause slot)) = never → ⊥

abbrev pub LacksMemoryOrMore : List Slot → OrMemory Refusal → Type 0
LacksMemoryOrMore program = FailsUnless (NeverLacks program)

-- in the outermost function of a program of which it is enough everywhere
pub record IsNeverLacking (program : List Slot) (callers : List SavedRegisters) (start : ℕ) : Type 0 where
  pub lacks_not : NeverLacks program
  pub outermost : callers ≡ []
  pub first : start ≡ 0

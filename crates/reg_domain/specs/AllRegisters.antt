-- What is known of all registers at once where two paths meet, and at the entry of a program.
use Rattle.std.specs.Prelude.{◌≡◌, ℕ, ◌<◌, List, Option}
use Rattle.bpf_insn.specs.declared.reg.Reg.{Reg}
use Rattle.bpf_insn.specs.Reg.{number_of}
use Rattle.bpf_semantics.specs.MachineState.{entry, register}
use Rattle.check_register_kinds.specs.declared.kind.Kind.{Kind}
use Rattle.check_register_kinds.specs.Freezes.{FreezeNumbers, numbers_at_start}
use Rattle.check_register_kinds.specs.Kinds.{HoldsKind, IsAtMost, IsNumber}
use Rattle.check_description.specs.Changes.{at}

-- what one kind says or the other, and no more is lost than has to be
pub record Joins (a b joined : Kind) : Type 0 where
  pub of_first : (numbers : FreezeNumbers) (o : Option ℕ) → HoldsKind numbers a o → HoldsKind numbers joined o
  pub of_second : (numbers : FreezeNumbers) (o : Option ℕ) → HoldsKind numbers b o → HoldsKind numbers joined o
  pub equal : a ≡ b → joined ≡ a
  pub numbers : IsNumber a → IsNumber b → IsNumber joined
  pub bounds : (most : ℕ) → IsAtMost most a → IsAtMost most b → IsAtMost most joined

abbrev pub EachJoins : List Kind → List Kind → List Kind → Type 0
EachJoins first second joined = (i : ℕ) → i < 11 → Joins (at first i) (at second i) (at joined i)

-- each kind holds of the register of a run's first machine
abbrev pub HoldAtEntry : List Kind → Type 0
HoldAtEntry kinds = (context : List ℕ) (freeze : ℕ) (reg : Reg) → HoldsKind (numbers_at_start freeze) (at kinds (number_of reg)) (register (entry context freeze) reg)

-- The slots of a static path from slot 0, in their order, up to where it stands.
use Rattle.std.specs.Prelude.{◌≡◌, ℕ, List, [], ◌∷◌, ◌++◌, Some}
use Rattle.bpf_insn.specs.declared.insn.Insn.{Insn}
use Rattle.bpf_insn.specs.declared.program.Slot.{Slot}
use Rattle.bpf_insn.specs.Program.{insn_at}
use Rattle.call_shape.specs.StaticPath.{Standing, StepLeadsTo, IsOutermostExit, outermost}

-- at a slot, where calls are open that go on there, the innermost first
abbrev pub standing : ℕ → List ℕ → Standing
standing slot returns = record { slot = slot; returns = returns }

-- the instruction there may lead there
abbrev pub StandingLeads : List Slot → Standing → Standing → Type 0
StandingLeads program at to = (insn : Insn) × (insn_at program at.slot ≡ Some insn) × StepLeadsTo at insn to

-- a path from slot 0 stood at these slots, one after the other, and stands there at the last of them
pub data Passes (program : List Slot) : List ℕ → Standing → Type 0 where
  begins : Passes program (0 ∷ []) (outermost 0)
  goes_on : (slots : List ℕ) (at to : Standing) → Passes program slots at → StandingLeads program at to → Passes program (slots ++ to.slot ∷ []) to

abbrev pub IsPath : List Slot → List ℕ → Type 0
IsPath program slots = (at : Standing) × Passes program slots at

-- a path from slot 0 that stands at the outermost exit, the last of its slots
pub record IsWhole (program : List Slot) (slots : List ℕ) : Type 0 where
  pub at : Standing
  pub passes : Passes program slots at
  pub insn : Insn
  pub there : insn_at program at.slot ≡ Some insn
  pub ends : IsOutermostExit at insn

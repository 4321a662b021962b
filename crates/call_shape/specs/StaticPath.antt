-- Static paths: lists of instructions from a slot to the outermost exit, along both ways of each conditional jump and
-- into and back out of each function that is called.
use Rattle.std.specs.Prelude.{◌≡◌, ℕ, zero, suc, ◌+◌, ◌≤◌, max, List, [], ◌∷◌, length, Some, ◌⊎◌}
use Rattle.std.proofs.Common.{inl, inr}
use Rattle.bpf_insn.specs.declared.insn.Insn.{Insn}
use Rattle.bpf_insn.specs.declared.insn.Insn.TheVariants.{Alu, InPlace, SignExtend, JumpIf, Jump, LoadImmediate, Load, Store, Call, Exit}
use Rattle.bpf_insn.specs.declared.insn.Callee.TheVariants.{Helper, Local}
use Rattle.bpf_insn.specs.declared.program.Slot.{Slot}
use Rattle.bpf_insn.specs.Program.{insn_at}
use Rattle.bpf_insn.specs.Target.{target, distance_of}

-- where a path stands: a slot, and where the calls that are open there go on, the innermost first
pub record Standing : Type 0 where
  pub slot : ℕ
  pub returns : List ℕ

-- at a slot of the outermost function
abbrev pub outermost : ℕ → Standing
outermost slot = record { slot = slot; returns = [] }

-- at another slot of the same function
abbrev pub moved : Standing → ℕ → Standing
moved at slot = record at { slot = slot }

-- at the start of a function that is called there, and that returns to after its call
abbrev pub called : Standing → ℕ → Standing
called at start = record { slot = start; returns = (at.slot + 1) ∷ at.returns }

-- how many functions are open, each with its frame
abbrev pub frames_at : Standing → ℕ
frames_at at = length at.returns + 1

-- an exit leads to where the innermost open call goes on
abbrev pub ReturnsTo : List ℕ → Standing → Type 0
ReturnsTo [] to = ⊥
ReturnsTo (return ∷ returns) to = to ≡ record { slot = return; returns = returns }

-- where an instruction may lead, whatever the machine
abbrev pub StepLeadsTo : Standing → Insn → Standing → Type 0
StepLeadsTo at (Alu width op dst src) to = to ≡ moved at (at.slot + 1)
StepLeadsTo at (InPlace op dst) to = to ≡ moved at (at.slot + 1)
StepLeadsTo at (SignExtend extension dst src) to = to ≡ moved at (at.slot + 1)
StepLeadsTo at (JumpIf width condition dst src offset) to = (to ≡ moved at (at.slot + 1)) ⊎ (to ≡ moved at (target at.slot offset))
StepLeadsTo at (Jump distance) to = to ≡ moved at (target at.slot (distance_of distance))
StepLeadsTo at (LoadImmediate dst value) to = to ≡ moved at (at.slot + 2)
StepLeadsTo at (Load form dst src offset) to = to ≡ moved at (at.slot + 1)
StepLeadsTo at (Store size dst src offset) to = to ≡ moved at (at.slot + 1)
StepLeadsTo at (Call (Helper number)) to = to ≡ moved at (at.slot + 1)
StepLeadsTo at (Call (Local distance)) to = to ≡ called at (target at.slot distance)
StepLeadsTo at Exit to = ReturnsTo at.returns to

-- Control may come from one standing to another: it stands there already, or an instruction leads there from where it may come.
pub data PathLeads (program : List Slot) (from : Standing) : Standing → Type 0 where
  starts : PathLeads program from from
  goes_on : (at to : Standing) (insn : Insn) → PathLeads program from at → insn_at program at.slot ≡ Some insn → StepLeadsTo at insn to → PathLeads program from to

-- an exit while no call is open
abbrev pub IsOutermostExit : Standing → Insn → Type 0
IsOutermostExit at insn = (insn ≡ Exit) × (at.returns ≡ [])

-- a static path of so many instructions to the outermost exit, which counts
abbrev pub StaticPath : List Slot → Standing → ℕ → Type 0
StaticPath program at zero = ⊥
StaticPath program at (suc n) =
    (insn : Insn) × (insn_at program at.slot ≡ Some insn)
    × ((IsOutermostExit at insn × (n ≡ 0)) ⊎ ((to : Standing) × StepLeadsTo at insn to × StaticPath program to n))

-- the most frames that there are at a time along a path
abbrev pub depth : (program : List Slot) (at : Standing) (n : ℕ) → StaticPath program at n → ℕ
depth program at zero path = absurd path
depth program at (suc n) (insn, is, inl end) = frames_at at
depth program at (suc n) (insn, is, inr (to, leads, rest)) = max (frames_at at) (depth program to n rest)

-- some static path from slot 0 has that depth, and none is deeper
pub record IsFrames (program : List Slot) (frames : ℕ) : Type 0 where
  pub instructions : ℕ
  pub path : StaticPath program (outermost 0) instructions
  pub met : depth program (outermost 0) instructions path ≡ frames
  pub deepest : (n : ℕ) (other : StaticPath program (outermost 0) n) → depth program (outermost 0) n other ≤ frames

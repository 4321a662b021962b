-- What is left of a longest path where it stands, and where it goes on.
use Rattle.std.specs.Prelude.{◌≡◌, ℕ, ◌+◌, ◌≤◌, List, ◌∷◌, ◌⊎◌, slice_index, sum_by}
use Rattle.bpf_insn.specs.declared.program.Slot.{Slot}
use Rattle.bpf_insn.specs.Program.{IsProgram}
use Rattle.budget_path.specs.Longest.{AreLongest}
use Rattle.call_shape.specs.OnTheWay.{AreBegun}
use Rattle.call_shape.specs.Shape.{IsLawful}
use Rattle.call_shape.specs.StaticPath.{Standing}
use Rattle.call_shape.specs.declared.onward.Onward.{Onward}
use Rattle.call_shape.specs.declared.onward.Onward.TheVariants.{Leaves, Continues, Branches, Enters}
use Rattle.explain_path.specs.Passes.{StandingLeads, standing}

-- how many instructions are left there: to the exit of its function, and from where each open call goes on to that of its own
abbrev pub left : List ℕ → Standing → ℕ
left lengths at = slice_index lengths at.slot + sum_by (slice_index lengths) at.returns

-- a path through a program of lawful shape stands there
pub record IsUnderWay (program : List Slot) (lengths : List ℕ) (at : Standing) : Type 0 where
  pub program_is : IsProgram program
  pub lawful : IsLawful program
  pub longest : AreLongest program lengths
  pub begun : AreBegun program (at.slot ∷ at.returns)

-- it goes on there, and one instruction less is left
pub record StepsOn (program : List Slot) (lengths : List ℕ) (at to : Standing) : Type 0 where
  pub leads : StandingLeads program at to
  pub under_way : IsUnderWay program lengths to
  pub one_less : left lengths at ≡ left lengths to + 1

-- of two slots that from which the longer path leads
abbrev pub IsLonger : List ℕ → ℕ → ℕ → ℕ → Type 0
IsLonger lengths one other longer =
    ((longer ≡ one) × (slice_index lengths other ≤ slice_index lengths one)) ⊎ ((longer ≡ other) × (slice_index lengths one ≤ slice_index lengths other))

-- where it goes on, by where the instruction lets control go on
abbrev pub GoesTo : List ℕ → List ℕ → Onward → Standing → Type 0
GoesTo lengths returns Leaves to = returns ≡ to.slot ∷ to.returns
GoesTo lengths returns (Continues next) to = to ≡ standing next returns
GoesTo lengths returns (Branches next other) to = (to.returns ≡ returns) × IsLonger lengths next other to.slot
GoesTo lengths returns (Enters callee next) to = to ≡ standing callee (next ∷ returns)

-- Which places of a program control may come to from another one, whatever the machine.
use Rattle.std.specs.Prelude.{◌≡◌, ◌⊎◌, ℕ, List, Some}
use Rattle.bpf_insn.specs.declared.insn.Insn.{Insn}
use Rattle.bpf_insn.specs.declared.program.Slot.{Slot}
use Rattle.bpf_insn.specs.Program.{insn_at}
use Rattle.call_shape.specs.Onward.{onward}
use Rattle.call_shape.specs.declared.onward.Onward.{Onward}
use Rattle.call_shape.specs.declared.onward.Onward.TheVariants.{Leaves, Continues, Branches, Enters}

-- control goes on there: at a call in the function that is called, and after the call once that ends
abbrev pub GoesOnAt : Onward → ℕ → Type 0
GoesOnAt Leaves to = ⊥
GoesOnAt (Continues next) to = to ≡ next
GoesOnAt (Branches next other) to = (to ≡ next) ⊎ (to ≡ other)
GoesOnAt (Enters callee next) to = (to ≡ callee) ⊎ (to ≡ next)

-- the instruction at one place leads to another
abbrev pub LeadsFrom : List Slot → ℕ → ℕ → Type 0
LeadsFrom program at to = (insn : Insn) × (insn_at program at ≡ Some insn) × GoesOnAt (onward at insn) to

-- Control may come from one place to another: it stands there already, or an instruction leads there from where it may come.
pub data Reaches (program : List Slot) (from : ℕ) : ℕ → Type 0 where
  stands : Reaches program from from
  goes_on : (at to : ℕ) → Reaches program from at → LeadsFrom program at to → Reaches program from to

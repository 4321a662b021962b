-- What the tables hold that the checks keep, an entry for each slot.
use Rattle.std.specs.Prelude.{◌≡◌, ℕ, ◌<◌, List, length, slice_index, ⊤}
use Rattle.bpf_insn.specs.declared.program.Slot.{Slot}
use Rattle.bpf_insn.specs.declared.program.TheConstants.{MAX_SLOTS}
use Rattle.call_shape.specs.Calls.{function_of}
use Rattle.call_shape.specs.declared.onward.Onward.{Onward}
use Rattle.call_shape.specs.declared.onward.Onward.TheVariants.{Leaves, Continues, Branches, Enters}

-- the function of each slot
pub record AreFunctions (program : List Slot) (functions : List ℕ) : Type 0 where
  pub whole : length functions ≡ MAX_SLOTS
  pub each : (slot : ℕ) → slot < length program → slice_index functions slot ≡ function_of program slot

-- the slots where control goes on have entries in a table of so many
abbrev pub HasEntries : ℕ → Onward → Type 0
HasEntries n Leaves = ⊤
HasEntries n (Continues next) = next < n
HasEntries n (Branches next other) = (next < n) × (other < n)
HasEntries n (Enters callee next) = (callee < n) × (next < n)

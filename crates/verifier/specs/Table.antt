-- What a table of descriptions, an entry for each slot of a function, says of the machines at the places of that function
-- while others wait for it.
use Rattle.std.specs.Prelude.{◌≡◌, ℕ, ◌+◌, ◌<◌, ◌≤◌, List, [], ◌∷◌, ◌++◌, length, Option, Some, None, slice_index_or}
use Rattle.bpf_insn.specs.declared.insn.Insn.{Insn}
use Rattle.bpf_insn.specs.declared.insn.Insn.TheVariants.{Exit}
use Rattle.bpf_semantics.specs.MachineState.{MachineState}
use Rattle.bpf_semantics.specs.Step.{does}
use Rattle.helpers.specs.declared.limits.HelperLimits.{HelperLimits}
use Rattle.check_description.specs.declared.description.Description.{Description}
use Rattle.check_private_insns.specs.declared.way.Way.{Way}
use Rattle.check_description.specs.declared.saved.SavedRegisters.{SavedRegisters}
use Rattle.check_description.specs.Description.{Covers, Describes, NeverStuck}
use Rattle.reg_domain.specs.Ways.{HasWay}
use Rattle.check_private_insns.specs.Follows.{GoesBy, StepsBy}

-- the descriptions of all slots of a function, `None` where nothing has led yet
abbrev pub Table : Type 0
Table = List (Option Description)

abbrev pub described : Table → ℕ → Option Description
described table at = slice_index_or table at None

-- the table describes the machine at that entry, while these functions wait
pub record IsKnown (callers : List SavedRegisters) (table : Table) (at : ℕ) (m : MachineState) : Type 0 where
  pub description : Description
  pub there : described table at ≡ Some description
  pub holds : Describes callers description m

-- what the one table knows the other knows too
abbrev pub Grows : Table → Table → Type 0
Grows before after = (callers : List SavedRegisters) (at : ℕ) (m : MachineState) → IsKnown callers before at m → IsKnown callers after at m

-- all that is described has so many frames
abbrev pub AllHave : ℕ → Table → Type 0
AllHave frames table = (at : ℕ) (d : Description) → described table at ≡ Some d → length d.stack ≡ frames

-- The first place alone is described, in a table of so many.
pub record IsFirstTable (len : ℕ) (entry : Description) (table : Table) : Type 0 where
  pub whole : length table ≡ len
  pub there : described table 0 ≡ Some entry
  pub others : (at : ℕ) → 1 ≤ at → described table at ≡ None

-- what is known of some machines, with those that were known before, if any
pub record IsMerged (before : Option Description) (d after : Description) : Type 0 where
  pub covers : Covers d after
  pub keeps : (old : Description) → before ≡ Some old → Covers old after
  pub frames : (frames : ℕ) → length d.stack ≡ frames → ((old : Description) → before ≡ Some old → length old.stack ≡ frames) → length after.stack ≡ frames

-- Something more was joined into a table at an entry.
pub record HasJoined (before : Table) (to : ℕ) (d : Description) (after : Table) : Type 0 where
  pub others : (at : ℕ) → (at ≡ to → ⊥) → described after at ≡ described before at
  pub grows : Grows before after
  pub here : (callers : List SavedRegisters) (m : MachineState) → Describes callers d m → IsKnown callers after to m
  pub frames : (frames : ℕ) → length d.stack ≡ frames → AllHave frames before → AllHave frames after

-- Machines of which that is known, of which none is stuck, were let on one way, to an entry or out of the table.
pub record HasLed (limits : HelperLimits) (callers : List SavedRegisters) (d : Description) (before : Table) (insn : Insn) (way : Way) (to : ℕ) (after : Table) : Type 0 where
  pub others : (other : ℕ) → (HasWay insn way → other ≡ to → ⊥) → described after other ≡ described before other
  pub grows : Grows before after
  pub frames : (frames : ℕ) → length d.stack ≡ frames → AllHave frames before → AllHave frames after
  pub unstuck : NeverStuck limits callers insn d
  pub follows : (m m' : MachineState) → to < length before → Describes callers d m → GoesBy m insn way → StepsBy m insn m' → IsKnown callers after to m'

-- A function is left where that is known, and what is known after its call is widened by that.
pub record HasLeft (saved : SavedRegisters) (d : Description) (before after : Option Description) : Type 0 where
  pub keeps : (old : Description) → before ≡ Some old → (now : Description) × (after ≡ Some now) × Covers old now
  pub leaves : (outer : List SavedRegisters) (m m' : MachineState) → Describes (outer ++ saved ∷ []) d m → does m Exit ≡ Some m' → (now : Description) × (after ≡ Some now) × Describes outer now m'
  pub frames : (frames : ℕ) → length d.stack ≡ frames + 1 → ((old : Description) → before ≡ Some old → length old.stack ≡ frames) → (now : Description) → after ≡ Some now → length now.stack ≡ frames

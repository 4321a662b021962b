-- What holds while a function is visited, place after place, from what is known where it is called.
use Rattle.std.specs.Prelude.{◌≡◌, ◌⊎◌, ℕ, ◌+◌, ◌-◌, ◌<◌, ◌≤◌, ◌==◌, true, false, List, length, Option, Some, None, if◌then◌else◌}
use Rattle.std.specs.List.{Contains}
use Rattle.bpf_insn.specs.declared.insn.Insn.{Insn}
use Rattle.bpf_insn.specs.declared.program.Slot.{Slot}
use Rattle.bpf_insn.specs.Program.{IsProgram, insn_at}
use Rattle.bpf_semantics.specs.MachineState.{MachineState, OpenCall}
use Rattle.bpf_semantics.specs.Stuck.{insn_is_stuck}
use Rattle.call_shape.specs.Calls.{begins, function_of}
use Rattle.call_shape.specs.Shape.{IsLawful, behind, goes_on_behind, target_in}
use Rattle.call_shape.specs.StaticPath.{Standing, outermost, PathLeads}
use Rattle.call_shape.specs.WrittenOut.{count_at, written_out}
use Rattle.helpers.specs.declared.limits.HelperLimits.{HelperLimits}
use Rattle.check_description.specs.declared.description.Description.{Description}
use Rattle.check_description.specs.declared.saved.SavedRegisters.{SavedRegisters}
use Rattle.check_description.specs.Description.{Describes, NeverStuck}
use Rattle.check_private_insns.specs.Follows.{StepsBy}
use Rattle.verifier.specs.Checks.{AreOnce, IsBefore, IsOnPath}
use Rattle.verifier.specs.Goes.{IsChecked, IsLeft, StaysWell}
use Rattle.verifier.specs.OnTheWay.{IsChain}
use Rattle.verifier.specs.Table.{Table, described, AllHave, Grows, IsKnown}

abbrev pub IsLawfulProgram : List Slot → Type 0
IsLawfulProgram program = IsProgram program × IsLawful program

-- within its function an instruction leads to places before the end alone
pub record LeadsBelow (place : ℕ) (insn : Insn) (end : ℕ) : Type 0 where
  pub goes_on : goes_on_behind insn ≡ true → behind place insn < end
  pub jumps : (to : ℕ) → target_in place insn ≡ Some to → to < end

-- so do all from a function's start up to there
pub record IsEnd (program : List Slot) (start end : ℕ) : Type 0 where
  pub some : start < end
  pub inside : end ≤ length program
  pub closed : (place : ℕ) (insn : Insn) → start ≤ place → place < end → insn_at program place ≡ Some insn → LeadsBelow place insn end

-- A place that is described is one of its function's, it has a frame for each function that waits and one of its own, a
-- static path leads there with as many calls open, and one leads there from the function's start.
pub record IsOwn (program : List Slot) (callers : List SavedRegisters) (start place : ℕ) (d : Description) : Type 0 where
  pub begun : begins program place ≡ true
  pub within : function_of program place ≡ start
  pub frames : length d.stack ≡ length callers + 1
  pub chain : IsChain program (length callers) place
  pub leads : PathLeads program (outermost start) (outermost place)

-- the table describes the machine where it stands
pub record Stands (callers : List SavedRegisters) (calls : List OpenCall) (start : ℕ) (table : Table) (m : MachineState) : Type 0 where
  pub at : ℕ
  pub place : m.pc ≡ start + at
  pub known : IsKnown callers table at m
  pub calls_are : m.open_calls ≡ calls

-- a machine is known where it stands, has left the function, or is in a function that this one calls, and is well until
-- it comes back
abbrev pub Lands : HelperLimits → List Slot → List SavedRegisters → List OpenCall → ℕ → Table → Option Description → List Standing → MachineState → Type 0
Lands limits program callers calls start table left checks m =
    Stands callers calls start table m
    ⊎ (IsLeft callers left calls m ⊎ ((n : ℕ) → StaysWell program (IsChecked limits program checks calls) (Stands callers calls start table) n m))

-- A place that is done with: no machine that is known there is stuck, and what its instruction makes of one lands well.
pub record IsDone (limits : HelperLimits) (program : List Slot) (callers : List SavedRegisters) (start : ℕ) (table : Table) (left : Option Description) (checks : List Standing) (at : ℕ) (insn : Insn) : Type 0 where
  pub unstuck : (m : MachineState) → IsKnown callers table at m → insn_is_stuck limits m insn ≡ false
  pub follows : (m m' : MachineState) → m.pc ≡ start + at → IsKnown callers table at m → StepsBy m insn m' → Lands limits program callers m.open_calls start table left checks m'

-- The places before this one are done with, by these checks.
pub record AreDone (limits : HelperLimits) (program : List Slot) (callers : List SavedRegisters) (start : ℕ) (table : Table) (left : Option Description) (checks : List Standing) (at : ℕ) : Type 0 where
  pub end : IsEnd program start (start + length table)
  pub own : (place : ℕ) (d : Description) → described table place ≡ Some d → IsOwn program callers start (start + place) d
  pub left_frames : (d : Description) → left ≡ Some d → length d.stack ≡ length callers
  pub done : (before : ℕ) (insn : Insn) → before < at → insn_at program (start + before) ≡ Some insn → IsDone limits program callers start table left checks before insn
  pub checked : (before : ℕ) (d : Description) → before < at → described table before ≡ Some d → Contains checks (outermost (start + before))

-- The places before this one were visited, with as many checks, none twice and each where a static path leads from the
-- function's start, as the counter went up by.
pub record AreVisited (limits : HelperLimits) (program : List Slot) (callers : List SavedRegisters) (start : ℕ) (table : Table) (left : Option Description) (at before after : ℕ) : Type 0 where
  pub checks : List Standing
  pub made : before + length checks ≡ after
  pub once : AreOnce checks
  pub on_paths : (check : Standing) → Contains checks check → IsOnPath program (outermost start) check
  pub earlier : (check : Standing) → Contains checks check → IsBefore (start + at) check
  pub done : AreDone limits program callers start table left checks at

-- The instruction at an entry, by which control stays in the function, was checked where that is known, and led on both ways.
pub record HasChecked (limits : HelperLimits) (callers : List SavedRegisters) (start : ℕ) (d : Description) (before : Table) (at : ℕ) (insn : Insn) (after : Table) : Type 0 where
  pub others : (k : ℕ) → (goes_on_behind insn ≡ true → start + k ≡ behind (start + at) insn → ⊥) → (target_in (start + at) insn ≡ Some (start + k) → ⊥) → described after k ≡ described before k
  pub grows : Grows before after
  pub frames : (frames : ℕ) → length d.stack ≡ frames → AllHave frames before → AllHave frames after
  pub unstuck : NeverStuck limits callers insn d
  pub follows : (m m' : MachineState) → m.pc ≡ start + at → Describes callers d m → StepsBy m insn m' → Stands callers m.open_calls start after m'

-- The places before this one were visited, from what is known at the function's start. What was known at them is kept no more;
-- what is known at the others is in the table.
pub record ArePassed (limits : HelperLimits) (program : List Slot) (callers : List SavedRegisters) (entry : Description) (start : ℕ) (table : Table) (left : Option Description) (at before after : ℕ) : Type 0 where
  pub all : Table
  pub whole : length all ≡ length table
  pub gone : (k : ℕ) → k < at → described table k ≡ None
  pub ahead : (k : ℕ) → at ≤ k → described all k ≡ described table k
  pub entered : (m : MachineState) → Describes callers entry m → IsKnown callers all 0 m
  pub visited : AreVisited limits program callers start all left at before after

-- how many checks a place of a function may take, with its calls followed so many deep
abbrev pub checks_at : ℕ → List Slot → ℕ → ℕ → ℕ
checks_at deep program start place =
    if function_of program place == start then count_at (written_out deep program) place (insn_at program place) else 0

-- how deep the calls of a function are followed that so many wait for
abbrev pub deep_under : List SavedRegisters → ℕ
deep_under callers = 7 - length callers

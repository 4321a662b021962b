-- What it is for a function to be sound, from what is known where it is called: no machine is stuck in it, nor in what it
-- calls, up to where it leaves, and where it stands a check was made. That is said by steps counted down, so that a run
-- need not come to an end.
use Rattle.std.specs.Prelude.{◌≡◌, ◌⊎◌, ℕ, ℤ, zero, suc, ◌+◌, false, List, ◌∷◌, [], ◌++◌, length, Option, Some}
use Rattle.std.specs.List.{Contains}
use Rattle.bpf_insn.specs.declared.insn.Callee.TheVariants.{Local}
use Rattle.bpf_insn.specs.declared.insn.Insn.TheVariants.{Call}
use Rattle.bpf_insn.specs.declared.program.Slot.{Slot}
use Rattle.bpf_insn.specs.Target.{target}
use Rattle.bpf_semantics.specs.MachineState.{MachineState, OpenCall}
use Rattle.bpf_semantics.specs.Reached.{Steps}
use Rattle.bpf_semantics.specs.Stuck.{is_stuck}
use Rattle.call_shape.specs.StaticPath.{Standing, outermost}
use Rattle.helpers.specs.declared.limits.HelperLimits.{HelperLimits}
use Rattle.check_description.specs.declared.description.Description.{Description}
use Rattle.check_description.specs.declared.saved.SavedRegisters.{SavedRegisters}
use Rattle.check_description.specs.Description.{Describes}
use Rattle.check_private_insns.specs.Follows.{StepsBy}
use Rattle.verifier.specs.Checks.{AreOnce, IsOnPath, returns_of}

-- all is well with each machine on the way for so many instructions, or until it has come to where that ends
abbrev pub StaysWell : List Slot → (MachineState → Type 0) → (MachineState → Type 0) → ℕ → MachineState → Type 0
StaysWell program Well Ends zero m = Unit {0}
StaysWell program Well Ends (suc n) m =
    Well m × ((m' : MachineState) → Steps program m m' → Ends m' ⊎ StaysWell program Well Ends n m')

-- A machine is not stuck, and one of these checks is of where it stands, as seen from a function at whose start those
-- calls were open.
pub record IsChecked (limits : HelperLimits) (program : List Slot) (checks : List Standing) (calls : List OpenCall) (m : MachineState) : Type 0 where
  pub unstuck : is_stuck program limits m ≡ false
  pub inner : List OpenCall
  pub opened : m.open_calls ≡ inner ++ calls
  pub checked : Contains checks (record { slot = m.pc; returns = returns_of inner })

-- Back in the caller, of which that is known, where these calls were open.
pub record IsLeft (callers : List SavedRegisters) (left : Option Description) (calls : List OpenCall) (m : MachineState) : Type 0 where
  pub call : OpenCall
  pub rest : List OpenCall
  pub calls_were : calls ≡ call ∷ rest
  pub outer : List SavedRegisters
  pub saved : SavedRegisters
  pub callers_were : callers ≡ outer ++ saved ∷ []
  pub description : Description
  pub known : left ≡ Some description
  pub place : m.pc ≡ call.return_pc
  pub calls_are : m.open_calls ≡ rest
  pub holds : Describes outer description m

-- from where a function starts that is entered where that is known, with these checks
abbrev pub FunctionIsSound : HelperLimits → List Slot → List SavedRegisters → Description → ℕ → Option Description → List Standing → Type 0
FunctionIsSound limits program callers entry start left checks =
    (m : MachineState) → m.pc ≡ start → Describes callers entry m → (n : ℕ) →
    StaysWell program (IsChecked limits program checks m.open_calls) (IsLeft callers left m.open_calls) n m

-- The checks of a visit of a function, none twice and each where a static path leads from its start, with which it is sound:
-- as many as the counter went up by.
pub record IsVisited (limits : HelperLimits) (program : List Slot) (callers : List SavedRegisters) (entry : Description) (start : ℕ) (left : Option Description) (before after : ℕ) : Type 0 where
  pub checks : List Standing
  pub made : before + length checks ≡ after
  pub once : AreOnce checks
  pub on_paths : (check : Standing) → Contains checks check → IsOnPath program (outermost start) check
  pub sound : FunctionIsSound limits program callers entry start left checks

-- Back after a call at that place, of which that is known.
pub record IsBack (callers : List SavedRegisters) (left : Option Description) (place : ℕ) (calls : List OpenCall) (m : MachineState) : Type 0 where
  pub description : Description
  pub known : left ≡ Some description
  pub behind_call : m.pc ≡ place
  pub calls_are : m.open_calls ≡ calls
  pub holds : Describes callers description m

-- The checks of a visit of what the call at a place calls, from what is known there: each where a static path leads from the
-- call.
pub record IsCallVisited (limits : HelperLimits) (program : List Slot) (callers : List SavedRegisters) (d : Description) (place callee : ℕ) (left : Option Description) (before after : ℕ) : Type 0 where
  pub checks : List Standing
  pub made : before + length checks ≡ after
  pub once : AreOnce checks
  pub on_paths : (check : Standing) → Contains checks check → IsOnPath program (outermost place) check
  pub inside : (check : Standing) → Contains checks check → (inner : List ℕ) × (check.returns ≡ inner ++ (place + 1) ∷ [])
  pub sound : (distance : ℤ) (m m' : MachineState) → Describes callers d m → m.pc ≡ place → target place distance ≡ callee → StepsBy m (Call (Local distance)) m' → (n : ℕ) →
      StaysWell program (IsChecked limits program checks m.open_calls) (IsBack callers left (place + 1) m.open_calls) n m'

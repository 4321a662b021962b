-- The checks that are made of a program: each is of an instruction under a chain of local calls that are open there.
use Rattle.std.specs.Prelude.{◌≡◌, ℕ, ◌<◌, ◌≤◌, true, List, [], ◌∷◌, ◌++◌, map, length}
use Rattle.std.specs.List.{Contains}
use Rattle.bpf_insn.specs.declared.program.Slot.{Slot}
use Rattle.bpf_semantics.specs.MachineState.{MachineState, OpenCall}
use Rattle.bpf_semantics.specs.Reached.{Reached}
use Rattle.call_shape.specs.Calls.{begins}
use Rattle.call_shape.specs.StaticPath.{Standing, outermost, PathLeads}

-- where open calls go on, the innermost first
abbrev pub returns_of : List OpenCall → List ℕ
returns_of calls = map (λ call. call.return_pc) calls

-- where a machine stands: at a slot, under the chain of calls that are open
abbrev pub standing_of : MachineState → Standing
standing_of m = record { slot = m.pc; returns = returns_of m.open_calls }

-- none of them twice
abbrev pub AreOnce : List Standing → Type 0
AreOnce [] = Unit {0}
AreOnce (check ∷ checks) = (Contains checks check → ⊥) × AreOnce checks

-- A check is of an instruction, and a static path leads to it from there.
pub record IsOnPath (program : List Slot) (from check : Standing) : Type 0 where
  pub begun : begins program check.slot ≡ true
  pub leads : PathLeads program from check

-- So many checks were made, none twice, each where a static path leads from slot 0, and one wherever a run may come.
pub record AreChecks (program : List Slot) (visits : ℕ) (checks : List Standing) : Type 0 where
  pub once : AreOnce checks
  pub number : length checks ≡ visits
  pub on_paths : (check : Standing) → Contains checks check → IsOnPath program (outermost 0) check
  pub reached : (n : ℕ) (m : MachineState) → Reached program n m → Contains checks (standing_of m)

-- A check of a function that is of a place before that one, or of what is called at one.
pub record IsBefore (place : ℕ) (check : Standing) : Type 0 where
  pub own : check.returns ≡ [] → check.slot < place
  pub called : (inner : List ℕ) (return : ℕ) → check.returns ≡ inner ++ return ∷ [] → return ≤ place

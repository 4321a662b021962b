-- What the verifier answers.
use Rattle.std.specs.Prelude.{◌≡◌, ℕ, ◌≤◌, List}
use Rattle.bpf_insn.specs.declared.program.Slot.{Slot}
use Rattle.helpers.specs.declared.limits.HelperLimits.{HelperLimits}
use Rattle.bpf_accepted.specs.Verdict.{Verdict, IsAccepted}
use Rattle.call_shape.specs.Shape.{IsLawful, FaultIs}
use Rattle.call_shape.specs.StaticPath.{outermost, Standing, StaticPath, IsFrames}
use Rattle.call_shape.specs.WrittenOut.{IsWrittenOut}
use Rattle.verifier.specs.Arrives.{NeverLacks}
use Rattle.verifier.specs.Checks.{AreChecks}
use Rattle.verifier.specs.declared.refusal.Refusal.TheVariants.{Shape, Check}
use Rattle.base.specs.declared.or_memory.OrMemory.{OrMemory}
use Rattle.verifier.specs.declared.refusal.Refusal.{Refusal}
use Rattle.base.specs.declared.or_memory.OrMemory.TheVariants.{OutOfMemory, Fault as refused}

-- the budget is the length of a static path, and none is longer
pub record IsBudget (program : List Slot) (budget : ℕ) : Type 0 where
  pub path : StaticPath program (outermost 0) budget
  pub longest : (n : ℕ) → StaticPath program (outermost 0) n → n ≤ budget

-- So many checks were made, each of one instruction under one chain of open calls, to which a static path leads: none of the
-- same twice, one wherever a run may come, and no more than there are instructions with the local calls written out.
pub record IsNumberOfChecks (program : List Slot) (visits : ℕ) : Type 0 where
  pub checks : List Standing
  pub are : AreChecks program visits checks
  pub some : 1 ≤ visits
  pub few : (count : ℕ) → IsWrittenOut program 0 count → visits ≤ count

-- A verdict on this program, whose shape is lawful, under these limits. Its frames are the most that there are at a time on
-- a static path.
pub record IsVerdictOn (program : List Slot) (limits : HelperLimits) (v : Verdict) : Type 0 where
  pub program_is : v.program ≡ program
  pub limits_are : v.limits ≡ limits
  pub lawful : IsLawful program
  pub accepted : IsAccepted v
  pub budget : IsBudget program v.budget
  pub frames : IsFrames program v.frames
  pub visits : IsNumberOfChecks program v.visits

-- A shape fault is answered for a program that has it, and for a program of lawful shape none is. No two shape faults
-- are answered for one program, since a fault that is named has the lowest number and slot.
abbrev pub ToldOfShape : List Slot → OrMemory Refusal → Type 0
ToldOfShape program OutOfMemory = IsLawful program
ToldOfShape program (refused (Shape fault)) = FaultIs program fault
ToldOfShape program (refused (Check cause slot)) = IsLawful program

-- A check fails for no program of which what is known is always enough.
abbrev pub ToldOfChecks : List Slot → OrMemory Refusal → Type 0
ToldOfChecks program OutOfMemory = Unit {0}
ToldOfChecks program (refused (Shape fault)) = Unit {0}
ToldOfChecks program (refused (Check cause slot)) = NeverLacks program → ⊥

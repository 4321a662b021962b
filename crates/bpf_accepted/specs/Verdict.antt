-- What it is for a program to be accepted.
use Rattle.std.specs.Prelude.{ℕ, ◌≤◌, List}
use Rattle.bpf_insn.specs.declared.program.Slot.{Slot}
use Rattle.bpf_insn.specs.Program.{IsProgram}
use Rattle.helpers.specs.declared.limits.HelperLimits.{HelperLimits}
use Rattle.bpf_semantics.specs.Reached.{Safe, Within}

-- a program, the limits under which it was verified, its budget in instructions, its greatest number of frames, and how many
-- checks were made of it
pub record Verdict : Type 0 where
  pub program : List Slot
  pub limits : HelperLimits
  pub budget : ℕ
  pub frames : ℕ
  pub visits : ℕ

-- No run of it is ever stuck, and none executes more instructions than its budget, which is 65,536 at most. It has frames, and checks
-- were made.
pub record IsAccepted (v : Verdict) : Type 0 where
  pub is_program : IsProgram v.program
  pub safe : Safe v.program v.limits
  pub within : Within v.program v.budget
  pub few_instructions : v.budget ≤ 65536
  pub some_frames : 1 ≤ v.frames
  pub few_frames : v.frames ≤ 8
  pub some_visits : 1 ≤ v.visits
  pub few_visits : v.visits ≤ 65536

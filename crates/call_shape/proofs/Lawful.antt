-- What a lawful shape gives of each instruction.
use Rattle.std.proofs.Common.{◌≡◌, ℕ, ◌+◌, ◌-◌, ◌<◌, List, length, Some, true, refl, ap, ◌∙◌, arith}
use Rattle.bpf_insn.specs.declared.insn.Insn.{Insn}
use Rattle.bpf_insn.specs.declared.insn.Insn.TheVariants.{Exit, Jump, Alu, InPlace, SignExtend, JumpIf, LoadImmediate, Load, Store, Call}
use Rattle.bpf_insn.specs.declared.program.Slot.{Slot}
use Rattle.bpf_insn.specs.Program.{IsProgram, insn_at}
use Rattle.bpf_insn.specs.Target.{target, distance_of}
use Rattle.call_shape.specs.Calls.{begins, callee_in}
use Rattle.call_shape.specs.Shape.{AreContained, IsLawful, target_in, goes_on_behind, behind}
use Rattle.call_shape.proofs.Places.{last_there, begins_inside}
use Rattle.call_shape.proofs.Contained.{target_there, callee_there, goes_on_begins, goes_on_inside, jumps_forward, jumps_to_insn, calls_insn}

contained_in : (program : List Slot) → IsLawful program → AreContained program
contained_in program lawful = lawful.frames.calls.functions

-- after an instruction that goes on there is one
pub goes_on_lawfully : (program : List Slot) (place : ℕ) (insn : Insn) → IsProgram program → IsLawful program → insn_at program place ≡ Some insn → goes_on_behind insn ≡ true → begins program (behind place insn) ≡ true
goes_on_lawfully program place insn is lawful at goes =
    goes_on_begins program place insn is (contained_in program lawful).calls.jumps.targets.targets.ends at goes

-- a jump leads on to an instruction
pub jumps_lawfully : (program : List Slot) (place to : ℕ) (insn : Insn) → IsProgram program → IsLawful program → insn_at program place ≡ Some insn → target_in place insn ≡ Some to → (place < to) × (begins program to ≡ true)
jumps_lawfully program place to insn is lawful at leads =
    let jumps = (contained_in program lawful).calls.jumps in
    let there = target_there program place to insn at leads in
    (jumps_forward program place to jumps there, jumps_to_insn program place to jumps.targets there)

-- a local call leads to an instruction
pub calls_lawfully : (program : List Slot) (place callee : ℕ) (insn : Insn) → IsProgram program → IsLawful program → insn_at program place ≡ Some insn → callee_in place insn ≡ Some callee → begins program callee ≡ true
calls_lawfully program place callee insn is lawful at leads =
    calls_insn program place callee (contained_in program lawful).calls (callee_there program place callee insn at leads)

runs_out : (program : List Slot) (place : ℕ) (insn : Insn) → AreContained program → behind place insn ≡ length program → insn_at program place ≡ Some insn → goes_on_behind insn ≡ true → ⊥
runs_out program place insn functions last at goes = omega (arith, last, (goes_on_inside program place insn functions.calls.jumps.targets.targets.ends at goes).0)

-- the last instruction is an exit: from any other it would go on after the program
exit_last : (program : List Slot) (place : ℕ) (insn : Insn) → AreContained program → behind place insn ≡ length program → insn_at program place ≡ Some insn → (place + 1 ≡ length program) × (insn ≡ Exit)
exit_last program place Exit functions last at = (last, refl)
exit_last program place (Jump distance) functions last at =
    let to : ℕ = target place (distance_of distance) in
    let there = target_there program place to (Jump distance) at refl in
    let inside = begins_inside program to (jumps_to_insn program place to functions.calls.jumps.targets there) in
    absurd (omega (arith, last, inside, jumps_forward program place to functions.calls.jumps there))
exit_last program place (Alu width op dst src) functions last at = absurd (runs_out program place (Alu width op dst src) functions last at refl)
exit_last program place (InPlace op dst) functions last at = absurd (runs_out program place (InPlace op dst) functions last at refl)
exit_last program place (SignExtend extension dst src) functions last at = absurd (runs_out program place (SignExtend extension dst src) functions last at refl)
exit_last program place (JumpIf width condition dst src offset) functions last at = absurd (runs_out program place (JumpIf width condition dst src offset) functions last at refl)
exit_last program place (LoadImmediate dst value) functions last at = absurd (runs_out program place (LoadImmediate dst value) functions last at refl)
exit_last program place (Load form dst src offset) functions last at = absurd (runs_out program place (Load form dst src offset) functions last at refl)
exit_last program place (Store size dst src offset) functions last at = absurd (runs_out program place (Store size dst src offset) functions last at refl)
exit_last program place (Call callee) functions last at = absurd (runs_out program place (Call callee) functions last at refl)

-- the last slot has an exit
pub last_is_exit : (program : List Slot) → IsProgram program → IsLawful program → insn_at program (length program - 1) ≡ Some Exit
last_is_exit program is lawful =
    let last = last_there program is in
    let exit = exit_last program last.0 last.1 (contained_in program lawful) last.3 last.2 in
    let place : length program - 1 ≡ last.0 = omega (arith, exit.0) in
    ap (insn_at program) place ∙ last.2 ∙ ap Some exit.1

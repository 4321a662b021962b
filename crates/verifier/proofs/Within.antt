-- No run of a safe program is longer than the longest static path.
use Rattle.std.proofs.Common.{◌≡◌, true, false, ℕ, zero, suc, ◌+◌, ◌≤◌, List, map, Option, Some, None, refl, ap, sym, subst, arith, inr}
use Rattle.bpf_insn.specs.declared.insn.Insn.{Insn}
use Rattle.bpf_insn.specs.declared.insn.Insn.TheVariants.{Alu, InPlace, SignExtend, JumpIf, Jump, LoadImmediate, Load, Store, Call, Exit}
use Rattle.bpf_insn.specs.declared.insn.Callee.TheVariants.{Helper, Local}
use Rattle.bpf_insn.specs.declared.program.Slot.{Slot}
use Rattle.bpf_insn.specs.Program.{IsProgram, insn_at}
use Rattle.bpf_semantics.specs.MachineState.{OpenCall, MachineState}
use Rattle.bpf_semantics.specs.Reached.{Reached, Safe, Within}
use Rattle.bpf_semantics.specs.Stuck.{is_stuck_at}
use Rattle.call_shape.specs.OnTheWay.{AreBegun}
use Rattle.call_shape.specs.Shape.{IsLawful}
use Rattle.call_shape.specs.StaticPath.{Standing, outermost, StaticPath}
use Rattle.call_shape.proofs.Lawful.{goes_on_lawfully}
use Rattle.call_shape.proofs.OnTheWay.{way_out}
use Rattle.call_shape.proofs.Places.{there_begins}
use Rattle.helpers.specs.declared.limits.HelperLimits.{HelperLimits}
use Rattle.check_private_insns.specs.Follows.{StepsBy}
use Rattle.verifier.proofs.Sound.{step_by}
use Rattle.verifier.proofs.Steps.{enters, leads_on, leaves, onward, returns_of, standing_of}

not_stuck : (limits : HelperLimits) (m : MachineState) (o : Option Insn) → is_stuck_at limits m o ≡ false → (insn : Insn) × (o ≡ Some insn)
not_stuck limits m (Some insn) e = (insn, refl)
not_stuck limits m None e = absurd (let bad : true ≡ false = e in cc)

-- a machine that is reached stands at an instruction
stands_at : (limits : HelperLimits) (program : List Slot) → Safe program limits → (n : ℕ) (m : MachineState) → Reached program n m → (insn : Insn) × (insn_at program m.pc ≡ Some insn)
stands_at limits program safe n m reached = not_stuck limits m (insn_at program m.pc) (safe n m reached)

-- the instructions after a run are the first of a static path
path_through : (limits : HelperLimits) (program : List Slot) → Safe program limits → (n : ℕ) (m : MachineState) → Reached program n m → (k : ℕ) → StaticPath program (standing_of m) k → StaticPath program (outermost 0) (n + k)
path_through limits program safe zero m entry k path =
    let same : k ≡ 0 + k = omega arith in
    subst (StaticPath program (outermost 0)) same (subst (λ (at : Standing). StaticPath program at k) (ap standing_of entry.is) path)
path_through limits program safe (suc n) m (before, reached, step) k path =
    let insn = stands_at limits program safe n before reached in
    let leads = leads_on before m insn.0 (step_by program before m insn.0 insn.1 step) in
    let longer : StaticPath program (standing_of before) (suc k) = (insn.0, insn.1, inr (standing_of m, leads, path)) in
    let all = path_through limits program safe n before reached (suc k) longer in
    let same : n + suc k ≡ suc n + k = omega arith in
    subst (StaticPath program (outermost 0)) same all

same_begun : (program : List Slot) (m m' : MachineState) → m'.open_calls ≡ m.open_calls → AreBegun program (returns_of m) → AreBegun program (returns_of m')
same_begun program m m' calls begun = subst (λ (l : List OpenCall). AreBegun program (map (λ (call : OpenCall). call.return_pc) l)) (sym calls) begun

-- an instruction begins after each call that is open
begun_on : (program : List Slot) (m m' : MachineState) (insn : Insn) → IsProgram program → IsLawful program → insn_at program m.pc ≡ Some insn → StepsBy m insn m' → AreBegun program (returns_of m) → AreBegun program (returns_of m')
begun_on program m m' (Call (Local distance)) is lawful at step begun =
    let in_callee = enters m m' distance step in
    subst (λ (l : List OpenCall). AreBegun program (map (λ (call : OpenCall). call.return_pc) l)) (sym in_callee.calls)
    (rw in_callee.behind_call (goes_on_lawfully program m.pc (Call (Local distance)) is lawful at refl), begun)
begun_on program m m' Exit is lawful at step begun =
    let back = leaves m m' step in
    subst (λ (l : List OpenCall). AreBegun program (map (λ (call : OpenCall). call.return_pc) l)) (sym back.calls)
    (subst (λ (l : List OpenCall). AreBegun program (map (λ (call : OpenCall). call.return_pc) l)) back.before begun).1
begun_on program m m' (Call (Helper number)) is lawful at step begun = same_begun program m m' (onward m m' (Call (Helper number)) refl step).calls begun
begun_on program m m' (Alu width op dst src) is lawful at step begun = same_begun program m m' (onward m m' (Alu width op dst src) refl step).calls begun
begun_on program m m' (InPlace op dst) is lawful at step begun = same_begun program m m' (onward m m' (InPlace op dst) refl step).calls begun
begun_on program m m' (SignExtend extension dst src) is lawful at step begun = same_begun program m m' (onward m m' (SignExtend extension dst src) refl step).calls begun
begun_on program m m' (JumpIf width condition dst src offset) is lawful at step begun = same_begun program m m' (onward m m' (JumpIf width condition dst src offset) refl step).calls begun
begun_on program m m' (Jump distance) is lawful at step begun = same_begun program m m' (onward m m' (Jump distance) refl step).calls begun
begun_on program m m' (LoadImmediate dst value) is lawful at step begun = same_begun program m m' (onward m m' (LoadImmediate dst value) refl step).calls begun
begun_on program m m' (Load form dst src offset) is lawful at step begun = same_begun program m m' (onward m m' (Load form dst src offset) refl step).calls begun
begun_on program m m' (Store size dst src offset) is lawful at step begun = same_begun program m m' (onward m m' (Store size dst src offset) refl step).calls begun

begun_there : (limits : HelperLimits) (program : List Slot) → IsProgram program → IsLawful program → Safe program limits → (n : ℕ) (m : MachineState) → Reached program n m → AreBegun program (returns_of m)
begun_there limits program is lawful safe zero m entry = rw entry.is tt
begun_there limits program is lawful safe (suc n) m (before, reached, step) =
    let insn = stands_at limits program safe n before reached in
    begun_on program before m insn.0 is lawful insn.1 (step_by program before m insn.0 insn.1 step) (begun_there limits program is lawful safe n before reached)

pub safe_within : (limits : HelperLimits) (program : List Slot) (budget : ℕ) → IsProgram program → IsLawful program → Safe program limits → ((n : ℕ) → StaticPath program (outermost 0) n → n ≤ budget) → Within program budget
safe_within limits program budget is lawful safe longest n m reached =
    let insn = stands_at limits program safe n m reached in
    let out = way_out program m.pc (returns_of m) is lawful.frames.calls (there_begins program m.pc insn.0 insn.1) (begun_there limits program is lawful safe n m reached) in
    let all : n + out.long ≤ budget = longest (n + out.long) (path_through limits program safe n m reached out.long out.path.0) in
    let some : 1 ≤ out.long = at_least_one program (standing_of m) out.long out.path.0 in
    (omega (arith, all), λ at_exit. omega (arith, all, some))
  where
    at_least_one : (program : List Slot) (at : Standing) (k : ℕ) → StaticPath program at k → 1 ≤ k
    at_least_one program at zero path = absurd path
    at_least_one program at (suc k) path = omega arith

-- Where control goes on in a program without the first six faults: forward to an instruction of the same function, or
-- into another function and back.
use Rattle.std.proofs.Common.{◌≡◌, ℕ, ◌<◌, List, Some, true, refl, arith}
use Rattle.std.specs.Prelude.{⊤}
use Rattle.bpf_insn.specs.declared.insn.Insn.{Insn}
use Rattle.bpf_insn.specs.declared.insn.Insn.TheVariants.{Alu, InPlace, SignExtend, JumpIf, Jump, LoadImmediate, Load, Store, Call, Exit}
use Rattle.bpf_insn.specs.declared.insn.Callee.TheVariants.{Helper, Local}
use Rattle.bpf_insn.specs.declared.program.Slot.{Slot}
use Rattle.bpf_insn.specs.Program.{IsProgram, insn_at}
use Rattle.bpf_insn.specs.Target.{target, distance_of}
use Rattle.call_shape.specs.declared.onward.Onward.{Onward}
use Rattle.call_shape.specs.declared.onward.Onward.TheVariants.{Leaves, Continues, Branches, Enters}
use Rattle.call_shape.specs.Onward.{onward}
use Rattle.call_shape.specs.Calls.{begins, function_of, callee_at}
use Rattle.call_shape.specs.Shape.{AreContained, target_in, goes_on_behind, behind}
use Rattle.call_shape.proofs.Contained.{target_there, callee_there, goes_on_inside, goes_on_begins, jumps_forward, jumps_to_insn, jumps_within, calls_insn}
use Rattle.call_shape.proofs.SlotFunctions.{function_behind}

-- a place further on in the same function
pub record IsFurther (program : List Slot) (place next : ℕ) : Type 0 where
  pub forward : place < next
  pub there : begins program next ≡ true
  pub within : function_of program next ≡ function_of program place

-- the start of a function that is called at the place
pub record IsCalled (program : List Slot) (place callee : ℕ) : Type 0 where
  pub leads : callee_at program place ≡ Some callee
  pub there : begins program callee ≡ true

abbrev pub IsLawfulWay : List Slot → ℕ → Onward → Type 0
IsLawfulWay program place Leaves = ⊤
IsLawfulWay program place (Continues next) = IsFurther program place next
IsLawfulWay program place (Branches next other) = IsFurther program place next × IsFurther program place other
IsLawfulWay program place (Enters callee next) = IsCalled program place callee × IsFurther program place next

pub further_behind : (program : List Slot) (place : ℕ) (insn : Insn) → IsProgram program → AreContained program → insn_at program place ≡ Some insn → goes_on_behind insn ≡ true → IsFurther program place (behind place insn)
further_behind program place insn is functions at goes =
    let ends = functions.calls.jumps.targets.targets.ends in
    record {
      forward = omega arith;
      there = goes_on_begins program place insn is ends at goes;
      within = function_behind program place insn is at (goes_on_inside program place insn ends at goes).1;
    }

further_target : (program : List Slot) (place to : ℕ) (insn : Insn) → AreContained program → insn_at program place ≡ Some insn → target_in place insn ≡ Some to → IsFurther program place to
further_target program place to insn functions at leads =
    let there = target_there program place to insn at leads in
    record {
      forward = jumps_forward program place to functions.calls.jumps there;
      there = jumps_to_insn program place to functions.calls.jumps.targets there;
      within = jumps_within program place to functions there;
    }

called : (program : List Slot) (place callee : ℕ) (insn : Insn) → AreContained program → callee_at program place ≡ Some callee → IsCalled program place callee
called program place callee insn functions leads = record { leads = leads; there = calls_insn program place callee functions.calls leads }

pub lawful_way : (program : List Slot) (place : ℕ) (insn : Insn) → IsProgram program → AreContained program → insn_at program place ≡ Some insn → IsLawfulWay program place (onward place insn)
lawful_way program place Exit is functions at = tt
lawful_way program place (Jump distance) is functions at = further_target program place (target place (distance_of distance)) (Jump distance) functions at refl
lawful_way program place (JumpIf width condition dst src offset) is functions at =
    let insn = JumpIf width condition dst src offset in (
      further_behind program place insn is functions at refl,
      further_target program place (target place offset) insn functions at refl,
    )
lawful_way program place (Call (Local distance)) is functions at =
    let insn = Call (Local distance) in (
      called program place (target place distance) insn functions (callee_there program place (target place distance) insn at refl),
      further_behind program place insn is functions at refl,
    )
lawful_way program place (Call (Helper number)) is functions at = further_behind program place (Call (Helper number)) is functions at refl
lawful_way program place (LoadImmediate dst value) is functions at = further_behind program place (LoadImmediate dst value) is functions at refl
lawful_way program place (Alu width op dst src) is functions at = further_behind program place (Alu width op dst src) is functions at refl
lawful_way program place (InPlace op dst) is functions at = further_behind program place (InPlace op dst) is functions at refl
lawful_way program place (SignExtend extension dst src) is functions at = further_behind program place (SignExtend extension dst src) is functions at refl
lawful_way program place (Load form dst src offset) is functions at = further_behind program place (Load form dst src offset) is functions at refl
lawful_way program place (Store size dst src offset) is functions at = further_behind program place (Store size dst src offset) is functions at refl

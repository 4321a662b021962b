-- What the first six faults leave of each instruction, where a program has none of them.
use Rattle.std.proofs.Common.{◌≡◌, ℕ, ◌<◌, ◌&&◌, ◌==◌, leb, ltb, not, List, length, Option, Some, Bool, true, false, ap, subst, ◌∙◌}
use Rattle.std.specs.Option.{option_and_then, option_map_or}
use Rattle.std.proofs.lemmas.Bool.{leb-false, lt-ltb, eqb-true, or_parts, not-false}
use Rattle.bpf_insn.specs.declared.insn.Insn.{Insn}
use Rattle.bpf_insn.specs.declared.program.Slot.{Slot}
use Rattle.bpf_insn.specs.Program.{IsProgram, insn_at}
use Rattle.call_shape.specs.Calls.{begins, is_start, function_of, callee_in, callee_at}
use Rattle.call_shape.specs.Shape.{AreEnded, AreWhole, AreForward, AreFound, AreContained, target_in, target_at, goes_on_behind, behind, is_function_end}
use Rattle.call_shape.proofs.Places.{begins_behind}

-- what a test of an optional value says where there is one
at_some : {A : Type 0} (test : A → Bool) (o : Option A) (x : A) → o ≡ Some x → option_map_or test o false ≡ false → test x ≡ false
at_some test o x e none = subst (λ (p : Option _). option_map_or test p false ≡ false) e none

second_false : (a b : Bool) → a ≡ true → (a && b) ≡ false → b ≡ false
second_false true b e none = none
second_false false b e none = absurd cc

pub target_there : (program : List Slot) (place to : ℕ) (insn : Insn) → insn_at program place ≡ Some insn → target_in place insn ≡ Some to → target_at program place ≡ Some to
target_there program place to insn at leads = ap (option_and_then (target_in place)) at ∙ leads

pub callee_there : (program : List Slot) (place callee : ℕ) (insn : Insn) → insn_at program place ≡ Some insn → callee_in place insn ≡ Some callee → callee_at program place ≡ Some callee
callee_there program place callee insn at leads = ap (option_and_then (callee_in place)) at ∙ leads

-- after an instruction that goes on its function goes on too
pub goes_on_inside : (program : List Slot) (place : ℕ) (insn : Insn) → AreEnded program → insn_at program place ≡ Some insn → goes_on_behind insn ≡ true → (behind place insn < length program) × (is_start program (behind place insn) ≡ false)
goes_on_inside program place insn ends at goes =
    let closed = at_some (λ i. goes_on_behind i && is_function_end program (behind place i)) (insn_at program place) insn at (ends.ended place) in
    let open_still = or_parts (leb (length program) (behind place insn)) (is_start program (behind place insn)) (second_false (goes_on_behind insn) (is_function_end program (behind place insn)) goes closed) in
    (leb-false _ _ open_still.0, open_still.1)

pub goes_on_begins : (program : List Slot) (place : ℕ) (insn : Insn) → IsProgram program → AreEnded program → insn_at program place ≡ Some insn → goes_on_behind insn ≡ true → begins program (behind place insn) ≡ true
goes_on_begins program place insn is ends at goes = begins_behind program place insn is at (goes_on_inside program place insn ends at goes).0

pub jumps_forward : (program : List Slot) (place to : ℕ) → AreForward program → target_at program place ≡ Some to → place < to
jumps_forward program place to jumps at = leb-false _ _ (at_some (λ t. leb t place) (target_at program place) to at (jumps.forward place))

pub jumps_to_insn : (program : List Slot) (place to : ℕ) → AreWhole program → target_at program place ≡ Some to → begins program to ≡ true
jumps_to_insn program place to jumps at =
    let within = lt-ltb to (length program) (leb-false _ _ (at_some (λ t. leb (length program) t) (target_at program place) to at (jumps.targets.inside place))) in
    let split = at_some (λ t. ltb t (length program) && not (begins program t)) (target_at program place) to at (jumps.whole place) in
    not-false _ (second_false (ltb to (length program)) (not (begins program to)) within split)

pub calls_insn : (program : List Slot) (place callee : ℕ) → AreFound program → callee_at program place ≡ Some callee → begins program callee ≡ true
calls_insn program place callee calls at = not-false _ (at_some (λ t. not (begins program t)) (callee_at program place) callee at (calls.found place))

pub jumps_within : (program : List Slot) (place to : ℕ) → AreContained program → target_at program place ≡ Some to → function_of program to ≡ function_of program place
jumps_within program place to functions at =
    eqb-true _ _ (not-false _ (at_some (λ t. not (function_of program t == function_of program place)) (target_at program place) to at (functions.contained place)))

-- A function on its way: the place after an instruction, its target, what it calls, and the place after the call.
use Rattle.std.proofs.Common.{◌≡◌, true, false, ℕ, ℤ, ◌+◌, ◌<◌, List, [], ◌∷◌, Some, None, refl, ap, sym, arith, inl, inr}
use Rattle.bpf_insn.specs.declared.insn.Insn.{Insn}
use Rattle.bpf_insn.specs.declared.insn.Insn.TheVariants.{Alu, InPlace, SignExtend, JumpIf, Jump, LoadImmediate, Load, Store, Call, Exit}
use Rattle.bpf_insn.specs.declared.insn.Callee.TheVariants.{Helper, Local}
use Rattle.bpf_insn.specs.declared.program.Slot.{Slot}
use Rattle.bpf_insn.specs.Program.{insn_at}
use Rattle.bpf_insn.specs.Target.{target}
use Rattle.call_shape.specs.Calls.{begins, callee_in, function_of}
use Rattle.call_shape.specs.Shape.{behind, goes_on_behind, target_in}
use Rattle.call_shape.specs.StaticPath.{Standing, outermost, called, moved, StepLeadsTo, PathLeads, goes_on}
use Rattle.call_shape.proofs.Contained.{callee_there}
use Rattle.call_shape.proofs.Lawful.{calls_lawfully, goes_on_lawfully}
use Rattle.call_shape.proofs.Leading.{leads_back}
use Rattle.call_shape.proofs.OnTheWay.{begins_on_the_way, further, room_to_call, way_out}
use Rattle.call_shape.proofs.Paths.{joined, one_frame_at_least}
use Rattle.call_shape.proofs.SlotFunctions.{callee_starts, own_function}
use Rattle.call_shape.proofs.WaysOut.{ways_out_lem}
use Rattle.check_description.specs.declared.saved.SavedRegisters.{SavedRegisters}
use Rattle.reg_domain.specs.Ways.{Stays}
use Rattle.verifier.specs.Function.{IsLawfulProgram}
use Rattle.verifier.specs.OnTheWay.{IsChain}

pub chain_first : (program : List Slot) → IsChain program 0 0
chain_first program = record { returns = []; count = refl; begun = tt; on = begins_on_the_way program }

-- after an instruction by which control stays in its function
leads_behind : (callers : List SavedRegisters) (at : Standing) (insn : Insn) → Stays callers insn → goes_on_behind insn ≡ true → StepLeadsTo at insn (moved at (behind at.slot insn))
leads_behind callers at (Alu width op dst src) stays goes = refl
leads_behind callers at (InPlace op dst) stays goes = refl
leads_behind callers at (SignExtend extension dst src) stays goes = refl
leads_behind callers at (JumpIf width condition dst src offset) stays goes = inl refl
leads_behind callers at (Jump distance) stays goes = absurd (let bad : false ≡ true = goes in cc)
leads_behind callers at (LoadImmediate dst value) stays goes = refl
leads_behind callers at (Load form dst src offset) stays goes = refl
leads_behind callers at (Store size dst src offset) stays goes = refl
leads_behind callers at (Call (Helper number)) stays goes = refl
leads_behind callers at (Call (Local distance)) stays goes = absurd stays
leads_behind callers at Exit stays goes = absurd (let bad : false ≡ true = goes in cc)

some_is : (x y : ℕ) → Some x ≡ Some y → x ≡ y
some_is x y e = cc

no_target : (to : ℕ) → None ≡ Some to → ⊥
no_target to e = absurd cc

leads_there : (at : Standing) (insn : Insn) (to : ℕ) → target_in at.slot insn ≡ Some to → StepLeadsTo at insn (moved at to)
leads_there at (JumpIf width condition dst src offset) to leads = inr (ap (moved at) (sym (some_is _ to leads)))
leads_there at (Jump distance) to leads = ap (moved at) (sym (some_is _ to leads))
leads_there at (Alu width op dst src) to leads = absurd (no_target to leads)
leads_there at (InPlace op dst) to leads = absurd (no_target to leads)
leads_there at (SignExtend extension dst src) to leads = absurd (no_target to leads)
leads_there at (LoadImmediate dst value) to leads = absurd (no_target to leads)
leads_there at (Load form dst src offset) to leads = absurd (no_target to leads)
leads_there at (Store size dst src offset) to leads = absurd (no_target to leads)
leads_there at (Call callee) to leads = absurd (no_target to leads)
leads_there at Exit to leads = absurd (no_target to leads)

pub chain_behind : (program : List Slot) (calls place : ℕ) (callers : List SavedRegisters) (insn : Insn) → insn_at program place ≡ Some insn → Stays callers insn → goes_on_behind insn ≡ true → IsChain program calls place → IsChain program calls (behind place insn)
chain_behind program calls place callers insn here stays goes chain =
    let at : Standing = record { slot = place; returns = chain.returns } in
    record {
      returns = chain.returns;
      count = chain.count;
      begun = chain.begun;
      on = further program at (moved at (behind place insn)) insn here (leads_behind callers at insn stays goes) chain.on;
    }

pub chain_target : (program : List Slot) (calls place to : ℕ) (insn : Insn) → insn_at program place ≡ Some insn → target_in place insn ≡ Some to → IsChain program calls place → IsChain program calls to
chain_target program calls place to insn here leads chain =
    let at : Standing = record { slot = place; returns = chain.returns } in
    record {
      returns = chain.returns;
      count = chain.count;
      begun = chain.begun;
      on = further program at (moved at to) insn here (leads_there at insn to leads) chain.on;
    }

-- the same of a path from somewhere
pub comes_behind : (program : List Slot) (from : Standing) (place : ℕ) (callers : List SavedRegisters) (insn : Insn) → insn_at program place ≡ Some insn → Stays callers insn → goes_on_behind insn ≡ true → PathLeads program from (outermost place) → PathLeads program from (outermost (behind place insn))
comes_behind program from place callers insn here stays goes comes =
    goes_on (outermost place) (outermost (behind place insn)) insn comes here (leads_behind callers (outermost place) insn stays goes)

pub comes_there : (program : List Slot) (from : Standing) (place to : ℕ) (insn : Insn) → insn_at program place ≡ Some insn → target_in place insn ≡ Some to → PathLeads program from (outermost place) → PathLeads program from (outermost to)
comes_there program from place to insn here leads comes = goes_on (outermost place) (outermost to) insn comes here (leads_there (outermost place) insn to leads)

-- which instruction calls a function
pub local_call : (place to : ℕ) (insn : Insn) → callee_in place insn ≡ Some to → (distance : ℤ) × (insn ≡ Call (Local distance)) × (target place distance ≡ to)
local_call place to (Call (Local distance)) leads = (distance, refl, some_is _ to leads)
local_call place to (Call (Helper number)) leads = absurd (no_target to leads)
local_call place to (Alu width op dst src) leads = absurd (no_target to leads)
local_call place to (InPlace op dst) leads = absurd (no_target to leads)
local_call place to (SignExtend extension dst src) leads = absurd (no_target to leads)
local_call place to (JumpIf width condition dst src offset) leads = absurd (no_target to leads)
local_call place to (Jump distance) leads = absurd (no_target to leads)
local_call place to (LoadImmediate dst value) leads = absurd (no_target to leads)
local_call place to (Load form dst src offset) leads = absurd (no_target to leads)
local_call place to (Store size dst src offset) leads = absurd (no_target to leads)
local_call place to Exit leads = absurd (no_target to leads)

-- into the function that is called
pub chain_called : (program : List Slot) (calls place : ℕ) (distance : ℤ) → IsLawfulProgram program → insn_at program place ≡ Some (Call (Local distance)) → IsChain program calls place → IsChain program (calls + 1) (target place distance)
chain_called program calls place distance lawful here chain =
    let at : Standing = record { slot = place; returns = chain.returns } in
    record {
      returns = (place + 1) ∷ chain.returns;
      count = omega (arith, chain.count);
      begun = (goes_on_lawfully program place (Call (Local distance)) lawful.0 lawful.1 here refl, chain.begun);
      on = further program at (called at (target place distance)) (Call (Local distance)) here refl chain.on;
    }

-- and after the call: a path from there is the end of one through what is called
pub chain_back : (program : List Slot) (calls place : ℕ) (distance : ℤ) → IsLawfulProgram program → insn_at program place ≡ Some (Call (Local distance)) → IsChain program calls place → IsChain program calls (place + 1)
unfolding chain_called
chain_back program calls place distance lawful here chain = record {
  returns = chain.returns;
  count = chain.count;
  begun = chain.begun;
  on = λ n path.
      let callee : begins program (target place distance) ≡ true = calls_lawfully program place (target place distance) (Call (Local distance)) lawful.0 lawful.1 here refl in
      let out = ways_out_lem program lawful.0 lawful.1.frames.calls (target place distance) callee in
      let through = joined program out.0 n (outermost (target place distance)) (place + 1) chain.returns _ _ (out.1, refl) (path, refl) in
      let whole = (chain_called program calls place distance lawful here chain).on (out.0 + n) through.0 in
      (whole.0, whole.1, omega (arith, whole.2, through.1));
}

-- so a path from somewhere to a call leads on after it
pub comes_back : (program : List Slot) (from : Standing) (place : ℕ) (distance : ℤ) → IsLawfulProgram program → insn_at program place ≡ Some (Call (Local distance)) → PathLeads program from (outermost place) → PathLeads program from (outermost (place + 1))
comes_back program from place distance lawful here comes =
    let callee : begins program (target place distance) ≡ true = calls_lawfully program place (target place distance) (Call (Local distance)) lawful.0 lawful.1 here refl in
    let out = ways_out_lem program lawful.0 lawful.1.frames.calls (target place distance) callee in
    leads_back program from out.0 (target place distance) (place + 1) [] out.1
    (goes_on (outermost place) (called (outermost place) (target place distance)) (Call (Local distance)) comes here refl)

-- at a local call there is a frame left
pub room_left : (program : List Slot) (calls place : ℕ) (distance : ℤ) → IsLawfulProgram program → insn_at program place ≡ Some (Call (Local distance)) → IsChain program calls place → calls + 1 < 8
room_left program calls place distance lawful here chain =
    let room = room_to_call program place chain.returns distance lawful.0 lawful.1 here chain.begun chain.on in
    omega (arith, room, chain.count)

-- and no more calls are open anywhere than there are frames for
pub chain_short : (program : List Slot) (calls place : ℕ) → IsLawfulProgram program → begins program place ≡ true → IsChain program calls place → calls < 8
chain_short program calls place lawful begun chain =
    let at : Standing = record { slot = place; returns = chain.returns } in
    let out = way_out program place chain.returns lawful.0 lawful.1.frames.calls begun chain.begun in
    let whole = chain.on out.long out.path.0 in
    let few = lawful.1.frames.shallow whole.0 whole.1 in
    let deep = one_frame_at_least program at out.long out.deep out.path in
    omega (arith, few, deep, whole.2, out.path.1, chain.count)

-- the start of what is called
pub callee_own : (program : List Slot) (place callee : ℕ) (insn : Insn) → IsLawfulProgram program → insn_at program place ≡ Some insn → callee_in place insn ≡ Some callee → (begins program callee ≡ true) × (function_of program callee ≡ callee)
callee_own program place callee insn lawful here leads =
    let there = callee_there program place callee insn here leads in
    let begun = calls_lawfully program place callee insn lawful.0 lawful.1 here leads in
    (begun, own_function program callee (callee_starts program place callee begun there))

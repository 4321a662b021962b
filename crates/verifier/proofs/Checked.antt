-- An instruction by which control stays in its function, checked on both its ways.
use Rattle.std.proofs.Common.{◌≡◌, true, ℕ, ◌+◌, ◌-◌, ◌<◌, List, [], ◌∷◌, length, Option, Some, None, refl, ap, sym, subst, ◌∙◌, arith, ◌⊎◌, inl, inr}
use Rattle.std.proofs.lemmas.List.{length-append}
use Rattle.bpf_insn.specs.declared.insn.Insn.{Insn}
use Rattle.bpf_insn.specs.declared.insn.Insn.TheVariants.{Alu, InPlace, SignExtend, JumpIf, Jump, LoadImmediate, Load, Store, Call, Exit}
use Rattle.bpf_insn.specs.declared.insn.Callee.TheVariants.{Helper, Local}
use Rattle.bpf_insn.specs.declared.program.Slot.{Slot}
use Rattle.bpf_insn.specs.Program.{insn_at, slots_of}
use Rattle.bpf_semantics.specs.MachineState.{MachineState, OpenCall}
use Rattle.call_shape.specs.Calls.{callee_in}
use Rattle.call_shape.specs.Shape.{behind, goes_on_behind, target_in}
use Rattle.call_shape.proofs.Lawful.{jumps_lawfully}
use Rattle.helpers.specs.declared.limits.HelperLimits.{HelperLimits}
use Rattle.check_private_insns.specs.declared.way.Way.TheVariants.{FallThrough, Taken}
use Rattle.check_description.specs.declared.description.Description.{Description}
use Rattle.check_description.specs.declared.saved.SavedRegisters.{SavedRegisters}
use Rattle.check_description.specs.Description.{Describes}
use Rattle.check_private_insns.specs.Follows.{GoesBy, StepsBy}
use Rattle.reg_domain.specs.Ways.{Stays, falls_through}
use Rattle.check_register_kinds.specs.Freezes.{FreezeNumbers}
use Rattle.check_description.specs.OpenCalls.{AreOpen}
use Rattle.verifier.specs.Function.{HasChecked, IsEnd, IsLawfulProgram, Stands}
use Rattle.verifier.specs.Table.{Table, HasLed}
use Rattle.verifier.proofs.Steps.{is_inside, leaves, onward}

falls_on : (insn : Insn) → falls_through insn ≡ true → goes_on_behind insn ≡ true
falls_on (Alu width op dst src) falls = refl
falls_on (InPlace op dst) falls = refl
falls_on (SignExtend extension dst src) falls = refl
falls_on (JumpIf width condition dst src offset) falls = refl
falls_on (Jump distance) falls = falls
falls_on (LoadImmediate dst value) falls = refl
falls_on (Load form dst src offset) falls = refl
falls_on (Store size dst src offset) falls = refl
falls_on (Call callee) falls = refl
falls_on Exit falls = falls

-- it is one within a function, or the run's exit
stays_so : (callers : List SavedRegisters) (insn : Insn) → Stays callers insn → (is_inside insn ≡ true) ⊎ ((insn ≡ Exit) × (callers ≡ []))
stays_so callers (Alu width op dst src) stays = inl refl
stays_so callers (InPlace op dst) stays = inl refl
stays_so callers (SignExtend extension dst src) stays = inl refl
stays_so callers (JumpIf width condition dst src offset) stays = inl refl
stays_so callers (Jump distance) stays = inl refl
stays_so callers (LoadImmediate dst value) stays = inl refl
stays_so callers (Load form dst src offset) stays = inl refl
stays_so callers (Store size dst src offset) stays = inl refl
stays_so callers (Call (Helper number)) stays = inl refl
stays_so callers (Call (Local distance)) stays = absurd stays
stays_so callers Exit stays = inr (refl, stays)

-- what is no local call, and no exit but the run's
pub stays_by : (callers : List SavedRegisters) (place : ℕ) (insn : Insn) → ((callee : ℕ) → callee_in place insn ≡ Some callee → ⊥) → (insn ≡ Exit → callers ≡ []) → Stays callers insn
stays_by callers place (Alu width op dst src) calls exits = tt
stays_by callers place (InPlace op dst) calls exits = tt
stays_by callers place (SignExtend extension dst src) calls exits = tt
stays_by callers place (JumpIf width condition dst src offset) calls exits = tt
stays_by callers place (Jump distance) calls exits = tt
stays_by callers place (LoadImmediate dst value) calls exits = tt
stays_by callers place (Load form dst src offset) calls exits = tt
stays_by callers place (Store size dst src offset) calls exits = tt
stays_by callers place (Call (Helper number)) calls exits = tt
stays_by callers place (Call (Local distance)) calls exits = calls _ refl
stays_by callers place Exit calls exits = exits refl

-- where no function waits no call is open
none_open : (numbers : FreezeNumbers) (callers : List SavedRegisters) (calls : List OpenCall) → callers ≡ [] → AreOpen numbers callers calls → calls ≡ []
none_open numbers callers [] none are = refl
none_open numbers callers (call ∷ calls) none (outer, saved, is, known, rest) = absurd (omega (arith, ap length (sym none ∙ is), length-append outer (saved ∷ [])))

ends_run : (callers : List SavedRegisters) (d : Description) (m m' : MachineState) (insn : Insn) → insn ≡ Exit → callers ≡ [] → Describes callers d m → StepsBy m insn m' → ⊥
ends_run callers d m m' insn exit none holds step =
    let left = leaves m m' (subst (λ (i : Insn). StepsBy m i m') exit step) in
    let no_call = none_open holds.0 callers m.open_calls none holds.1.calls in
    let bad : [] ≡ left.call ∷ left.outer = sym no_call ∙ left.before in
    absurd cc

target_is : (x y : ℕ) (o : Option ℕ) → o ≡ Some x → o ≡ Some y → x ≡ y
target_is x y o e f = cc

-- after an instruction
lands_behind : (limits : HelperLimits) (program : List Slot) (callers : List SavedRegisters) (start : ℕ) (d : Description) (before after : Table) (at to : ℕ) (insn : Insn) (m m' : MachineState) → to ≡ at + length (slots_of insn) → insn_at program (start + at) ≡ Some insn → at < length before → IsEnd program start (start + length before) → HasLed limits callers d before insn FallThrough to after → m.pc ≡ start + at → Describes callers d m → StepsBy m insn m' → goes_on_behind insn ≡ true → m'.pc ≡ behind m.pc insn → m'.open_calls ≡ m.open_calls → GoesBy m insn FallThrough → Stands callers m.open_calls start after m'
lands_behind limits program callers start d before after at to insn m m' slot here inside end led at_place holds step goes_on place calls way =
    let lt = (end.closed (start + at) insn (omega arith) (omega (arith, inside)) here).goes_on goes_on in
    record {
      at = to;
      place = omega (arith, place, at_place, slot);
      known = led.follows m m' (omega (arith, lt, slot)) holds way step;
      calls_are = calls;
    }

-- where an instruction is no jump, one way is all
pub checked_straight : (limits : HelperLimits) (program : List Slot) (callers : List SavedRegisters) (start : ℕ) (d : Description) (before after : Table) (at to : ℕ) (insn : Insn) → to ≡ at + length (slots_of insn) → insn_at program (start + at) ≡ Some insn → at < length before → IsEnd program start (start + length before) → Stays callers insn → target_in (start + at) insn ≡ None → HasLed limits callers d before insn FallThrough to after → HasChecked limits callers start d before at insn after
checked_straight limits program callers start d before after at to insn slot here inside end stays none led = record {
  others = λ k not_behind not_target. led.others k (λ has same. not_behind (falls_on insn has) (omega (arith, same, slot)));
  grows = led.grows;
  frames = led.frames;
  unstuck = led.unstuck;
  follows = λ m m' at_place holds step. elim (stays_so callers insn stays) [
    | inr (exit, none_waits) ↦ absurd (ends_run callers d m m' insn exit none_waits holds step)
    | inl within ↦
        let on = onward m m' insn within step in
        elim on.goes [
          | inl next ↦ lands_behind limits program callers start d before after at to insn m m' slot here inside end led at_place holds step next.2 next.1 on.calls next.0
          | inr taken ↦ absurd (let bad : None ≡ Some m'.pc = sym none ∙ (sym (ap (λ (k : ℕ). target_in k insn) at_place) ∙ taken.1) in cc)
        ]
  ];
}

-- a jump has two
pub checked_jump : (limits : HelperLimits) (program : List Slot) (callers : List SavedRegisters) (start : ℕ) (d : Description) (before between after : Table) (at to target : ℕ) (insn : Insn) → IsLawfulProgram program → to ≡ at + length (slots_of insn) → insn_at program (start + at) ≡ Some insn → at < length before → length between ≡ length before → IsEnd program start (start + length before) → Stays callers insn → target_in (start + at) insn ≡ Some target → HasLed limits callers d before insn FallThrough to between → HasLed limits callers d between insn Taken (target - start) after → HasChecked limits callers start d before at insn after
checked_jump limits program callers start d before between after at to target insn lawful slot here inside whole end stays leads led jumped =
    let ahead : start + at < target = (jumps_lawfully program (start + at) target insn lawful.0 lawful.1 here leads).0 in
    record {
      others = λ k not_behind not_target.
          jumped.others k (λ has same. not_target (leads ∙ ap Some (let e : target ≡ start + k = omega (arith, same, ahead) in e)))
          ∙ led.others k (λ has same. not_behind (falls_on insn has) (omega (arith, same, slot)));
      grows = λ others k m known. jumped.grows others k m (led.grows others k m known);
      frames = λ frames is all. jumped.frames frames is (led.frames frames is all);
      unstuck = led.unstuck;
      follows = λ m m' at_place holds step. elim (stays_so callers insn stays) [
        | inr (exit, none_waits) ↦ absurd (ends_run callers d m m' insn exit none_waits holds step)
        | inl within ↦
            let on = onward m m' insn within step in
            elim on.goes [
              | inl next ↦
                  let stands = lands_behind limits program callers start d before between at to insn m m' slot here inside end led at_place holds step next.2 next.1 on.calls next.0 in
                  record { at = stands.at; place = stands.place; known = jumped.grows callers stands.at m' stands.known; calls_are = stands.calls_are }
              | inr taken ↦
                  let is : target ≡ m'.pc = target_is target m'.pc (target_in (start + at) insn) leads (sym (ap (λ (k : ℕ). target_in k insn) at_place) ∙ taken.1) in
                  let lt = (end.closed (start + at) insn (omega arith) (omega (arith, inside)) here).jumps target leads in
                  record {
                    at = target - start;
                    place = omega (arith, is, ahead);
                    known = jumped.follows m m' (omega (arith, lt, whole, ahead)) holds taken.0 step;
                    calls_are = on.calls;
                  }
            ]
      ];
    }

-- Which way an instruction leads that is no jump, and what an exit asks.
use Rattle.std.proofs.Common.{◌≡◌, List, [], ◌∷◌, ◌++◌, refl, ℕ, ℤ, true, false, Bool, not, ◌||◌, Option, Result, Ok, Err, IfOk, ap, sym, subst, ◌∙◌, inl, inr}
use Rattle.bpf_semantics.specs.MachineState.{OpenCall, MachineState, register}
use Rattle.check_description.specs.declared.saved.SavedRegisters.{SavedRegisters}
use Rattle.check_register_kinds.specs.Freezes.{FreezeNumbers, numbers_held}
use Rattle.check_description.specs.OpenCalls.{AreOpen}
use Rattle.std.specs.Prelude.{IsOkAnd, is_none}
use Rattle.bpf_insn.specs.declared.insn.Insn.{Insn}
use Rattle.bpf_insn.specs.declared.insn.Callee.TheVariants.{Helper}
use Rattle.bpf_insn.specs.declared.insn.Condition.{Condition}
use Rattle.bpf_insn.specs.declared.insn.Insn.TheVariants.{Call, Exit, JumpIf}
use Rattle.bpf_insn.specs.declared.insn.Operand.{Operand}
use Rattle.bpf_insn.specs.declared.insn.Width.{Width}
use Rattle.bpf_insn.specs.declared.reg.Reg.{Reg}
use Rattle.bpf_insn.specs.declared.reg.Reg.TheVariants.{R0}
use Rattle.helpers.specs.declared.limits.HelperLimits.{HelperLimits}
use Rattle.bpf_semantics.specs.Stuck.{exit_is_stuck, holds_none}
use Rattle.check_register_kinds.specs.declared.cause.Cause.{Cause}
use Rattle.check_description.specs.declared.description.Description.{Description}
use Rattle.check_private_insns.specs.declared.way.Way.{Way}
use Rattle.check_private_insns.specs.declared.way.Way.TheVariants.{FallThrough, Taken}
use Rattle.check_register_kinds.specs.declared.freeze_name.FreezeName.{FreezeName}
use Rattle.check_register_kinds.specs.declared.kind.Kind.{Kind}
use Rattle.check_register_kinds.specs.declared.kind.Kind.TheVariants.{Unwritten, Number, Address, Freeze}
use Rattle.check_helper_calls.specs.Calls.{CallFollows, CallIsNeverStuck}
use Rattle.check_description.specs.Description.{kind_at, NeverStuck}
use Rattle.check_helper_calls.specs.Called.{CanCall, LeavesCalled}
use Rattle.reg_domain.specs.Enough.{Enough, Leaves}
use Rattle.check_private_insns.specs.Follows.{Follows, jumps}
use Rattle.check_private_insns.specs.GoesOn.{GoesOn, is_taken}
use Rattle.check_register_kinds.specs.Kinds.{HoldsKind, IsNumber}

-- no function waits
pub none_open : (numbers : FreezeNumbers) (calls : List OpenCall) → AreOpen numbers [] calls → calls ≡ []
none_open numbers [] are = refl
none_open numbers (call ∷ calls) (outer, saved, split, its, rest) = absurd (no_end outer saved split)
  where
    no_end : (outer : List SavedRegisters) (saved : SavedRegisters) → [] ≡ outer ++ saved ∷ [] → ⊥
    no_end [] saved e = absurd cc
    no_end (first ∷ outer) saved e = absurd cc

-- what is no jump goes on at the next instruction alone
pub follows_way : (callers : List SavedRegisters) (insn : Insn) (way : Way) (d there : Description) → ((m : MachineState) → jumps m insn ≡ false) → Follows callers insn FallThrough d true there → Follows callers insn way d (not (is_taken way)) there
follows_way callers insn FallThrough d there stays follows = follows
follows_way callers insn Taken d there stays follows = λ m m' is jumped steps. absurd (let bad : false ≡ true = sym (stays m) ∙ jumped in cc)

pub goes_way : (callers : List SavedRegisters) (insn : Insn) (way : Way) (d there : Description) → ((m : MachineState) → jumps m insn ≡ false) → GoesOn insn d there → Follows callers insn way d (not (is_taken way)) there
goes_way callers insn way d there stays goes = follows_way callers insn way d there stays (goes.follows callers)

-- a helper call has whatever answer it may have
pub call_follows : {X : Type 0} (r : Result X Cause) (callers : List SavedRegisters) (d there : Description) (number : ℤ) → IfOk r (λ _. CallFollows callers number d there) → IfOk r (λ _. Follows callers (Call (Helper number)) FallThrough d true there)
call_follows (Ok done) callers d there number follows = λ m m' is goes steps. elim steps [
  | inl e ↦ absurd cc
  | inr (request, answer, made, allowed) ↦ (refl, follows m m' request answer is made allowed)
]
call_follows (Err cause) callers d there number follows = follows

pub call_never_stuck : {X : Type 0} (r : Result X Cause) (limits : HelperLimits) (callers : List SavedRegisters) (d : Description) (number : ℤ) → IfOk r (λ _. CallIsNeverStuck limits number d)
    → IfOk r (λ _. NeverStuck limits callers (Call (Helper number)) d)
call_never_stuck (Ok done) limits callers d number never = never callers
call_never_stuck (Err cause) limits callers d number never = never

-- and leaves what its row says, where it may be made under any limits
pub call_leaves : {X : Type 0} (r : Result X Cause) (limits : HelperLimits) (callers : List SavedRegisters) (d there : Description) (name : FreezeName) (number : ℤ) → (CanCall limits callers d name number → IsOkAnd r (λ _. LeavesCalled name d number there))
    → Enough (Call (Helper number)) d → IsOkAnd r (λ _. Leaves (Call (Helper number)) FallThrough d there)
call_leaves (Ok done) limits callers d there name number leaves enough = (name, leaves (enough limits callers name))
call_leaves (Err cause) limits callers d there name number leaves enough = leaves (enough limits callers name)

pub jump_never_stuck : (r : Result Bool Cause) (limits : HelperLimits) (callers : List SavedRegisters) (width : Width) (condition : Condition) (dst : Reg) (src : Operand) (offset : ℤ) (d : Description) → IfOk r (λ is_open. (limits : HelperLimits) (callers : List SavedRegisters) (offset : ℤ) → NeverStuck limits callers (JumpIf width condition dst src offset) d) → IfOk r (λ is_open. NeverStuck limits callers (JumpIf width condition dst src offset) d)
jump_never_stuck (Ok is_open) limits callers width condition dst src offset d never = never limits callers offset
jump_never_stuck (Err cause) limits callers width condition dst src offset d never = never

pub jump_goes : (r : Result Bool Cause) (callers : List SavedRegisters) (width : Width) (condition : Condition) (dst : Reg) (src : Operand) (offset : ℤ) (way : Way) (d there : Description) → IfOk r (λ is_open. (callers : List SavedRegisters) (offset : ℤ) → Follows callers (JumpIf width condition dst src offset) way d is_open there) → IfOk r (λ is_open. Follows callers (JumpIf width condition dst src offset) way d is_open there)
jump_goes (Ok is_open) callers width condition dst src offset way d there follows = follows callers offset
jump_goes (Err cause) callers width condition dst src offset way d there follows = follows

pub exit_never_stuck : (r : Result Bool Cause) (limits : HelperLimits) (callers : List SavedRegisters) (d : Description) → callers ≡ [] → IfOk r (λ is_open. (limits : HelperLimits) → NeverStuck limits [] Exit d) → IfOk r (λ is_open. NeverStuck limits callers Exit d)
exit_never_stuck (Ok is_open) limits callers d none never = subst (λ (c : List SavedRegisters). NeverStuck limits c Exit d) (sym none) (never limits)
exit_never_stuck (Err cause) limits callers d none never = never

number_there : (numbers : FreezeNumbers) (kind : Kind) (o : Option ℕ) → IsNumber kind → HoldsKind numbers kind o → is_none o ≡ false
number_there numbers Unwritten o number holds = absurd number
number_there numbers (Number scalar) o number holds = ap is_none holds.1
number_there numbers (Address region offsets) o number holds = absurd number
number_there numbers (Freeze name) o number holds = absurd number

-- nothing is held, the CCB is disposed of, and R0 is a number
pub exit_unstuck : (limits : HelperLimits) (d : Description) → d.held ≡ [] → d.disposed ≡ true → IsNumber (kind_at d R0) → NeverStuck limits [] Exit d
exit_unstuck limits d nothing disposed number = λ m (numbers, is).
    let none_held : m.held ≡ [] = is.held.are ∙ ap (numbers_held numbers) nothing in
    let held : not (holds_none m.held) ≡ false = ap (λ held. not (holds_none held)) none_held in
    let waits : not m.disposed ≡ false = ap not (is.disposal ∙ disposed) in
    let r0 = number_there numbers (kind_at d R0) (register m R0) number (is.registers R0) in
    ap (exit_is_stuck m) (none_open numbers m.open_calls is.calls) ∙ (ap (λ b. (b || not m.disposed) || is_none (register m R0)) held ∙ (ap (λ b. b || is_none (register m R0)) waits ∙ r0))

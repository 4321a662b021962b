-- Where a machine stands after one instruction: at the slot after it, at the target where it jumps, at the start of a
-- function that it calls, or after the call of the one that it leaves.
use Rattle.std.proofs.Common.{◌≡◌, ℕ, ℤ, ◌+◌, Bool, true, false, cond, List, [], ◌∷◌, map, Option, Some, None, refl, ap, sym, subst, ◌∙◌, ◌⊎◌, inl, inr}
use Rattle.std.specs.Option.{option_map, option_and_then}
use Rattle.std.proofs.lemmas.Bool.{cases_Bool, cond-true, cond-false}
use Rattle.bpf_insn.specs.declared.insn.Insn.{Insn}
use Rattle.bpf_insn.specs.declared.insn.Insn.TheVariants.{Alu, InPlace, SignExtend, JumpIf, Jump, LoadImmediate, Load, Store, Call, Exit}
use Rattle.bpf_insn.specs.declared.insn.Width.{Width}
use Rattle.bpf_insn.specs.declared.insn.AluOp.{AluOp}
use Rattle.bpf_insn.specs.declared.insn.Condition.{Condition}
use Rattle.bpf_insn.specs.declared.insn.LoadForm.{LoadForm}
use Rattle.bpf_insn.specs.declared.insn.StoreSize.{StoreSize}
use Rattle.bpf_insn.specs.declared.reg.Reg.{Reg}
use Rattle.bpf_insn.specs.declared.insn.Callee.TheVariants.{Helper, Local}
use Rattle.bpf_insn.specs.Target.{target, distance_of}
use Rattle.helpers.specs.declared.columns.Change.{Change}
use Rattle.helpers.specs.declared.columns.Change.TheVariants as changes
use Rattle.helpers.specs.declared.request.Request.{Request}
use Rattle.helpers.specs.declared.request.Answer.{Answer}
use Rattle.helpers.specs.declared.request.Arguments.{Arguments}
use Rattle.helpers.specs.Table.{row_of}
use Rattle.bpf_semantics.specs.MachineState.{OpenCall, MachineState, register, with_register, moved_to}
use Rattle.bpf_semantics.specs.Memory.{address_of, load_width, loaded, word_from}
use Rattle.bpf_semantics.specs.Step.{Allowed, after_call, calls as local_call, changed_by, compute, compute_one, does, entered, first_operand, has_frame_left, jump_if, operand, request_in, returned, store}
use Rattle.bpf_words.specs.Words.{holds_of, in_place, sign_extended}
use Rattle.call_shape.specs.Shape.{behind, goes_on_behind, target_in}
use Rattle.call_shape.specs.StaticPath.{Standing, moved, StepLeadsTo, ReturnsTo}
use Rattle.check_private_insns.specs.declared.way.Way.TheVariants.{FallThrough, Taken}
use Rattle.check_private_insns.specs.Follows.{GoesBy, StepsBy, jumps_if}

-- one of the two ways, the first only where something may go on after the instruction
abbrev pub GoesPrivately : MachineState → Insn → MachineState → Type 0
GoesPrivately m insn m' =
    (GoesBy m insn FallThrough × (m'.pc ≡ behind m.pc insn) × (goes_on_behind insn ≡ true))
    ⊎ (GoesBy m insn Taken × (target_in m.pc insn ≡ Some m'.pc))

-- where the calls that are open go on, the innermost first
abbrev pub returns_of : MachineState → List ℕ
returns_of m = map (λ (call : OpenCall). call.return_pc) m.open_calls

-- where a machine stands on a static path
abbrev pub standing_of : MachineState → Standing
standing_of m = record { slot = m.pc; returns = returns_of m }

-- neither a local call nor an exit
abbrev pub is_inside : Insn → Bool
is_inside (Call (Local distance)) = false
is_inside Exit = false
is_inside (Call (Helper number)) = true
is_inside (Alu width op dst src) = true
is_inside (InPlace op dst) = true
is_inside (SignExtend extension dst src) = true
is_inside (JumpIf width condition dst src offset) = true
is_inside (Jump distance) = true
is_inside (LoadImmediate dst value) = true
is_inside (Load form dst src offset) = true
is_inside (Store size dst src offset) = true

-- a step within a function
pub record IsOnward (m : MachineState) (insn : Insn) (m' : MachineState) : Type 0 where
  pub calls : m'.open_calls ≡ m.open_calls
  pub goes : GoesPrivately m insn m'
  pub leads : StepLeadsTo (standing_of m) insn (standing_of m')

-- into a function that is called
pub record HasEntered (m : MachineState) (distance : ℤ) (m' : MachineState) : Type 0 where
  pub step : does m (Call (Local distance)) ≡ Some m'
  pub call : OpenCall
  pub behind_call : call.return_pc ≡ m.pc + 1
  pub calls : m'.open_calls ≡ call ∷ m.open_calls
  pub place : m'.pc ≡ target m.pc distance
  pub leads : StepLeadsTo (standing_of m) (Call (Local distance)) (standing_of m')

-- out of one, after its call
pub record HasLeft (m m' : MachineState) : Type 0 where
  pub step : does m Exit ≡ Some m'
  pub call : OpenCall
  pub outer : List OpenCall
  pub before : m.open_calls ≡ call ∷ outer
  pub calls : m'.open_calls ≡ outer
  pub place : m'.pc ≡ call.return_pc
  pub leads : StepLeadsTo (standing_of m) Exit (standing_of m')

some_is : (x y : MachineState) → Some x ≡ Some y → x ≡ y
some_is x y e = cc

none_is : (x : MachineState) → None ≡ Some x → ⊥
none_is x e = absurd cc

-- after the instruction, and what else it changes is no call
record IsNext (m : MachineState) (slots : ℕ) (m' : MachineState) : Type 0 where
  calls : m'.open_calls ≡ m.open_calls
  place : m'.pc ≡ m.pc + slots

next_as : (m x m' : MachineState) (slots : ℕ) → IsNext m slots x → Some x ≡ Some m' → IsNext m slots m'
next_as m x m' slots is e = subst (IsNext m slots) (some_is x m' e) is

compute_next : (m m' : MachineState) (width : Width) (op : AluOp) (dst : Reg) (a b : Option ℕ) → compute m width op dst a b ≡ Some m' → IsNext m 1 m'
compute_next m m' width op dst (Some a) (Some b) e = next_as m _ m' 1 (record { calls = refl; place = refl }) e
compute_next m m' width op dst (Some a) None e = absurd (none_is m' e)
compute_next m m' width op dst None b e = absurd (none_is m' e)

one_next : (m m' : MachineState) (dst : Reg) (f : ℕ → ℕ) (word : Option ℕ) → compute_one m dst f word ≡ Some m' → IsNext m 1 m'
one_next m m' dst f (Some word) e = next_as m _ m' 1 (record { calls = refl; place = refl }) e
one_next m m' dst f None e = absurd (none_is m' e)

loaded_next : (m m' : MachineState) (form : LoadForm) (dst : Reg) (word : Option ℕ) → option_map (λ word. moved_to (with_register m dst (loaded form word)) (m.pc + 1)) word ≡ Some m' → IsNext m 1 m'
loaded_next m m' form dst (Some word) e = next_as m _ m' 1 (record { calls = refl; place = refl }) e
loaded_next m m' form dst None e = absurd (none_is m' e)

written_next : (m m' : MachineState) (frames : Option (List (List (Option ℕ)))) → option_map (λ next. moved_to next (m.pc + 1)) (option_map (λ frames. record m { frames = frames }) frames) ≡ Some m' → IsNext m 1 m'
written_next m m' (Some frames) e = next_as m _ m' 1 (record { calls = refl; place = refl }) e
written_next m m' None e = absurd (none_is m' e)

store_next : (m m' : MachineState) (size : StoreSize) (address word : Option ℕ) → store m size address word ≡ Some m' → IsNext m 1 m'
store_next m m' size (Some address) (Some word) e = written_next m m' _ e
store_next m m' size (Some address) None e = absurd (none_is m' e)
store_next m m' size None word e = absurd (none_is m' e)

-- which way a conditional jump goes
record IsJump (m : MachineState) (jumps : Bool) (offset : ℤ) (m' : MachineState) : Type 0 where
  calls : m'.open_calls ≡ m.open_calls
  goes : ((jumps ≡ false) × (m'.pc ≡ m.pc + 1)) ⊎ ((jumps ≡ true) × (m'.pc ≡ target m.pc offset))

jump_goes : (m m' : MachineState) (width : Width) (condition : Condition) (offset : ℤ) (a b : Option ℕ) → jump_if m width condition offset a b ≡ Some m' → IsJump m (jumps_if width condition a b) offset m'
jump_goes m m' width condition offset (Some a) (Some b) e =
    let is : moved_to m (cond (holds_of width condition a b) (target m.pc offset) (m.pc + 1)) ≡ m' = some_is _ m' e in
    record {
      calls = sym (ap (λ (x : MachineState). x.open_calls) is);
      goes = elim (cases_Bool (holds_of width condition a b)) [
        | inl holds ↦ inr (holds, sym (ap (λ (x : MachineState). x.pc) is) ∙ cond-true (holds_of width condition a b) _ _ holds)
        | inr apart ↦ inl (apart, sym (ap (λ (x : MachineState). x.pc) is) ∙ cond-false (holds_of width condition a b) _ _ apart)
      ];
    }
jump_goes m m' width condition offset (Some a) None e = absurd (none_is m' e)
jump_goes m m' width condition offset None b e = absurd (none_is m' e)

-- at another slot, with the same calls open
moved_on : (m m' : MachineState) (place : ℕ) → m'.open_calls ≡ m.open_calls → m'.pc ≡ place → standing_of m' ≡ moved (standing_of m) place
moved_on m m' place calls at = λ i. record { slot = at i; returns = map (λ (call : OpenCall). call.return_pc) (calls i) }

-- after the instruction
next_onward : (m m' : MachineState) (insn : Insn) (slots : ℕ) → IsNext m slots m' → behind m.pc insn ≡ m.pc + slots → goes_on_behind insn ≡ true → GoesBy m insn FallThrough → StepLeadsTo (standing_of m) insn (standing_of m') → IsOnward m insn m'
next_onward m m' insn slots is slot on goes leads = record { calls = is.calls; goes = inl (goes, is.place ∙ sym slot, on); leads = leads }

private_onward : (m m' : MachineState) (insn : Insn) → is_inside insn ≡ true → does m insn ≡ Some m' → IsOnward m insn m'
private_onward m m' (Alu width op dst src) inside e =
    let is = compute_next m m' width op dst (first_operand m op dst) (operand m src) e in
    next_onward m m' (Alu width op dst src) 1 is refl refl refl (moved_on m m' _ is.calls is.place)
private_onward m m' (InPlace op dst) inside e =
    let is = one_next m m' dst (in_place op) (register m dst) e in
    next_onward m m' (InPlace op dst) 1 is refl refl refl (moved_on m m' _ is.calls is.place)
private_onward m m' (SignExtend extension dst src) inside e =
    let is = one_next m m' dst (sign_extended extension) (register m src) e in
    next_onward m m' (SignExtend extension dst src) 1 is refl refl refl (moved_on m m' _ is.calls is.place)
private_onward m m' (JumpIf width condition dst src offset) inside e =
    let is = jump_goes m m' width condition offset (register m dst) (operand m src) e in
    record {
      calls = is.calls;
      goes = elim is.goes [ inl next ↦ inl (next.0, next.1, refl) | inr taken ↦ inr (taken.0, ap Some (sym taken.1)) ];
      leads = elim is.goes [ inl next ↦ inl (moved_on m m' _ is.calls next.1) | inr taken ↦ inr (moved_on m m' _ is.calls taken.1) ];
    }
private_onward m m' (Jump distance) inside e =
    let is : moved_to m (target m.pc (distance_of distance)) ≡ m' = some_is _ m' e in
    let place : target m.pc (distance_of distance) ≡ m'.pc = ap (λ (x : MachineState). x.pc) is in
    let calls : m'.open_calls ≡ m.open_calls = sym (ap (λ (x : MachineState). x.open_calls) is) in
    record { calls = calls; goes = inr (refl, ap Some place); leads = moved_on m m' _ calls (sym place) }
private_onward m m' (LoadImmediate dst value) inside e =
    let is : IsNext m 2 m' = next_as m _ m' 2 (record { calls = refl; place = refl }) e in
    next_onward m m' (LoadImmediate dst value) 2 is refl refl refl (moved_on m m' _ is.calls is.place)
private_onward m m' (Load form dst src offset) inside e =
    let is = loaded_next m m' form dst (option_and_then (word_from (load_width form) m) (address_of m src offset)) e in
    next_onward m m' (Load form dst src offset) 1 is refl refl refl (moved_on m m' _ is.calls is.place)
private_onward m m' (Store size dst src offset) inside e =
    let is = store_next m m' size (address_of m dst offset) (operand m src) e in
    next_onward m m' (Store size dst src offset) 1 is refl refl refl (moved_on m m' _ is.calls is.place)
private_onward m m' (Call (Helper number)) inside e = absurd (none_is m' e)
private_onward m m' (Call (Local distance)) inside e = absurd (let bad : false ≡ true = inside in cc)
private_onward m m' Exit inside e = absurd (let bad : false ≡ true = inside in cc)

changed_next : (change : Change) (arguments : Arguments) (answer : Answer) (m : MachineState) → IsNext m 1 (changed_by change arguments answer (after_call m answer.r0))
changed_next changes.Nothing arguments answer m = record { calls = refl; place = refl }
changed_next changes.Holds arguments answer m = record { calls = refl; place = refl }
changed_next changes.GivesUp arguments answer m = record { calls = refl; place = refl }
changed_next changes.Disposes arguments answer m = record { calls = refl; place = refl }
changed_next (changes.Writes bytes) arguments answer m = record { calls = refl; place = refl }

no_request : (request : Request) → None ≡ Some request → ⊥
no_request request e = absurd cc

called_onward : (m m' : MachineState) (insn : Insn) (request : Request) (answer : Answer) → request_in m insn ≡ Some request → Allowed request answer m m' → IsOnward m insn m'
called_onward m m' (Call (Helper number)) request answer made allowed =
    let is : IsNext m 1 m' = subst (IsNext m 1) (sym allowed.1) (changed_next (row_of request.helper).machine request.arguments answer m) in
    next_onward m m' (Call (Helper number)) 1 is refl refl refl (moved_on m m' _ is.calls is.place)
called_onward m m' (Call (Local distance)) request answer made allowed = absurd (no_request request made)
called_onward m m' (Alu width op dst src) request answer made allowed = absurd (no_request request made)
called_onward m m' (InPlace op dst) request answer made allowed = absurd (no_request request made)
called_onward m m' (SignExtend extension dst src) request answer made allowed = absurd (no_request request made)
called_onward m m' (JumpIf width condition dst src offset) request answer made allowed = absurd (no_request request made)
called_onward m m' (Jump distance) request answer made allowed = absurd (no_request request made)
called_onward m m' (LoadImmediate dst value) request answer made allowed = absurd (no_request request made)
called_onward m m' (Load form dst src offset) request answer made allowed = absurd (no_request request made)
called_onward m m' (Store size dst src offset) request answer made allowed = absurd (no_request request made)
called_onward m m' Exit request answer made allowed = absurd (no_request request made)

-- within its function a machine goes on after the instruction or where it jumps
pub onward : (m m' : MachineState) (insn : Insn) → is_inside insn ≡ true → StepsBy m insn m' → IsOnward m insn m'
onward m m' insn inside (inl step) = private_onward m m' insn inside step
onward m m' insn inside (inr (request, answer, made, allowed)) = called_onward m m' insn request answer made allowed

-- a local call has a frame left
entered_so : (m m' : MachineState) (distance : ℤ) → local_call m (Local distance) ≡ Some m' → entered m distance ≡ m'
entered_so m m' distance e = elim (cases_Bool (has_frame_left m)) [
  | inl left ↦ some_is _ m' (sym (cond-true (has_frame_left m) (Some (entered m distance)) None left) ∙ e)
  | inr none ↦ absurd (none_is m' (sym (cond-false (has_frame_left m) (Some (entered m distance)) None none) ∙ e))
]

pub enters : (m m' : MachineState) (distance : ℤ) → StepsBy m (Call (Local distance)) m' → HasEntered m distance m'
enters m m' distance (inl step) =
    let is = entered_so m m' distance step in
    record {
      step = step;
      call = _;
      behind_call = refl;
      calls = sym (ap (λ (x : MachineState). x.open_calls) is);
      place = sym (ap (λ (x : MachineState). x.pc) is);
      leads = sym (ap standing_of is);
    }
enters m m' distance (inr (request, answer, made, allowed)) = absurd (no_request request made)

left_so : (m m' : MachineState) (calls : List OpenCall) → m.open_calls ≡ calls → does m Exit ≡ Some m' → returned m calls ≡ Some m' → HasLeft m m'
left_so m m' [] before step e = absurd (none_is m' e)
left_so m m' (call ∷ calls) before step e =
    let is = some_is _ m' e in
    let place : m'.pc ≡ call.return_pc = sym (ap (λ (x : MachineState). x.pc) is) in
    let left : m'.open_calls ≡ calls = sym (ap (λ (x : MachineState). x.open_calls) is) in
    record {
      step = step;
      call = call;
      outer = calls;
      before = before;
      calls = left;
      place = place;
      leads = subst (λ (l : List OpenCall). ReturnsTo (map (λ (c : OpenCall). c.return_pc) l) (standing_of m')) (sym before)
          (λ i. record { slot = place i; returns = map (λ (c : OpenCall). c.return_pc) (left i) });
    }

pub leaves : (m m' : MachineState) → StepsBy m Exit m' → HasLeft m m'
leaves m m' (inl step) = left_so m m' m.open_calls refl step step
leaves m m' (inr (request, answer, made, allowed)) = absurd (no_request request made)

-- whatever the instruction is, it leads as static paths do
pub leads_on : (m m' : MachineState) (insn : Insn) → StepsBy m insn m' → StepLeadsTo (standing_of m) insn (standing_of m')
leads_on m m' (Call (Local distance)) step = (enters m m' distance step).leads
leads_on m m' Exit step = (leaves m m' step).leads
leads_on m m' (Call (Helper number)) step = (onward m m' (Call (Helper number)) refl step).leads
leads_on m m' (Alu width op dst src) step = (onward m m' (Alu width op dst src) refl step).leads
leads_on m m' (InPlace op dst) step = (onward m m' (InPlace op dst) refl step).leads
leads_on m m' (SignExtend extension dst src) step = (onward m m' (SignExtend extension dst src) refl step).leads
leads_on m m' (JumpIf width condition dst src offset) step = (onward m m' (JumpIf width condition dst src offset) refl step).leads
leads_on m m' (Jump distance) step = (onward m m' (Jump distance) refl step).leads
leads_on m m' (LoadImmediate dst value) step = (onward m m' (LoadImmediate dst value) refl step).leads
leads_on m m' (Load form dst src offset) step = (onward m m' (Load form dst src offset) refl step).leads
leads_on m m' (Store size dst src offset) step = (onward m m' (Store size dst src offset) refl step).leads

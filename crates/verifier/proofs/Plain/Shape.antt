-- A plain program has no shape fault: it is one function whose jumps lead forward within it.
use Rattle.std.proofs.Common.{◌≡◌, ℕ, zero, suc, ◌+◌, ◌<◌, ◌≤◌, Bool, true, false, not, ◌&&◌, ◌||◌, eqb, leb, ltb, List, [], ◌∷◌, length, Option, Some, None, is_some, refl, ap, sym, subst, ◌∙◌, arith, inl, inr}
use Rattle.std.specs.Prelude.{pos, if◌then◌else◌}
use Rattle.std.specs.Option.{option_and_then, option_map_or}
use Rattle.std.proofs.lemmas.Bool.{and_parts, false≢true, ne_eqb, not-true, leb-true, cond-false}
use Rattle.bpf_insn.specs.declared.insn.Insn.{Insn}
use Rattle.bpf_insn.specs.declared.insn.Insn.TheVariants.{Alu, InPlace, SignExtend, JumpIf, Jump, LoadImmediate, Load, Store, Call, Exit}
use Rattle.bpf_insn.specs.declared.insn.Callee.TheVariants.{Helper, Local}
use Rattle.bpf_insn.specs.declared.program.Slot.{Slot}
use Rattle.bpf_insn.specs.Program.{is_wide, further_slots, insn_at}
use Rattle.call_shape.specs.Calls.{callee_in, callee_at, begins, is_called_in, is_start, function_of}
use Rattle.call_shape.specs.WrittenOut.{total, count_at, written_out}
use Rattle.call_shape.specs.StaticPath.{Standing, outermost, ReturnsTo, StepLeadsTo, StaticPath, depth}
use Rattle.call_shape.specs.Shape.{behind, goes_on_behind, target_in, target_at, is_function_end, FaultIs}
use Rattle.call_shape.specs.declared.fault.ShapeFault.{ShapeFault}
use Rattle.call_shape.specs.declared.fault.ShapeFault.TheVariants.{OpenEnd, TargetOutside, TargetSecondSlot, TargetBackward, NoSuchFunction, LeavesFunction, CallCycle, TooManyFrames, TooLong}
use Rattle.bpf_insn.specs.declared.program.TheConstants.{MAX_SLOTS}
use Rattle.bpf_insn.specs.Target.{target}
use Rattle.verifier.specs.Plain.{IsContextLoad, IsListed, IsPlain, plain}
use Rattle.verifier.proofs.Plain.Insns.{plain_narrow, narrow_length, narrow_begins, length_plain, there_inside, test, copy, release, Stands, loads_there, tests, copies, gives_back, lists, sets_retries, requeues_there, sets_answer, exits, stands}

-- what the shape asks of each instruction of a plain program whose jumps lead at most to the slot after its list
record PlainInsn (end place : ℕ) (insn : Insn) : Type 0 where
  narrow : is_wide insn ≡ false
  no_callee : callee_in place insn ≡ None
  last : place ≡ end + 3 → goes_on_behind insn ≡ false
  targets : (to : ℕ) → target_in place insn ≡ Some to → (place < to) × (to ≤ end)

none_is : (to : ℕ) {A : Type 0} → None ≡ Some to → A
none_is to e = absurd cc

some_is : (a b : ℕ) → Some a ≡ Some b → a ≡ b
some_is a b e = cc

-- an instruction that neither jumps nor ends, nor stands at the end
straight : (end place : ℕ) (insn : Insn) → place < end + 3 → is_wide insn ≡ false → callee_in place insn ≡ None → target_in place insn ≡ None → PlainInsn end place insn
straight end place insn lt narrow no_callee no_target = record {
  narrow = narrow;
  no_callee = no_callee;
  last = λ e. absurd (omega (arith, e, lt));
  targets = λ to e. none_is to (sym no_target ∙ e);
}

jump_insn : (end place : ℕ) (insn : Insn) (target_is : ℕ) → place < end → is_wide insn ≡ false → callee_in place insn ≡ None → target_in place insn ≡ Some target_is → place < target_is → target_is ≤ end → PlainInsn end place insn
jump_insn end place insn target_is lt narrow no_callee leads forward inside = record {
  narrow = narrow;
  no_callee = no_callee;
  last = λ e. absurd (omega (arith, e, lt));
  targets = λ to e. let same = some_is target_is to (sym leads ∙ e) in (omega (arith, forward, same), omega (arith, inside, same));
}

listed_insn : (end place : ℕ) (insn : Insn) → place < end → IsListed place end insn → PlainInsn end place insn
listed_insn end place (Alu width op dst src) lt is = straight end place (Alu width op dst src) (omega (arith, lt)) refl refl refl
listed_insn end place (InPlace op dst) lt is = straight end place (InPlace op dst) (omega (arith, lt)) refl refl refl
listed_insn end place (SignExtend extension dst src) lt is = straight end place (SignExtend extension dst src) (omega (arith, lt)) refl refl refl
listed_insn end place (JumpIf width condition dst src offset) lt is = jump_insn end place (JumpIf width condition dst src offset) (target place offset) lt refl refl refl is.2 is.3
listed_insn end place (Load form dst src offset) lt is = straight end place (Load form dst src offset) (omega (arith, lt)) refl refl refl
listed_insn end place (Store size dst src offset) lt is = straight end place (Store size dst src offset) (omega (arith, lt)) refl refl refl
listed_insn end place (Jump distance) lt is = absurd is
listed_insn end place (LoadImmediate dst value) lt is = absurd is
listed_insn end place (Call callee) lt is = absurd is
listed_insn end place Exit lt is = absurd is

loaded_insn : (end place : ℕ) (insn : Insn) → place < end → IsContextLoad insn → PlainInsn end place insn
loaded_insn end place (Load form dst src offset) lt is = straight end place (Load form dst src offset) (omega (arith, lt)) refl refl refl
loaded_insn end place (Alu width op dst src) lt is = absurd is
loaded_insn end place (InPlace op dst) lt is = absurd is
loaded_insn end place (SignExtend extension dst src) lt is = absurd is
loaded_insn end place (JumpIf width condition dst src offset) lt is = absurd is
loaded_insn end place (Store size dst src offset) lt is = absurd is
loaded_insn end place (Jump distance) lt is = absurd is
loaded_insn end place (LoadImmediate dst value) lt is = absurd is
loaded_insn end place (Call callee) lt is = absurd is
loaded_insn end place Exit lt is = absurd is

-- where the test of the freeze jumps to
pub test_target : (place : ℕ) → place ≤ MAX_SLOTS → target place (pos 2) ≡ place + 3
test_target place le = omega (arith, le)

-- the slot after the list
abbrev end_of : (program : List Slot) → IsPlain program → ℕ
end_of program is = length is.loads + 3 + length is.list

plain_insn : (program : List Slot) (is : IsPlain program) (place : ℕ) (insn : Insn) → insn_at program place ≡ Some insn → PlainInsn (end_of program is) place insn
plain_insn program is place insn at = by_part (stands program is place insn at)
  where
    end : ℕ
    end = length is.loads + 3 + length is.list

    known_as : (known : Insn) → insn ≡ known → PlainInsn end place known → PlainInsn end place insn
    known_as known e it = subst (PlainInsn end place) (sym e) it

    by_part : Stands program is place insn → PlainInsn end place insn
    by_part (loads_there lt it) = loaded_insn end place insn (omega (arith, lt)) it
    by_part (tests e it) =
        let to = test_target place (omega (arith, e, length_plain program is, is.in_range)) in
        known_as test it (jump_insn end place test (target place (pos 2)) (omega (arith, e)) refl refl refl (omega (arith, to)) (omega (arith, to, e)))
    by_part (copies e it) = known_as copy it (straight end place copy (omega (arith, e)) refl refl refl)
    by_part (gives_back e it) = known_as release it (straight end place release (omega (arith, e)) refl refl refl)
    by_part (lists i e lt there) = listed_insn end place insn (omega (arith, e, lt)) (subst (λ (p : ℕ). IsListed p end insn) (sym e) (is.listed i insn there))
    by_part (sets_retries e it) = known_as _ it (straight end place _ (omega (arith, e)) refl refl refl)
    by_part (requeues_there e it) = known_as _ it (straight end place _ (omega (arith, e)) refl refl refl)
    by_part (sets_answer e it) = known_as _ it (straight end place _ (omega (arith, e)) refl refl refl)
    by_part (exits e it) = known_as Exit it (record { narrow = refl; no_callee = refl; last = λ same. refl; targets = λ to same. none_is to same })

-- no local call stands anywhere
abbrev NoCalls : List Slot → Type 0
NoCalls program = (place : ℕ) → callee_at program place ≡ None

none_in : (program : List Slot) (is : IsPlain program) (place : ℕ) (o : Option Insn) → insn_at program place ≡ o → option_and_then (callee_in place) o ≡ None
none_in program is place None at = refl
none_in program is place (Some insn) at = (plain_insn program is place insn at).no_callee

no_calls : (program : List Slot) → IsPlain program → NoCalls program
no_calls program is place = none_in program is place (insn_at program place) refl

-- and so there is one function

none_called : (program : List Slot) → NoCalls program → (n slot : ℕ) → is_called_in program n slot ≡ false
none_called program none zero slot = refl
none_called program none (suc n) slot =
    ap (λ (o : Option ℕ). option_map_or (λ to. eqb to slot) o false || is_called_in program n slot) (none n) ∙ none_called program none n slot

and_false : (b : Bool) → (b && false) ≡ false
and_false true = refl
and_false false = refl

one_start : (program : List Slot) → NoCalls program → (slot : ℕ) → is_start program (suc slot) ≡ false
one_start program none slot =
    ap (λ (b : Bool). b || (begins program (suc slot) && is_called_in program (length program) (suc slot))) (ne_eqb (suc slot) 0 (λ e. omega (arith, e)))
    ∙ (ap (λ (b : Bool). begins program (suc slot) && b) (none_called program none (length program) (suc slot)) ∙ and_false (begins program (suc slot)))

one_function : (program : List Slot) → NoCalls program → (slot : ℕ) → function_of program slot ≡ 0
one_function program none zero = refl
one_function program none (suc slot) = cond-false (is_start program (suc slot)) _ _ (one_start program none slot) ∙ one_function program none slot

-- the open end of a function

or_false : (b : Bool) → (b || false) ≡ b
or_false true = refl
or_false false = refl

open_end : (program : List Slot) (is : IsPlain program) (place : ℕ) (o : Option Insn) → insn_at program place ≡ o → option_map_or (λ insn. goes_on_behind insn && is_function_end program (behind place insn)) o false ≡ true → ⊥
open_end program is place None at e = absurd (false≢true e)
open_end program is place (Some insn) at e =
    let lt : place < length program = there_inside program place insn at in
    let it = plain_insn program is place insn at in
    let parts = and_parts (goes_on_behind insn) (is_function_end program (behind place insn)) e in
    let one : behind place insn ≡ suc place = ap (λ (w : Bool). place + suc (length (further_slots w))) it.narrow ∙ one_more place in
    let end : leb (length program) (suc place) ≡ true = sym (or_false _) ∙ (sym (ap (λ (b : Bool). leb (length program) (suc place) || b) (one_start program (no_calls program is) place)) ∙ (sym (ap (is_function_end program) one) ∙ parts.1)) in
    let last : place ≡ end_of program is + 3 = omega (arith, leb-true _ _ end, lt, length_plain program is) in
    false≢true (sym (it.last last) ∙ parts.0)
  where
    one_more : (n : ℕ) → n + 1 ≡ suc n
    one_more n = omega arith

-- a jump passes a test only where it leads forward within the list
record JumpPasses (test_of : ℕ → Bool) (end place : ℕ) : Type 0 where
  to : ℕ
  forward : place < to
  inside : to ≤ end
  passes : test_of to ≡ true

jump_there : (program : List Slot) (is : IsPlain program) (test_of : ℕ → Bool) (place : ℕ) (o : Option Insn) → insn_at program place ≡ o → option_map_or test_of (option_and_then (target_in place) o) false ≡ true → JumpPasses test_of (end_of program is) place
jump_there program is test_of place None at e = absurd (false≢true e)
jump_there program is test_of place (Some insn) at e = by_target (target_in place insn) refl e
  where
    by_target : (target_is : Option ℕ) → target_in place insn ≡ target_is → option_map_or test_of target_is false ≡ true → JumpPasses test_of (end_of program is) place
    by_target None leads e = absurd (false≢true e)
    by_target (Some to) leads e =
        let it = (plain_insn program is place insn at).targets to leads in
        record { to = to; forward = it.0; inside = it.1; passes = e }

jumps : (program : List Slot) (is : IsPlain program) (test_of : ℕ → Bool) (place : ℕ) → option_map_or test_of (target_at program place) false ≡ true → JumpPasses test_of (end_of program is) place
jumps program is test_of place e = jump_there program is test_of place (insn_at program place) refl e

-- no function but the outermost is ever open

returns_nowhere : (returns : List ℕ) (to : Standing) → returns ≡ [] → ReturnsTo returns to → ⊥
returns_nowhere [] to none leads = leads
returns_nowhere (return ∷ returns) to none leads = absurd cc

none_open : (at : Standing) (insn : Insn) (to : Standing) → callee_in at.slot insn ≡ None → at.returns ≡ [] → StepLeadsTo at insn to → to.returns ≡ []
none_open at (Alu width op dst src) to no_callee none leads = ap (λ (s : Standing). s.returns) leads ∙ none
none_open at (InPlace op dst) to no_callee none leads = ap (λ (s : Standing). s.returns) leads ∙ none
none_open at (SignExtend extension dst src) to no_callee none leads = ap (λ (s : Standing). s.returns) leads ∙ none
none_open at (JumpIf width condition dst src offset) to no_callee none (inl next) = ap (λ (s : Standing). s.returns) next ∙ none
none_open at (JumpIf width condition dst src offset) to no_callee none (inr taken) = ap (λ (s : Standing). s.returns) taken ∙ none
none_open at (Jump distance) to no_callee none leads = ap (λ (s : Standing). s.returns) leads ∙ none
none_open at (LoadImmediate dst value) to no_callee none leads = ap (λ (s : Standing). s.returns) leads ∙ none
none_open at (Load form dst src offset) to no_callee none leads = ap (λ (s : Standing). s.returns) leads ∙ none
none_open at (Store size dst src offset) to no_callee none leads = ap (λ (s : Standing). s.returns) leads ∙ none
none_open at (Call (Helper number)) to no_callee none leads = ap (λ (s : Standing). s.returns) leads ∙ none
none_open at (Call (Local distance)) to no_callee none leads = absurd cc
none_open at Exit to no_callee none leads = absurd (returns_nowhere at.returns to none leads)

one_deep : (program : List Slot) → NoCalls program → (at : Standing) (n : ℕ) (path : StaticPath program at n) → at.returns ≡ [] → depth program at n path ≡ 1
one_deep program no_call at zero path none = absurd path
one_deep program no_call at (suc n) (insn, is, inl end) none = omega (arith, ap length none)
one_deep program no_call at (suc n) (insn, is, inr (to, leads, rest)) none =
    let no_callee : callee_in at.slot insn ≡ None = sym (ap (option_and_then (callee_in at.slot)) is) ∙ no_call at.slot in
    omega (arith, ap length none, one_deep program no_call to n rest (none_open at insn to no_callee none leads))

-- each instruction counts once

total_few : (value : ℕ → ℕ) (n : ℕ) → ((k : ℕ) → value k ≤ 1) → total value n ≤ n
total_few value zero few = omega arith
total_few value (suc n) few = omega (arith, few n, total_few value n few)

count_few : (counts : ℕ → ℕ) (place : ℕ) (o : Option Insn) → option_and_then (callee_in place) o ≡ None → count_at counts place o ≤ 1
count_few counts place None none = omega arith
count_few counts place (Some insn) none = omega (arith, ap (λ (c : Option ℕ). option_map_or counts c 0) none)

chosen_few : (b : Bool) (n : ℕ) → n ≤ 1 → (if b then n else 0) ≤ 1
chosen_few true n le = le
chosen_few false n le = omega arith

written_few : (program : List Slot) → NoCalls program → (deep : ℕ) → written_out deep program 0 ≤ length program
written_few program none zero = omega arith
written_few program none (suc deep) = total_few _ (length program) (λ place. chosen_few (eqb (function_of program place) 0) _ (count_few (written_out deep program) place (insn_at program place) (none place)))

pub plain_lawful : (program : List Slot) (fault : ShapeFault) → IsPlain program → FaultIs program fault → ⊥
plain_lawful program (OpenEnd slot) is first = open_end program is slot (insn_at program slot) refl first.here
plain_lawful program (TargetOutside slot) is (before, first) =
    let it = jumps program is (λ to. leb (length program) to) slot first.here in
    omega (arith, it.inside, leb-true _ _ it.passes, length_plain program is)
plain_lawful program (TargetSecondSlot slot) is (before, first) =
    let it = jumps program is (λ to. ltb to (length program) && not (begins program to)) slot first.here in
    let there = narrow_begins (plain is.loads is.list is.retries is.answer) (plain_narrow program is) it.to (omega (arith, it.inside, ap length is.is, narrow_length (plain is.loads is.list is.retries is.answer) (plain_narrow program is), length_plain program is)) in
    let begun : begins program it.to ≡ true = ap (λ (p : List Slot). begins p it.to) is.is ∙ ap is_some there.1 in
    false≢true (sym (not-true (begins program it.to) (and_parts (ltb it.to (length program)) (not (begins program it.to)) it.passes).1) ∙ begun)
plain_lawful program (TargetBackward slot) is (before, first) =
    let it = jumps program is (λ to. leb to slot) slot first.here in
    omega (arith, it.forward, leb-true _ _ it.passes)
plain_lawful program (NoSuchFunction slot) is (before, first) =
    false≢true (sym (ap (λ (o : Option ℕ). option_map_or (λ to. not (begins program to)) o false) (no_calls program is slot)) ∙ first.here)
plain_lawful program (LeavesFunction slot) is (before, first) =
    let none = no_calls program is in
    let it = jumps program is (λ to. not (eqb (function_of program to) (function_of program slot))) slot first.here in
    false≢true (sym (ap (λ (f : ℕ). not (eqb f (function_of program slot))) (one_function program none it.to) ∙ ap (λ (f : ℕ). not (eqb 0 f)) (one_function program none slot)) ∙ it.passes)
plain_lawful program (CallCycle slot) is (before, cycle, least) = none_is cycle.callee (sym (no_calls program is slot) ∙ cycle.leads)
plain_lawful program TooManyFrames is (before, deep) =
    let one = one_deep program (no_calls program is) (outermost 0) deep.instructions deep.path refl in
    omega (arith, one, deep.deep)
plain_lawful program TooLong is (before, long) =
    let few = written_few program (no_calls program is) (long.written_out.depth + 0) in
    omega (arith, few, long.written_out.settled 0, long.long, is.in_range)

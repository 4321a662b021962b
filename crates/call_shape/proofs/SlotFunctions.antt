-- Which function a slot is of.
use Rattle.std.proofs.Common.{◌≡◌, ℕ, zero, suc, ◌+◌, ◌-◌, min, ◌<◌, ◌≤◌, ◌&&◌, ◌||◌, ◌==◌, eqb, leb, cond, List, length, Option, Some, None, Bool, true, false, is_some, refl, ap, sym, ◌∙◌, arith, inl, inr}
use Rattle.std.specs.Option.{option_and_then, option_map_or}
use Rattle.std.proofs.lemmas.Bool.{eq-eqb, lt-leb, cases_Bool, cases_eq, cases_lt, cond-true, cond-false, or_left, or_right, and_from, and_parts, or_cases, eqb-true, or_from, ne_eqb, and_left}
use Rattle.bpf_insn.specs.declared.insn.Insn.{Insn}
use Rattle.bpf_insn.specs.declared.program.Slot.{Slot}
use Rattle.bpf_insn.specs.Program.{IsProgram, insn_at}
use Rattle.call_shape.specs.Calls.{begins, callee_in, callee_at, is_called_in, is_start, function_of}
use Rattle.call_shape.specs.Shape.{behind}
use Rattle.call_shape.proofs.Places.{begins_inside, begins_first, past_end, none_in_second, behind_cases}

pub function_before : (program : List Slot) (slot : ℕ) → function_of program slot ≤ slot
function_before program zero = omega arith
function_before program (suc slot) = by (is_start program (suc slot)) slot (function_of program slot) (function_before program slot)
  where
    by : (b : Bool) (slot f : ℕ) → f ≤ slot → cond b (suc slot) f ≤ suc slot
    by true slot f le = omega arith
    by false slot f le = omega arith

pub own_function : (program : List Slot) (slot : ℕ) → is_start program slot ≡ true → function_of program slot ≡ slot
own_function program zero start = refl
own_function program (suc slot) start = cond-true (is_start program (suc slot)) _ _ start

pub same_function : (program : List Slot) (slot : ℕ) → is_start program (suc slot) ≡ false → function_of program (suc slot) ≡ function_of program slot
same_function program slot further = cond-false (is_start program (suc slot)) _ _ further

pub function_starts : (program : List Slot) (slot : ℕ) → is_start program (function_of program slot) ≡ true
function_starts program zero = refl
function_starts program (suc slot) = elim (cases_Bool (is_start program (suc slot))) [
  | inl start ↦ ap (is_start program) (own_function program (suc slot) start) ∙ start
  | inr further ↦ ap (is_start program) (same_function program slot further) ∙ function_starts program slot
]

-- no start lies between a slot's function and the slot
pub nearest_start : (program : List Slot) (start slot : ℕ) → is_start program start ≡ true → start ≤ slot → start ≤ function_of program slot
nearest_start program start zero is le = omega arith
nearest_start program start (suc slot) is le = elim (cases_eq start (suc slot)) [
  | inl same ↦ omega (arith, same, own_function program (suc slot) (sym (ap (is_start program) same) ∙ is))
  | inr other ↦ elim (cases_Bool (is_start program (suc slot))) [
    | inl starts ↦ omega (arith, le, own_function program (suc slot) starts)
    | inr further ↦ omega (arith, other, le, same_function program slot further, nearest_start program start slot is (omega arith))
  ]
]

-- where a local call leads, one of the slots has it
called_in : (program : List Slot) (n place callee : ℕ) → place < n → callee_at program place ≡ Some callee → is_called_in program n callee ≡ true
called_in program zero place callee lt leads = absurd (omega arith)
called_in program (suc n) place callee lt leads = elim (cases_eq place n) [
  | inl same ↦ or_left _ (is_called_in program n callee) (
      ap (λ (o : Option ℕ). option_map_or (λ to. to == callee) o false) (sym (ap (callee_at program) same) ∙ leads) ∙ eq-eqb callee callee refl)
  | inr other ↦ or_right (option_map_or (λ to. to == callee) (callee_at program n) false) _ (called_in program n place callee (omega (arith, other, lt)) leads)
]

some_callee : (place : ℕ) (o : Option Insn) (callee : ℕ) → option_and_then (callee_in place) o ≡ Some callee → is_some o ≡ true
some_callee place None callee leads = absurd cc
some_callee place (Some insn) callee leads = refl

-- only instructions call
pub caller_begins : (program : List Slot) (place callee : ℕ) → callee_at program place ≡ Some callee → begins program place ≡ true
caller_begins program place callee leads = some_callee place (insn_at program place) callee leads

-- a function starts where a local call leads to an instruction
pub callee_starts : (program : List Slot) (place callee : ℕ) → begins program callee ≡ true → callee_at program place ≡ Some callee → is_start program callee ≡ true
callee_starts program place callee there leads =
    or_right (callee == 0) _ (and_from _ _ there (called_in program (length program) place callee (begins_inside program place (caller_begins program place callee leads)) leads))

pub start_begins : (program : List Slot) (start : ℕ) → IsProgram program → is_start program start ≡ true → begins program start ≡ true
start_begins program start is starts = elim (or_cases (start == 0) (begins program start && is_called_in program (length program) start) starts) [
  | inl zero_is ↦ ap (begins program) (eqb-true start 0 zero_is) ∙ begins_first program is
  | inr called ↦ (and_parts _ _ called).0
]

-- a slot where no instruction begins starts no function, but for the first one
no_start : (program : List Slot) (slot : ℕ) → insn_at program (suc slot) ≡ None → is_start program (suc slot) ≡ false
no_start program slot none = or_from (suc slot == 0) _ (ne_eqb (suc slot) 0 (λ e. absurd (omega (arith, e)))) (and_left (begins program (suc slot)) _ (ap is_some none))

-- the slots of an instruction and what follows it are of one function, where none starts there
pub function_behind : (program : List Slot) (place : ℕ) (insn : Insn) → IsProgram program → insn_at program place ≡ Some insn → is_start program (behind place insn) ≡ false → function_of program (behind place insn) ≡ function_of program place
function_behind program place insn is at further = elim (behind_cases place insn) [
  | inl one ↦ ap (function_of program) one ∙ same_function program place (sym (ap (is_start program) one) ∙ further)
  | inr two ↦
      ap (function_of program) two.0 ∙ same_function program (suc place) (sym (ap (is_start program) two.0) ∙ further)
      ∙ same_function program place (no_start program place (none_in_second program place insn is at two.1))
]

-- a slot starts a function where it is of its own one
pub start_test : (program : List Slot) (slot : ℕ) → is_start program slot ≡ eqb (function_of program slot) slot
start_test program zero = sym (eq-eqb (function_of program zero) zero refl)
start_test program (suc slot) = elim (cases_Bool (is_start program (suc slot))) [
  | inl starts ↦ starts ∙ sym (eq-eqb _ _ (own_function program (suc slot) starts))
  | inr further ↦ further ∙ sym (ne_eqb _ _ (λ e. absurd (omega (arith, e, same_function program slot further, function_before program slot))))
]

-- what lies after a program counts to its last function
function_past : (program : List Slot) (slot : ℕ) → 0 < length program → length program ≤ slot + 1 → function_of program slot ≡ function_of program (length program - 1)
function_past program zero some le = ap (function_of program) (let e : 0 ≡ length program - 1 = omega arith in e)
function_past program (suc slot) some le = elim (cases_lt (suc slot) (length program)) [
  | inl lt ↦ ap (function_of program) (let e : suc slot ≡ length program - 1 = omega arith in e)
  | inr past ↦ same_function program slot (no_start program slot (past_end program (suc slot) past)) ∙ function_past program slot some (omega arith)
]

pub function_clamped : (program : List Slot) (slot : ℕ) → 0 < length program → function_of program (min slot (length program - 1)) ≡ function_of program slot
function_clamped program slot some = elim (cases_lt slot (length program)) [
  | inl lt ↦ ap (function_of program) (let e : min slot (length program - 1) ≡ slot = omega arith in e)
  | inr past ↦ ap (function_of program) (let e : min slot (length program - 1) ≡ length program - 1 = omega arith in e) ∙ sym (function_past program slot some (omega arith))
]

-- inside a program its functions end where others start
pub end_test : (program : List Slot) (slot function : ℕ) → slot < length program → function ≡ function_of program slot → eqb function slot ≡ (leb (length program) slot || is_start program slot)
end_test program slot function lt is = ap (λ (f : ℕ). eqb f slot) is ∙ sym (start_test program slot) ∙ ap (λ (b : Bool). b || is_start program slot) (sym (lt-leb (length program) slot lt))

-- after the slots of a function that stand together there is none of it
pub ends_before : (program : List Slot) (function stop slot : ℕ) → function < stop → ((k : ℕ) → function ≤ k → k < stop → function_of program k ≡ function) → (function_of program stop ≡ function → ⊥) → function_of program slot ≡ function → slot < stop
ends_before program function zero slot some own other of = absurd (omega (arith, some))
ends_before program function (suc stop) slot some own other of = elim (cases_lt slot (suc stop)) [
  | inl lt ↦ lt
  | inr past ↦ elim (cases_Bool (is_start program (suc stop))) [
    | inl starts ↦ absurd (omega (arith, nearest_start program (suc stop) slot starts past, of, some))
    | inr further ↦ absurd (other (same_function program stop further ∙ own stop (omega (arith, some)) (omega arith)))
  ]
]

-- No path is longer than the instructions from its place to the end of its function, with local calls written out, nor than those
-- of the whole program.
use Rattle.std.proofs.Common.{◌≡◌, ℕ, zero, suc, ◌+◌, ◌<◌, ◌≤◌, ◌&&◌, ◌==◌, true, false, List, length, Option, Some, None, slice_get, ap, sym, ◌∙◌, arith, inl, inr}
use Rattle.std.specs.Option.{option_map_or, option_and_then}
use Rattle.std.proofs.lemmas.Bool.{and_parts, cases_eq, eqb-true, or_cases}
use Rattle.bpf_insn.specs.declared.insn.Insn.{Insn}
use Rattle.bpf_insn.specs.declared.program.Slot.{Slot}
use Rattle.bpf_insn.specs.Program.{IsProgram, insn_at}
use Rattle.call_shape.specs.declared.onward.Onward.{Onward}
use Rattle.call_shape.specs.declared.onward.Onward.TheVariants.{Leaves, Continues, Branches, Enters}
use Rattle.call_shape.specs.Onward.{onward}
use Rattle.call_shape.specs.Calls.{begins, callee_in, callee_at, function_of, is_called_in, is_start, IsCallingOrder}
use Rattle.call_shape.specs.Shape.{AreContained, IsLawful}
use Rattle.call_shape.specs.StaticPath.{outermost}
use Rattle.call_shape.specs.WrittenOut.{count_at, written_out, IsWrittenOut}
use Rattle.call_shape.proofs.Places.{begins_inside, there_begins, begins_there}
use Rattle.call_shape.proofs.SlotFunctions.{callee_starts, caller_begins, function_before, function_starts, own_function}
use Rattle.call_shape.proofs.Paths.{HasPath, WaysFrom, GoesOut, CallsOut, ways_on}
use Rattle.call_shape.proofs.Ways.{IsFurther, IsCalled, IsLawfulWay, lawful_way}
use Rattle.call_shape.proofs.Tails.{weight, tail, tail_of_start, tail_is, tail_drops}
use Rattle.call_shape.proofs.WrittenFew.{within_count}

weighs_one : (deep : ℕ) (program : List Slot) (place : ℕ) (insn : Insn) → insn_at program place ≡ Some insn → 1 ≤ weight deep program place
weighs_one deep program place insn at =
    let is : weight deep program place ≡ 1 + option_map_or (written_out deep program) (callee_in place insn) 0 = ap (count_at (written_out deep program) place) at in
    omega (arith, is)

weighs_callee : (deep : ℕ) (program : List Slot) (place callee : ℕ) (insn : Insn) → insn_at program place ≡ Some insn → callee_at program place ≡ Some callee → weight deep program place ≡ 1 + written_out deep program callee
weighs_callee deep program place callee insn at leads =
    let calls : callee_in place insn ≡ Some callee = ap (option_and_then (callee_in place)) (sym at) ∙ leads in
    ap (count_at (written_out deep program) place) at ∙ ap (λ o. 1 + option_map_or (written_out deep program) o 0) calls

-- what holds of paths of fewer instructions than n, however deep calls are written out
abbrev Fewer : List Slot → ℕ → Type 0
Fewer program n = (m place deep d : ℕ) → m < n → m ≤ deep → begins program place ≡ true → HasPath program (outermost place) m d → m ≤ tail deep program place

goes_within : (program : List Slot) (place next n deep d : ℕ) (insn : Insn) → insn_at program place ≡ Some insn → n ≤ deep → Fewer program n → IsFurther program place next → GoesOut program next n d → n ≤ tail deep program place
goes_within program place next n deep d insn at le fewer further out =
    omega (
      arith,
      out.long,
      fewer out.after next deep d (omega (arith, out.long)) (omega (arith, out.long, le)) further.there out.rest,
      weighs_one deep program place insn at,
      tail_drops deep program place next (begins_inside program place (there_begins program place insn at)) further.forward further.within,
    )

calls_within : (program : List Slot) (place callee next n deep d : ℕ) (insn : Insn) → insn_at program place ≡ Some insn → n ≤ suc deep → Fewer program n → IsCalled program place callee → IsFurther program place next → CallsOut program callee next n d → n ≤ tail (suc deep) program place
calls_within program place callee next n deep d insn at le fewer called further out =
    let inner = fewer out.inner callee deep out.inner_depth (omega (arith, out.long)) (omega (arith, out.long, le)) called.there out.path in
    let written : tail deep program callee ≡ written_out (suc deep) program callee = tail_of_start deep program callee (callee_starts program place callee called.there called.leads) in
    omega (
      arith,
      out.long,
      inner,
      written,
      fewer out.after next (suc deep) out.after_depth (omega (arith, out.long)) (omega (arith, out.long, le)) further.there out.rest,
      weighs_callee (suc deep) program place callee insn at called.leads,
      tail_drops (suc deep) program place next (begins_inside program place (there_begins program place insn at)) further.forward further.within,
    )

some_within : (deep : ℕ) (program : List Slot) (place : ℕ) (insn : Insn) → IsProgram program → insn_at program place ≡ Some insn → 1 ≤ tail deep program place
some_within deep program place insn is at = omega (arith, tail_is deep program place insn is at)

within_way : (program : List Slot) (place n deep d : ℕ) (insn : Insn) (way : Onward) → IsProgram program → insn_at program place ≡ Some insn → n ≤ deep → Fewer program n → IsLawfulWay program place way → WaysFrom program way n d → n ≤ tail deep program place
within_way program place n deep d insn Leaves is at le fewer lawful out = omega (arith, out.0, some_within deep program place insn is at)
within_way program place n deep d insn (Continues next) is at le fewer lawful out = goes_within program place next n deep d insn at le fewer lawful out
within_way program place n deep d insn (Branches next other) is at le fewer lawful (inl out) = goes_within program place next n deep d insn at le fewer lawful.0 out
within_way program place n deep d insn (Branches next other) is at le fewer lawful (inr out) = goes_within program place other n deep d insn at le fewer lawful.1 out
within_way program place n zero d insn (Enters callee next) is at le fewer lawful out = omega (arith, le)
within_way program place n (suc deep) d insn (Enters callee next) is at le fewer lawful out = calls_within program place callee next n deep d insn at le fewer lawful.0 lawful.1 out

by_length : (bound : ℕ) (program : List Slot) → IsProgram program → AreContained program → Fewer program bound
by_length zero program is functions m place deep d lt le there path = absurd (omega (arith, lt))
by_length (suc bound) program is functions m place deep d lt le there path =
    let here = begins_there program place there in
    within_way program place m deep d here.0 (onward place here.0) is here.1 le
    (λ k next further e below within begun rest. by_length bound program is functions k next further e (omega (arith, below, lt)) within begun rest)
    (lawful_way program place here.0 is functions here.1) (ways_on program place m d here.0 here.1 path)

-- from a place on there are no more instructions than in its function
tail_within : (deep : ℕ) (program : List Slot) (place : ℕ) → begins program place ≡ true → tail deep program place ≤ written_out (suc deep) program (function_of program place)
tail_within deep program place begun =
    let function : ℕ = function_of program place in
    let starts = function_starts program place in
    let before = function_before program place in
    let whole = tail_of_start deep program function starts in
    elim (cases_eq function place) [
      | inl same ↦ omega (arith, whole, ap (tail deep program) same)
      | inr other ↦
          omega (arith, whole, tail_drops deep program function place (omega (arith, before, begins_inside program place begun)) (omega (arith, before, other)) (sym (own_function program function starts)))
    ]

-- where a function is called it counts once more
callee_within : (deep : ℕ) (program : List Slot) (place callee : ℕ) → IsProgram program → begins program place ≡ true → callee_at program place ≡ Some callee → written_out deep program callee + 1 ≤ tail deep program place
callee_within deep program place callee is begun leads =
    let here = begins_there program place begun in
    let calls : callee_in place here.0 ≡ Some callee = ap (option_and_then (callee_in place)) (sym here.1) ∙ leads in
    omega (arith, tail_is deep program place here.0 is here.1, ap (λ (o : Option ℕ). option_map_or (written_out deep program) o 0) calls)

callee_is : (slot : ℕ) (o : Option ℕ) → option_map_or (λ to. to == slot) o false ≡ true → o ≡ Some slot
callee_is slot None e = absurd (let bad : false ≡ true = e in cc)
callee_is slot (Some to) e = ap Some (eqb-true to slot e)

-- what is called has a caller
caller_of : (program : List Slot) (n slot : ℕ) → is_called_in program n slot ≡ true → (place : ℕ) × (callee_at program place ≡ Some slot)
caller_of program zero slot e = absurd (let bad : false ≡ true = e in cc)
caller_of program (suc n) slot e = elim (or_cases (option_map_or (λ to. to == slot) (callee_at program n) false) (is_called_in program n slot) e) [
  | inl last ↦ (n, callee_is slot (callee_at program n) last)
  | inr earlier ↦ caller_of program n slot earlier
]

-- Written out, no function has more instructions than slot 0's: that comes to it by its callers, of which each stands after what
-- it calls. It goes by how many functions may stand after.
function_within : (left : ℕ) (program : List Slot) (order : List ℕ) (count : ℕ) → IsProgram program → IsCallingOrder program order → IsWrittenOut program 0 count → (deep start : ℕ) → is_start program start ≡ true → start < length program → ((i : ℕ) → slice_get order i ≡ Some start → length order ≤ i + left) → written_out deep program start ≤ count
function_within zero program order count is ordered written deep start starts inside late =
    let stands = ordered.all start inside starts in
    absurd (omega (arith, stands.before, late stands.index stands.there))
function_within (suc left) program order count is ordered written deep start starts inside late =
    elim (or_cases (start == 0) (begins program start && is_called_in program (length program) start) starts) [
      | inl first ↦ omega (arith, within_count deep program 0 count written, ap (written_out deep program) (eqb-true start 0 first))
      | inr called ↦
          let caller = caller_of program (length program) start (and_parts (begins program start) (is_called_in program (length program) start) called).1 in
          let place : ℕ = caller.0 in
          let begun = caller_begins program place start caller.1 in
          let outer = function_within left program order count is ordered written (suc deep) (function_of program place) (function_starts program place)
          (omega (arith, function_before program place, begins_inside program place begun))
          (λ i there. let before = ordered.callees_first i place start there caller.1 in omega (arith, late before.index before.there, before.before)) in
          omega (arith, outer, tail_within deep program place begun, callee_within deep program place start is begun caller.1)
    ]

-- and so no path from any place is longer than the whole program, written out
pub path_within : (program : List Slot) (place n d : ℕ) → IsProgram program → (lawful : IsLawful program) → begins program place ≡ true → HasPath program (outermost place) n d → n ≤ lawful.count
path_within program place n d is lawful begun path =
    let calls = lawful.frames.calls in
    let within = function_within (length calls.order) program calls.order lawful.count is calls.ordered lawful.written_out (suc n) (function_of program place) (function_starts program place)
    (omega (arith, function_before program place, begins_inside program place begun)) (λ i there. omega arith) in
    omega (arith, by_length (n + 1) program is calls.functions n place n d (omega arith) (omega arith) begun path, tail_within n program place begun, within)

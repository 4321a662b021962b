-- Marking all functions that one comes to by calls.
use Rattle.std.proofs.Common.{◌≡◌, ℕ, zero, suc, ◌+◌, ◌<◌, Bool, true, false, List, length, Some, set, refl, ap, sym, ◌∙◌, arith, inl, inr, ◌⊎◌, length-set, IsTrue, ◌↔◌}
use Rattle.std.proofs.lemmas.Bool.{cases_eq, cases_Bool, false≢true}
use Rattle.std.proofs.lemmas.Option.{same_Some}
use Rattle.bpf_insn.specs.declared.program.Slot.{Slot}
use Rattle.call_shape.specs.Calls.{callee_at, function_of, Calls, CallsThrough, IsOnCycle}
use Rattle.call_shape.specs.Reached.{MarksOn, MarksFrom, MarksCallee}
use Rattle.call_shape.specs.Walk.{is_marked, marked, ComesTo}
use Rattle.call_shape.proofs.Places.{begins_inside}
use Rattle.call_shape.proofs.SlotFunctions.{function_before, caller_begins}
use Rattle.call_shape.proofs.Marks.{marked_rises, marks_there, marks_other, stays_set}

nothing_more : (program : List Slot) (marks : List Bool) → MarksOn program marks marks
nothing_more program marks = record { whole = refl; stays = λ slot e. e; closed = λ caller callee now was call. absurd (false≢true (sym was ∙ now)) }

and_then : (program : List Slot) (first next last : List Bool) → MarksOn program first next → MarksOn program next last → MarksOn program first last
and_then program first next last before after = record {
  whole = after.whole ∙ before.whole;
  stays = λ slot e. after.stays slot (before.stays slot e);
  closed = λ caller callee now was call. elim (cases_Bool (is_marked next caller)) [
    | inl marked_then ↦ after.stays callee (before.closed caller callee marked_then was call)
    | inr not_yet ↦ after.closed caller callee now not_yet call
  ];
}

-- no function is called, or one that is marked
pub callee_marked : (program : List Slot) (place : ℕ) (marks : List Bool) → ((callee : ℕ) → callee_at program place ≡ Some callee → is_marked marks callee ≡ true) → MarksCallee program place marks marks
callee_marked program place marks own = record { on = nothing_more program marks; own = own; from = λ slot e. inl e }

pub callee_reached : (program : List Slot) (place callee : ℕ) (before after : List Bool) → callee_at program place ≡ Some callee → MarksFrom program callee before after → MarksCallee program place before after
callee_reached program place callee before after leads is = record {
  on = is.on;
  own = λ other there. ap (is_marked after) (same_Some other callee (sym there ∙ leads)) ∙ is.own;
  from = λ slot e. elim (is.from slot e) [ inl was ↦ inl was | inr comes ↦ inr (callee, leads, comes) ];
}

-- the calls of a function are followed up to a place
pub record IsReaching (program : List Slot) (function : ℕ) (start now : List Bool) (place : ℕ) : Type 0 where
  pub whole : length now ≡ length start
  pub stays : (slot : ℕ) → is_marked (set start function true) slot ≡ true → is_marked now slot ≡ true
  pub from : (slot : ℕ) → is_marked now slot ≡ true → (is_marked start slot ≡ true) ⊎ ComesTo program function slot
  pub closed : (caller callee : ℕ) → is_marked now caller ≡ true → is_marked start caller ≡ false → (caller ≡ function → ⊥) → Calls program caller callee → is_marked now callee ≡ true
  pub followed : (k callee : ℕ) → k < place → function_of program k ≡ function → callee_at program k ≡ Some callee → is_marked now callee ≡ true

pub reaching_first : (program : List Slot) (function : ℕ) (start : List Bool) → function < length start → IsReaching program function start (set start function true) function
reaching_first program function start lt = record {
  whole = length-set start function true;
  stays = λ slot e. e;
  from = λ slot e. elim (cases_eq slot function) [
    | inl same ↦ inr (0, sym same)
    | inr other ↦ inl (sym (marks_other start function slot other) ∙ e)
  ];
  closed = λ caller callee e was other call. absurd (false≢true (sym was ∙ sym (marks_other start function caller other) ∙ e));
  followed = λ k callee lt own leads. absurd (omega (arith, lt, own, function_before program k));
}

pub reaching_more : (program : List Slot) (function place : ℕ) (start now after : List Bool) → function < length start → function_of program place ≡ function → IsReaching program function start now place → MarksCallee program place now after → IsReaching program function start after (place + 1)
reaching_more program function place start now after lt own is step = record {
  whole = step.on.whole ∙ is.whole;
  stays = λ slot e. step.on.stays slot (is.stays slot e);
  from = λ slot e. elim (step.from slot e) [
    | inl was ↦ is.from slot was
    | inr (callee, leads, comes) ↦ inr (suc comes.0, (callee, record { place = place; leads = leads; from = own }, comes.1))
  ];
  closed = λ caller callee e was other call. elim (cases_Bool (is_marked now caller)) [
    | inl marked_then ↦ step.on.stays callee (is.closed caller callee marked_then was other call)
    | inr not_yet ↦ step.on.closed caller callee e not_yet call
  ];
  followed = λ k callee before of leads. elim (cases_eq k place) [
    | inl same ↦ step.own callee (sym (ap (callee_at program) same) ∙ leads)
    | inr other ↦ step.on.stays callee (is.followed k callee (omega (arith, other, before)) of leads)
  ];
}

pub reaching_last : (program : List Slot) (function stop : ℕ) (start now : List Bool) → function < length start → ((k : ℕ) → k < length program → function_of program k ≡ function → k < stop) → IsReaching program function start now stop → MarksFrom program function start now
reaching_last program function stop start now lt others is = record {
  on = record {
    whole = is.whole;
    stays = λ slot e. is.stays slot (stays_set start function lt slot e);
    closed = λ caller callee e was call. elim (cases_eq caller function) [
      | inl same ↦ is.followed call.place callee
          (others call.place (begins_inside program call.place (caller_begins program call.place callee call.leads)) (call.from ∙ same)) (call.from ∙ same) call.leads
      | inr other ↦ is.closed caller callee e was other call
    ];
  };
  own = is.stays function (marks_there start function lt);
  from = is.from;
}

-- each function that is reached is marked, and fewer are left to mark
pub more_marked : (program : List Slot) (function place : ℕ) (start now : List Bool) → function < length start → is_marked start function ≡ false → IsReaching program function start now place → marked start < marked now
more_marked program function place start now lt fresh is =
    marked_rises start now function (sym is.whole) (λ k e. is.stays k (stays_set start function lt k e)) lt fresh (is.stays function (marks_there start function lt))

-- all is marked that a marked function comes to, where nothing was before
comes_marked : (n : ℕ) (program : List Slot) (before after : List Bool) (from to : ℕ) → ((slot : ℕ) → is_marked before slot ≡ false) → MarksOn program before after → is_marked after from ≡ true → CallsThrough program n from to → is_marked after to ≡ true
comes_marked zero program before after from to none on e same = ap (is_marked after) (sym same) ∙ e
comes_marked (suc n) program before after from to none on e (next, call, rest) =
    comes_marked n program before after next to none on (on.closed from next e (none from) call) rest

-- whether a callee comes back is whether the caller's function is marked
pub comes_back : (program : List Slot) (place callee : ℕ) (before after : List Bool) → callee_at program place ≡ Some callee → ((slot : ℕ) → is_marked before slot ≡ false) → MarksFrom program callee before after → IsTrue (is_marked after (function_of program place)) ↔ IsOnCycle program place
comes_back program place callee before after leads none is = (
  λ t. elim (is.from (function_of program place) t) [
    | inl was ↦ absurd (false≢true (sym (none (function_of program place)) ∙ was))
    | inr comes ↦ record { callee = callee; leads = leads; calls = comes.0; back = comes.1 }
  ],
  λ on. comes_marked on.calls program before after on.callee (function_of program place) none is.on
      (ap (is_marked after) (same_Some on.callee callee (sym on.leads ∙ leads)) ∙ is.own) on.back,
)

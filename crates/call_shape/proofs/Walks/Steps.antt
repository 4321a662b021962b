-- What each step of a walk keeps.
use Rattle.std.proofs.Common.{◌≡◌, ℕ, zero, suc, ◌+◌, ◌-◌, ◌<◌, ◌≤◌, Bool, true, false, List, [], ◌∷◌, length, Some, set, slice_get, refl, ap, sym, subst, ◌∙◌, arith, inl, inr, ◌⊎◌, length-set}
use Rattle.std.proofs.lemmas.Bool.{cases_eq, cases_Bool, false≢true}
use Rattle.std.proofs.lemmas.Option.{same_Some}
use Rattle.bpf_insn.specs.declared.program.Slot.{Slot}
use Rattle.bpf_insn.specs.declared.program.TheConstants.{MAX_SLOTS}
use Rattle.call_shape.specs.Calls.{begins, callee_at, function_of, CallsThrough, IsOnCycle, StandsBefore}
use Rattle.call_shape.specs.Postorder.{IsPostorder, StandOnce}
use Rattle.call_shape.specs.Walk.{is_marked, marked, ComesTo, with_entered, with_settled, IsWalk, OpenComeTo, LaterSettled, WalkContinues}
use Rattle.call_shape.specs.declared.walk.Walk.{Walk}
use Rattle.call_shape.proofs.Places.{begins_inside}
use Rattle.call_shape.proofs.Marks.{marked_more, marked_rises, marked_room, marks_there, marks_other, stays_set}

pub keeps_entering : (program : List Slot) (walk : Walk) (function : ℕ) → function < MAX_SLOTS → IsWalk program walk → IsWalk program (with_entered walk function)
keeps_entering program walk function lt is = record {
  entered_whole = length-set walk.entered function true ∙ is.entered_whole;
  settled_whole = is.settled_whole;
  places_whole = is.places_whole;
  counted = is.counted;
  stands = is.stands;
  placed = is.placed;
  own_entered = λ place e. stays_set walk.entered function (omega (arith, lt, is.entered_whole)) (function_of program place) (is.own_entered place e);
  order = is.order;
}

get-set_same : (xs : List ℕ) (i x : ℕ) → i < length xs → slice_get (set xs i x) i ≡ Some x
get-set_same [] i x lt = absurd (omega arith)
get-set_same (y ∷ xs) zero x lt = refl
get-set_same (y ∷ xs) (suc i) x lt = get-set_same xs i x (omega arith)

get-set_other : (xs : List ℕ) (i k x : ℕ) → (k ≡ i → ⊥) → slice_get (set xs i x) k ≡ slice_get xs k
get-set_other [] i k x other = refl
get-set_other (y ∷ xs) zero zero x other = absurd (other refl)
get-set_other (y ∷ xs) zero (suc k) x other = refl
get-set_other (y ∷ xs) (suc i) zero x other = refl
get-set_other (y ∷ xs) (suc i) (suc k) x other = get-set_other xs i k x (λ e. other (ap suc e))

-- what stands before a place of the list stands there whatever comes to that place
stands_still : (places : List ℕ) (i n slot x : ℕ) → n ≤ i → StandsBefore places n slot → StandsBefore (set places i x) n slot
stands_still places i n slot x le stands = record {
  index = stands.index;
  before = stands.before;
  there = get-set_other places i stands.index x (λ e. absurd (omega (arith, e, le, stands.before))) ∙ stands.there;
}

-- and what stands there then stood there before
stood_before : (places : List ℕ) (i n slot x : ℕ) → n ≤ i → StandsBefore (set places i x) n slot → StandsBefore places n slot
stood_before places i n slot x le stands = record {
  index = stands.index;
  before = stands.before;
  there = sym (get-set_other places i stands.index x (λ e. absurd (omega (arith, e, le, stands.before)))) ∙ stands.there;
}

-- in a list with a place more each stands as it stood, and the new one last
last_or_before : (places : List ℕ) (n place i q : ℕ) → n < length places → i < n + 1 → slice_get (set places n place) i ≡ Some q → ((i ≡ n) × (q ≡ place)) ⊎ ((i < n) × (slice_get places i ≡ Some q))
last_or_before places n place i q room lt at = elim (cases_eq i n) [
  | inl same ↦ inl (same, same_Some q place (sym at ∙ ap (slice_get (set places n place)) same ∙ get-set_same places n place room))
  | inr other ↦ inr (omega (arith, other, lt), sym (get-set_other places n i place other) ∙ at)
]

longer : (program : List Slot) (places : List ℕ) (n place : ℕ) → n < length places → begins program place ≡ true → (StandsBefore places n place → ⊥) → ((later : ℕ) → place < later → begins program later ≡ true → function_of program later ≡ function_of program place → StandsBefore places n later) → ((callee : ℕ) → callee_at program place ≡ Some callee → StandsBefore places n callee) → IsPostorder program places n → IsPostorder program (set places n place) (n + 1)
unfolding StandOnce
longer program places n place room there fresh laters callees order = record {
  begun = λ i q lt at. elim (last_or_before places n place i q room lt at) [
    | inl (last, is) ↦ ap (begins program) is ∙ there
    | inr (before, was) ↦ order.begun i q before was
  ];
  once = λ i q lt at stands. elim (last_or_before places n place i q room lt at) [
    | inl (last, is) ↦
        let stood = stood_before places n i q place (omega (arith, last)) stands in
        fresh (record { index = stood.index; before = omega (arith, stood.before, last); there = stood.there ∙ ap Some is })
    | inr (before, was) ↦ order.once i q before was (stood_before places n i q place (omega (arith, before)) stands)
  ];
  later_first = λ i q later lt at further begun within. elim (last_or_before places n place i q room lt at) [
    | inl (last, is) ↦ stands_still places n i later place (omega (arith, last))
        (subst (λ (k : ℕ). StandsBefore places k later) (sym last) (laters later (omega (arith, is, further)) begun (within ∙ ap (function_of program) is)))
    | inr (before, was) ↦ stands_still places n i later place (omega (arith, before)) (order.later_first i q later before was further begun within)
  ];
  callee_first = λ i q callee lt at leads. elim (last_or_before places n place i q room lt at) [
    | inl (last, is) ↦ stands_still places n i callee place (omega (arith, last))
        (subst (λ (k : ℕ). StandsBefore places k callee) (sym last) (callees callee (ap (callee_at program) (sym is) ∙ leads)))
    | inr (before, was) ↦ stands_still places n i callee place (omega (arith, before)) (order.callee_first i q callee before was leads)
  ];
}

pub keeps_settling : (program : List Slot) (walk : Walk) (place : ℕ) → IsWalk program walk → place < MAX_SLOTS → begins program place ≡ true → is_marked walk.settled place ≡ false → is_marked walk.entered (function_of program place) ≡ true → LaterSettled program walk place → ((callee : ℕ) → callee_at program place ≡ Some callee → is_marked walk.settled callee ≡ true) → IsWalk program (with_settled walk place)
keeps_settling program walk place is lt there fresh own laters callees =
    let within : place < length walk.settled = omega (arith, lt, is.settled_whole) in
    let room : walk.order.count < length walk.order.places = omega (arith, marked_room walk.settled place within fresh, is.counted, is.settled_whole, is.places_whole) in
    record {
      entered_whole = is.entered_whole;
      settled_whole = length-set walk.settled place true ∙ is.settled_whole;
      places_whole = length-set walk.order.places walk.order.count place ∙ is.places_whole;
      counted = omega (arith, marked_more walk.settled place within fresh, is.counted);
      stands = λ q e. elim (cases_eq q place) [
        | inl same ↦ record { index = walk.order.count; before = omega arith; there = get-set_same walk.order.places walk.order.count place room ∙ ap Some (sym same) }
        | inr other ↦
            let stood = is.stands q (sym (marks_other walk.settled place q other) ∙ e) in
            let still = stands_still walk.order.places walk.order.count walk.order.count q place (omega arith) stood in
            record { index = still.index; before = omega (arith, still.before); there = still.there }
      ];
      placed = λ i q lt at. elim (last_or_before walk.order.places walk.order.count place i q room lt at) [
        | inl (last, same) ↦ ap (is_marked (set walk.settled place true)) same ∙ marks_there walk.settled place within
        | inr (before, was) ↦ stays_set walk.settled place within q (is.placed i q before was)
      ];
      own_entered = λ q e. elim (cases_eq q place) [
        | inl same ↦ ap (λ (p : ℕ). is_marked walk.entered (function_of program p)) same ∙ own
        | inr other ↦ is.own_entered q (sym (marks_other walk.settled place q other) ∙ e)
      ];
      order = longer program walk.order.places walk.order.count place room there
          (λ stands. absurd (false≢true (sym fresh ∙ is.placed stands.index place stands.before stands.there)))
          (λ later further begun within. is.stands later (laters later further begun within)) (λ callee leads. is.stands callee (callees callee leads)) is.order;
    }

-- one part of a walk and then another
pub then_on : (program : List Slot) (excepted also : ℕ → Type 0) (first next last : Walk) → ((place : ℕ) → also place → excepted place) → WalkContinues program excepted first next → WalkContinues program also next last → WalkContinues program excepted first last
then_on program excepted also first next last covered before after = record {
  still_settled = λ place e. after.still_settled place (before.still_settled place e);
  still_entered = λ function e. after.still_entered function (before.still_entered function e);
  others_stay = λ place other e.
      after.others_stay place (λ a. other (covered place a)) (before.still_entered (function_of program place) e) ∙ before.others_stay place other e;
  entered_settled = λ function e. elim (after.entered_settled function e) [
    | inl was ↦ elim (before.entered_settled function was) [ inl earlier ↦ inl earlier | inr settled ↦ inr (after.still_settled function settled) ]
    | inr settled ↦ inr settled
  ];
}

pub nothing_yet : (program : List Slot) (excepted : ℕ → Type 0) (walk : Walk) → WalkContinues program excepted walk walk
nothing_yet program excepted walk = record {
  still_settled = λ place e. e;
  still_entered = λ function e. e;
  others_stay = λ place other e. refl;
  entered_settled = λ function e. inl e;
}

-- a place that is settled leaves all others
pub settling_on : (program : List Slot) (walk : Walk) (place : ℕ) → place < length walk.settled → WalkContinues program (λ other. other ≡ place) walk (with_settled walk place)
settling_on program walk place lt = record {
  still_settled = stays_set walk.settled place lt;
  still_entered = λ function e. e;
  others_stay = λ q other e. marks_other walk.settled place q other;
  entered_settled = λ function e. inl e;
}

-- a function's visit as a whole
pub visited_on : (program : List Slot) (before after : Walk) (function : ℕ) → function < length before.entered → is_marked before.entered function ≡ false → is_marked after.settled function ≡ true → WalkContinues program (λ place. function_of program place ≡ function) (with_entered before function) after → WalkContinues program (λ place. ⊥) before after
visited_on program before after function lt fresh settled on = record {
  still_settled = on.still_settled;
  still_entered = λ other e. on.still_entered other (stays_set before.entered function lt other e);
  others_stay = λ place none e.
      on.others_stay place (λ own. false≢true (sym fresh ∙ ap (is_marked before.entered) (sym own) ∙ e)) (stays_set before.entered function lt (function_of program place) e);
  entered_settled = λ other e. elim (cases_eq other function) [
    | inl same ↦ inr (ap (is_marked after.settled) same ∙ settled)
    | inr different ↦ elim (on.entered_settled other e) [
      | inl was ↦ inl (sym (marks_other before.entered function other different) ∙ was)
      | inr done ↦ inr done
    ]
  ];
}

-- during a function's visit all that is open comes to it
pub open_still : (program : List Slot) (before now : Walk) (function : ℕ) → OpenComeTo program before function → WalkContinues program (λ place. function_of program place ≡ function) (with_entered before function) now → OpenComeTo program now function
open_still program before now function comes on other e unsettled = elim (cases_eq other function) [
  | inl same ↦ (0, same)
  | inr different ↦ elim (on.entered_settled other e) [
    | inl was ↦ comes other (sym (marks_other before.entered function other different) ∙ was)
        (elim (cases_Bool (is_marked before.settled other)) [
          | inl settled ↦ absurd (false≢true (sym unsettled ∙ on.still_settled other settled))
          | inr not_yet ↦ not_yet
        ])
    | inr settled ↦ absurd (false≢true (sym unsettled ∙ settled))
  ]
]

-- a call of what is open lies on a cycle
pub open_cycle : (program : List Slot) (walk : Walk) (place callee : ℕ) → OpenComeTo program walk (function_of program place) → callee_at program place ≡ Some callee → is_marked walk.entered callee ≡ true → is_marked walk.settled callee ≡ false → IsOnCycle program place
open_cycle program walk place callee comes leads entered unsettled =
    let back = comes callee entered unsettled in
    record { callee = callee; leads = leads; calls = back.0; back = back.1 }

-- by one call more
pub comes_by_call : (n : ℕ) (program : List Slot) (from place callee : ℕ) → CallsThrough program n from (function_of program place) → callee_at program place ≡ Some callee → ComesTo program from callee
comes_by_call zero program from place callee same leads = (1, (callee, record { place = place; leads = leads; from = sym same }, refl))
comes_by_call (suc n) program from place callee (next, call, rest) leads =
    let on = comes_by_call n program next place callee rest leads in
    (suc on.0, (next, call, on.1))

pub open_at_callee : (program : List Slot) (walk : Walk) (place callee : ℕ) → OpenComeTo program walk (function_of program place) → callee_at program place ≡ Some callee → OpenComeTo program walk callee
open_at_callee program walk place callee comes leads other e unsettled =
    let to = comes other e unsettled in
    comes_by_call to.0 program other place callee to.1 leads

-- there is room for a place that is not settled
pub room : (program : List Slot) (walk : Walk) (place : ℕ) → IsWalk program walk → place < MAX_SLOTS → is_marked walk.settled place ≡ false → walk.order.count < MAX_SLOTS
room program walk place is lt fresh = omega (arith, marked_room walk.settled place (omega (arith, lt, is.settled_whole)) fresh, is.counted, is.settled_whole)

not_both : (b : Bool) → (b ≡ true → ⊥) → b ≡ false
not_both true none = absurd (none refl)
not_both false none = refl

-- a function's visit that has come down to a place
pub record IsVisiting (program : List Slot) (function : ℕ) (start now : Walk) (place : ℕ) : Type 0 where
  pub walk : IsWalk program now
  pub done : (k : ℕ) → place ≤ k → begins program k ≡ true → function_of program k ≡ function → is_marked now.settled k ≡ true
  pub left : (k : ℕ) → k < place → function_of program k ≡ function → is_marked now.settled k ≡ false
  pub goes_on : WalkContinues program (λ k. function_of program k ≡ function) (with_entered start function) now

pub visiting_first : (program : List Slot) (function stop : ℕ) (start : Walk) → IsWalk program start → function < MAX_SLOTS → is_marked start.entered function ≡ false → ((k : ℕ) → k < length program → function_of program k ≡ function → k < stop) → IsVisiting program function start (with_entered start function) stop
visiting_first program function stop start is lt fresh others = record {
  walk = keeps_entering program start function lt is;
  done = λ k le there of. absurd (omega (arith, le, others k (begins_inside program k there) of));
  left = λ k below of. not_both (is_marked start.settled k) (λ e. false≢true (sym fresh ∙ ap (is_marked start.entered) (sym of) ∙ is.own_entered k e));
  goes_on = nothing_yet program (λ k. function_of program k ≡ function) (with_entered start function);
}

-- after a visit to what a place calls it is not settled yet
pub still_left : (program : List Slot) (function top : ℕ) (start now after : Walk) → IsVisiting program function start now top → function < length start.entered → 0 < top → function_of program (top - 1) ≡ function → WalkContinues program (λ k. ⊥) now after → is_marked after.settled (top - 1) ≡ false
still_left program function top start now after is lt some of on =
    let entered = is.goes_on.still_entered function (marks_there start.entered function lt) in
    on.others_stay (top - 1) (λ none. none) (ap (is_marked now.entered) of ∙ entered) ∙ is.left (top - 1) (omega arith) of

pub visiting_more : (program : List Slot) (function top : ℕ) (start now after : Walk) → IsVisiting program function start now top → IsWalk program start → function < MAX_SLOTS → 0 < top → top ≤ MAX_SLOTS → begins program (top - 1) ≡ true → function_of program (top - 1) ≡ function → IsWalk program after → WalkContinues program (λ k. ⊥) now after → ((callee : ℕ) → callee_at program (top - 1) ≡ Some callee → is_marked after.settled callee ≡ true) → IsVisiting program function start (with_settled after (top - 1)) (top - 1)
visiting_more program function top start now after is first inside some high there of walk on callees =
    let entered = is.goes_on.still_entered function (marks_there start.entered function (omega (arith, inside, first.entered_whole))) in
    let fresh = still_left program function top start now after is (omega (arith, inside, first.entered_whole)) some of on in
    let within : top - 1 < length after.settled = omega (arith, some, high, walk.settled_whole) in
    record {
      walk = keeps_settling program after (top - 1) walk (omega (arith, some, high)) there fresh
          (on.still_entered (function_of program (top - 1)) (ap (is_marked now.entered) of ∙ entered))
          (λ later further begun own. on.still_settled later (is.done later (omega (arith, further, some)) begun (own ∙ of))) callees;
      done = λ k le begun own. elim (cases_eq k (top - 1)) [
        | inl same ↦ ap (is_marked (set after.settled (top - 1) true)) same ∙ marks_there after.settled (top - 1) within
        | inr other ↦ marks_other after.settled (top - 1) k other ∙ on.still_settled k (is.done k (omega (arith, le, other, some)) begun own)
      ];
      left = λ k below own.
          marks_other after.settled (top - 1) k (λ e. absurd (omega (arith, e, below)))
          ∙ on.others_stay k (λ none. none) (ap (is_marked now.entered) own ∙ entered) ∙ is.left k (omega (arith, below)) own;
      goes_on =
          then_on program (λ k. function_of program k ≡ function) (λ k. k ≡ top - 1) (with_entered start function) after (with_settled after (top - 1))
          (λ k e. ap (function_of program) e ∙ of)
          (then_on program (λ k. function_of program k ≡ function) (λ k. ⊥) (with_entered start function) now after (λ k none. absurd none) is.goes_on on)
          (settling_on program after (top - 1) within);
    }

-- a visit enters a function that was not entered, so fewer are left to enter
pub fewer_left : (program : List Slot) (function place : ℕ) (start now : Walk) → IsVisiting program function start now place → IsWalk program start → function < MAX_SLOTS → is_marked start.entered function ≡ false → marked start.entered < marked now.entered
fewer_left program function place start now is first lt fresh =
    let within : function < length start.entered = omega (arith, lt, first.entered_whole) in
    marked_rises start.entered now.entered function (first.entered_whole ∙ sym is.walk.entered_whole)
    (λ k e. is.goes_on.still_entered k (stays_set start.entered function within k e)) within fresh
    (is.goes_on.still_entered function (marks_there start.entered function within))

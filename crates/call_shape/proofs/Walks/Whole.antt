-- A walk over all functions settles all places.
use Rattle.std.proofs.Common.{◌≡◌, ℕ, zero, suc, ◌+◌, ◌<◌, ◌≤◌, Bool, true, false, List, [], ◌∷◌, length, take, replicate, slice_get, refl, ap, sym, subst, ◌∙◌, arith, inl, inr, length-take-le}
use Rattle.std.proofs.lemmas.Bool.{cases_eq, false≢true, eq-eqb}
use Rattle.std.proofs.lemmas.List.{length-replicate}
use Rattle.bpf_insn.specs.declared.program.Slot.{Slot}
use Rattle.bpf_insn.specs.declared.program.TheConstants.{MAX_SLOTS}
use Rattle.call_shape.specs.Calls.{begins, is_start, function_of, StandsBefore}
use Rattle.call_shape.specs.Postorder.{IsPostorder, StandOnce}
use Rattle.call_shape.specs.Walk.{is_marked, marked, IsWalk, IsOrderOf, OpenComeTo, WalkContinues}
use Rattle.call_shape.specs.declared.walk.Walk.{Walk}
use Rattle.call_shape.proofs.Places.{begins_inside}
use Rattle.call_shape.proofs.SlotFunctions.{function_before, function_starts, own_function, start_test}
use Rattle.call_shape.proofs.Marks.{marked_at_most, none_marked, no_marks}

pub starts_itself : (program : List Slot) (slot : ℕ) → function_of program slot ≡ slot → is_start program slot ≡ true
starts_itself program slot own = start_test program slot ∙ eq-eqb _ _ own

-- a walk that is done with the functions that start before a slot
pub record IsSettling (program : List Slot) (walk : Walk) (n : ℕ) : Type 0 where
  pub kept : IsWalk program walk
  pub closed : (function : ℕ) → is_marked walk.entered function ≡ true → is_marked walk.settled function ≡ true
  pub done : (function : ℕ) → function < n → is_start program function ≡ true → is_marked walk.settled function ≡ true

fresh : (program : List Slot) (walk : Walk) → walk.entered ≡ replicate MAX_SLOTS false → walk.settled ≡ replicate MAX_SLOTS false → length walk.order.places ≡ MAX_SLOTS → walk.order.count ≡ 0 → IsWalk program walk
unfolding StandOnce
fresh program walk entered settled places empty = record {
  entered_whole = ap length entered ∙ length-replicate MAX_SLOTS false;
  settled_whole = ap length settled ∙ length-replicate MAX_SLOTS false;
  places_whole = places;
  counted = empty ∙ sym (ap marked settled ∙ no_marks MAX_SLOTS);
  stands = λ place e. absurd (false≢true (sym (unsettled place) ∙ e));
  placed = λ i place lt at. absurd (omega (arith, lt, empty));
  own_entered = λ place e. absurd (false≢true (sym (unsettled place) ∙ e));
  order = record {
    begun = λ i place lt at. absurd (omega (arith, lt, empty));
    once = λ i place lt at stands. omega (arith, lt, empty);
    later_first = λ i place later lt at further there own. absurd (omega (arith, lt, empty));
    callee_first = λ i place callee lt at leads. absurd (omega (arith, lt, empty));
  };
}
  where
    unsettled : (place : ℕ) → is_marked walk.settled place ≡ false
    unsettled place = ap (λ (m : List Bool). is_marked m place) settled ∙ none_marked MAX_SLOTS place

pub settling_first : (program : List Slot) (walk : Walk) → walk.entered ≡ replicate MAX_SLOTS false → walk.settled ≡ replicate MAX_SLOTS false → length walk.order.places ≡ MAX_SLOTS → walk.order.count ≡ 0 → IsSettling program walk 0
settling_first program walk entered settled places empty = record {
  kept = fresh program walk entered settled places empty;
  closed = λ function e. absurd (false≢true (sym (ap (λ (m : List Bool). is_marked m function) entered ∙ none_marked MAX_SLOTS function) ∙ e));
  done = λ function lt starts. absurd (omega arith);
}

-- between functions none is open
pub none_open : (program : List Slot) (walk : Walk) (n function : ℕ) → IsSettling program walk n → OpenComeTo program walk function
none_open program walk n function is other e unsettled = absurd (false≢true (sym unsettled ∙ is.closed other e))

pub settling_more : (program : List Slot) (before after : Walk) (function : ℕ) → IsSettling program before function → IsWalk program after → is_marked after.settled function ≡ true → WalkContinues program (λ place. ⊥) before after → IsSettling program after (function + 1)
settling_more program before after function is walk settled on = record {
  kept = walk;
  closed = λ other e. elim (on.entered_settled other e) [
    | inl was ↦ on.still_settled other (is.closed other was)
    | inr now ↦ now
  ];
  done = λ other lt starts. elim (cases_eq other function) [
    | inl same ↦ ap (is_marked after.settled) same ∙ settled
    | inr different ↦ on.still_settled other (is.done other (omega (arith, different, lt)) starts)
  ];
}

pub settling_past : (program : List Slot) (walk : Walk) (slot : ℕ) → IsSettling program walk slot → (is_start program slot ≡ true → is_marked walk.settled slot ≡ true) → IsSettling program walk (slot + 1)
settling_past program walk slot is here = record {
  kept = is.kept;
  closed = is.closed;
  done = λ other lt starts. elim (cases_eq other slot) [
    | inl same ↦ ap (is_marked walk.settled) same ∙ here (sym (ap (is_start program) same) ∙ starts)
    | inr different ↦ is.done other (omega (arith, different, lt)) starts
  ];
}

get-take : (n i : ℕ) (xs : List ℕ) → i < n → slice_get (take n xs) i ≡ slice_get xs i
get-take zero i xs lt = absurd (omega arith)
get-take (suc n) i [] lt = refl
get-take (suc n) zero (x ∷ xs) lt = refl
get-take (suc n) (suc i) (x ∷ xs) lt = get-take n i xs (omega arith)

stands_in_front : (n i slot : ℕ) (places : List ℕ) → i ≤ n → StandsBefore places i slot → StandsBefore (take n places) i slot
stands_in_front n i slot places le stands = record {
  index = stands.index;
  before = stands.before;
  there = get-take n stands.index places (omega (arith, le, stands.before)) ∙ stands.there;
}

stood_in_front : (n i slot : ℕ) (places : List ℕ) → i ≤ n → StandsBefore (take n places) i slot → StandsBefore places i slot
stood_in_front n i slot places le stands = record {
  index = stands.index;
  before = stands.before;
  there = sym (get-take n stands.index places (omega (arith, le, stands.before))) ∙ stands.there;
}

in_front : (program : List Slot) (n : ℕ) (places : List ℕ) → IsPostorder program places n → IsPostorder program (take n places) n
unfolding StandOnce
in_front program n places order = record {
  begun = λ i place lt at. order.begun i place lt (sym (get-take n i places lt) ∙ at);
  once = λ i place lt at stands. order.once i place lt (sym (get-take n i places lt) ∙ at) (stood_in_front n i place places (omega (arith, lt)) stands);
  later_first = λ i place later lt at further there own.
      stands_in_front n i later places (omega (arith, lt)) (order.later_first i place later lt (sym (get-take n i places lt) ∙ at) further there own);
  callee_first = λ i place callee lt at leads.
      stands_in_front n i callee places (omega (arith, lt)) (order.callee_first i place callee lt (sym (get-take n i places lt) ∙ at) leads);
}

-- where all functions are settled all their places are
stands_too : (program : List Slot) (walk : Walk) (place : ℕ) → IsSettling program walk (length program) → begins program place ≡ true → StandsBefore walk.order.places walk.order.count place
stands_too program walk place is there =
    let before = function_before program place in
    let starts = function_starts program place in
    let settled = is.done (function_of program place) (omega (arith, before, begins_inside program place there)) starts in
    let stands = is.kept.stands (function_of program place) settled in
    elim (cases_eq (function_of program place) place) [
      | inl same ↦ subst (StandsBefore walk.order.places walk.order.count) same stands
      | inr other ↦
          let first = is.kept.order.later_first stands.index (function_of program place) place stands.before stands.there (omega (arith, before, other)) there (sym (own_function program (function_of program place) starts)) in
          record { index = first.index; before = omega (arith, first.before, stands.before); there = first.there }
    ]

pub settles_all : (program : List Slot) (walk : Walk) → IsSettling program walk (length program) → IsOrderOf program walk.order
settles_all program walk is =
    let count = walk.order.count in
    let fits : count ≤ MAX_SLOTS = omega (arith, is.kept.counted, marked_at_most walk.settled, is.kept.settled_whole) in
    let long : length (take count walk.order.places) ≡ count = length-take-le count walk.order.places (omega (arith, fits, is.kept.places_whole)) in
    record {
      fits = fits;
      whole = record {
        order = subst (IsPostorder program (take count walk.order.places)) (sym long) (in_front program count walk.order.places is.kept.order);
        all = λ place there.
            subst (λ (n : ℕ). StandsBefore (take count walk.order.places) n place) (sym long)
            (stands_in_front count count place walk.order.places (omega arith) (stands_too program walk place is there));
      };
    }

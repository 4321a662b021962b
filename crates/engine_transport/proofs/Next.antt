-- From the least of a queue's pairs to the CCB that the world starts next.
use Rattle.std.proofs.Common.{◌≡◌, ◌⊎◌, ℕ, suc, ◌<◌, List, [], ◌∷◌, leb, length, map, Bool, true, Some, None, inl, inr, refl, ap, sym, subst, ◌∙◌, arith}
use Rattle.std.specs.List.{find, list_all, All}
use Rattle.std.proofs.lemmas.Bool.{cases_Bool, cases_eq, and_parts, and_from, or_left, or_right, eqb-true, eq-eqb, leb-true, leb-false, lt-ltb, le-leb}
use Rattle.std.proofs.lemmas.List.{length-map}
use Rattle.std.proofs.lemmas.List.Elements.{All-nil, All-cons, All-head, All-tail, All-weaker, All-contains}
use Rattle.ccb.specs.declared.CcbId.{CcbId}
use Rattle.dev_queue.specs.declared.waiting_ccb.WaitingCcb.{WaitingCcb}
use Rattle.dev_queue.specs.Waiting.{StartsFirst, IsLeast, IsLeastNumber}
use Rattle.world.specs.declared.ccb_state.CcbState.{CcbState}
use Rattle.world.specs.declared.ccb_state.CcbState.TheVariants.{Waiting, Active, InRecovery}
use Rattle.world.specs.World.{LiveCcb}
use Rattle.world.specs.Lookups.{is_waiting, is_of, ccb_of, starts_before, next_waiting}
use Rattle.ccb.specs.Rising.{AreRising}
use Rattle.world.proofs.Lists.Found.{at_head, at_tail}
use Rattle.world.proofs.Lists.Rising.{found_bounds}
use Rattle.world.proofs.Steps.Moves.{ccb_key}
use Rattle.world.proofs.Steps.Waiting.{waiting_on, next_is}
use Rattle.engine_transport.specs.Queues.{pair_of, pairs_of, waits_on}
use Rattle.engine_transport.proofs.Pairs.{pairs_yes, pairs_no}

-- a live CCB that passes the test, and is known to its queue as this pair
record Stands (p : LiveCcb → Bool) (xs : List LiveCcb) (pair : WaitingCcb) : Type 0 where
  it : LiveCcb
  found : ccb_of it.ccb.number.0 xs ≡ Some it
  passes : p it ≡ true
  is_pair : pair_of it ≡ pair

-- each pair is that of such a CCB
all_stand : (p : LiveCcb → Bool) (low : ℕ) (xs : List LiveCcb) (high : ℕ) → AreRising low (map ccb_key xs) high → All (Stands p xs) (pairs_of p xs)
all_stand p low [] high h = All-nil (Stands p [])
all_stand p low (y ∷ ys) high h =
    let later : All (Stands p (y ∷ ys)) (pairs_of p ys) =
    All-weaker (Stands p ys) (Stands p (y ∷ ys))
    (λ (pair : WaitingCcb) (s : Stands p ys pair). record {
      it = s.it;
      found = at_tail ccb_key (ccb_key s.it) y ys (λ e. omega (arith, (found_bounds ccb_key (ccb_key y) ys high (ccb_key s.it) s.it h.1 s.found).0, e)) ∙ s.found;
      passes = s.passes;
      is_pair = s.is_pair;
    }) (pairs_of p ys) (all_stand p (ccb_key y) ys high h.1) in
    elim (cases_Bool (p y)) [
      | inl one ↦
          let first : Stands p (y ∷ ys) (pair_of y) = record { it = y; found = at_head ccb_key (ccb_key y) y ys refl; passes = one; is_pair = refl } in
          subst (All (Stands p (y ∷ ys))) (sym (pairs_yes p y ys one)) (All-cons (Stands p (y ∷ ys)) (pair_of y) (pairs_of p ys) first later)
      | inr none ↦ subst (All (Stands p (y ∷ ys))) (sym (pairs_no p y ys none)) later
    ]

-- what starts first as a pair starts before the other
before : (it other : LiveCcb) → StartsFirst (pair_of it) (pair_of other) → starts_before it other ≡ true
before it other first =
    elim (cases_eq it.ccb.priority other.ccb.priority) [
      | inl same ↦ or_right _ _ (and_from _ _ (eq-eqb _ _ same) (le-leb _ _ (first.1 same)))
      | inr apart ↦ or_left _ _ (lt-ltb it.ccb.priority other.ccb.priority (omega (arith, first.0, apart)))
    ]

all_before : (it : LiveCcb) (those : List LiveCcb) → All (StartsFirst (pair_of it)) (map pair_of those) → list_all (starts_before it) those ≡ true
all_before it [] h = refl
all_before it (y ∷ ys) h =
    and_from _ _ (before it y (All-head (StartsFirst (pair_of it)) (pair_of y) (map pair_of ys) h))
    (all_before it ys (All-tail (StartsFirst (pair_of it)) (pair_of y) (map pair_of ys) h))

waiting_is : (s : CcbState) → is_waiting s ≡ true → s ≡ Waiting
waiting_is Waiting e = refl
waiting_is Active e = cc
waiting_is InRecovery e = cc

-- the CCB that starts: it is of the queue, waits, and is found by its number
pub record Starts (queue : ℕ) (ccbs : List LiveCcb) (number : CcbId) : Type 0 where
  pub it : LiveCcb
  pub next : next_waiting queue ccbs ≡ Some it
  pub found : ccb_of number.0 ccbs ≡ Some it
  pub number_is : it.ccb.number ≡ number
  pub queue_is : it.ccb.queue.0 ≡ queue
  pub state_is : it.state ≡ Waiting

pub least_starts : (queue : ℕ) (ccbs : List LiveCcb) (high : ℕ) (number : CcbId) → AreRising 0 (map ccb_key ccbs) high → IsLeastNumber (pairs_of (waits_on queue) ccbs) number → Starts queue ccbs number
least_starts queue ccbs high number rising least =
    let pair : WaitingCcb = record { priority = least.0; number = number } in
    let one = All-contains (Stands (waits_on queue) ccbs) (pairs_of (waits_on queue) ccbs) pair (all_stand (waits_on queue) 0 ccbs high rising) least.1.waits in
    let number_is : one.it.ccb.number ≡ number = ap (λ (w : WaitingCcb). w.number) one.is_pair in
    let first = subst (λ (w : WaitingCcb). All (StartsFirst w) (pairs_of (waits_on queue) ccbs)) (sym one.is_pair) least.1.first in
    let parts = and_parts (is_of queue one.it) (is_waiting one.it.state) one.passes in
    record {
      it = one.it;
      next = next_is queue ccbs high one.it rising one.found one.passes (all_before one.it (waiting_on queue ccbs) first);
      found = subst (λ (n : CcbId). ccb_of n.0 ccbs ≡ Some one.it) number_is one.found;
      number_is = number_is;
      queue_is = eqb-true _ _ parts.0;
      state_is = waiting_is one.it.state parts.1;
    }

nothing : (those : List LiveCcb) → length those ≡ 0 → find (λ (live : LiveCcb). list_all (starts_before live) those) those ≡ None
nothing [] e = refl
nothing (y ∷ ys) e = absurd (omega (arith, e))

-- where no pair waits none starts
pub none_starts : (queue : ℕ) (ccbs : List LiveCcb) → length (pairs_of (waits_on queue) ccbs) ≡ 0 → next_waiting queue ccbs ≡ None
none_starts queue ccbs e = nothing (waiting_on queue ccbs) (sym (length-map (waiting_on queue ccbs) pair_of) ∙ e)

-- of two pairs one starts first, and what starts before the first starts before the other
one_first : (a b : WaitingCcb) → StartsFirst a b ⊎ StartsFirst b a
one_first a b =
    elim (cases_Bool (leb a.priority b.priority)) [
      | inr above ↦ let below = leb-false _ _ above in inr (omega (arith, below), λ same. absurd (omega (arith, below, same)))
      | inl no_more ↦
          let most = leb-true _ _ no_more in
          elim (cases_eq a.priority b.priority) [
            | inr apart ↦ inl (most, λ same. absurd (apart same))
            | inl same ↦
                elim (cases_Bool (leb a.number.0 b.number.0)) [
                  | inl first ↦ inl (most, λ e. leb-true _ _ first)
                  | inr later ↦ let below = leb-false _ _ later in inr (omega (arith, same), λ e. omega (arith, below))
                ]
          ]
    ]

first_of_all : (a b c : WaitingCcb) → StartsFirst a b → StartsFirst b c → StartsFirst a c
first_of_all a b c first second =
    (omega (arith, first.0, second.0), λ same. omega (arith, first.1 (omega (arith, first.0, second.0, same)), second.1 (omega (arith, first.0, second.0, same))))

some_least : (pair : WaitingCcb) (pairs : List WaitingCcb) → (least : WaitingCcb) × IsLeast (pair ∷ pairs) least
some_least x [] = (x, record { waits = (0, omega arith, refl); first = All-cons (StartsFirst x) x [] (omega arith, λ e. omega arith) (All-nil (StartsFirst x)) })
some_least x (y ∷ ys) =
    let later = some_least y ys in
    elim (one_first x later.0) [
      | inl first ↦ (
        x,
        record {
          waits = (0, omega arith, refl);
          first = All-cons (StartsFirst x) x (y ∷ ys) (omega arith, λ e. omega arith) (All-weaker (StartsFirst later.0) (StartsFirst x) (λ (p : WaitingCcb) (h : StartsFirst later.0 p). first_of_all x later.0 p first h) (y ∷ ys) later.1.first);
        },
      )
      | inr other ↦ (
        later.0,
        record {
          waits = (suc later.1.waits.0, omega (arith, later.1.waits.1), later.1.waits.2);
          first = All-cons (StartsFirst later.0) x (y ∷ ys) other later.1.first;
        },
      )
    ]

has_least : (pairs : List WaitingCcb) → 0 < length pairs → (least : WaitingCcb) × IsLeast pairs least
has_least [] some = absurd (omega (arith, some))
has_least (x ∷ xs) some = some_least x xs

-- and where some wait one starts
pub some_starts : (queue : ℕ) (ccbs : List LiveCcb) (high : ℕ) → AreRising 0 (map ccb_key ccbs) high → 0 < length (pairs_of (waits_on queue) ccbs) → (it : LiveCcb) × (next_waiting queue ccbs ≡ Some it)
some_starts queue ccbs high rising some =
    let least = has_least (pairs_of (waits_on queue) ccbs) some in
    let starts = least_starts queue ccbs high least.0.number rising (least.0.priority, least.1) in
    (starts.it, starts.next)

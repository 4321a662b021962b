-- The freezes of all places, one after the other by their numbers, are the list of freezes.
use Rattle.std.proofs.Common.{◌≡◌, ℕ, zero, suc, ◌+◌, ◌*◌, ◌<◌, ◌≤◌, List, [], ◌∷◌, length, map, Bool, true, false, cond, ◌&&◌, eqb, get_or, ltb, leb, Option, Some, None, inl, inr, refl, ap, sym, subst, ◌∙◌, arith}
use Rattle.std.specs.Prelude.{All, ◌||◌}
use Rattle.std.specs.List.{filter, find}
use Rattle.std.proofs.lemmas.Bool.{and_left, cases_Bool, cond-false, cond-true, eq-eqb, eqb-true, le-leb, le-ltb, leb-false, lt-leb, lt-ltb, ltb-true, ltb-false, ne_eqb}
use Rattle.std.proofs.lemmas.List.Elements.{All-head, All-tail}
use Rattle.ccb.specs.Places.{device, index_of}
use Rattle.ccb.specs.Rising.{AreRising}
use Rattle.ccb.specs.declared.place.Place.{Place}
use Rattle.ccb.specs.declared.place.Place.TheVariants.{Controller, Device}
use Rattle.freeze_ledger.specs.declared.freeze.Freeze.{Freeze}
use Rattle.freeze_ledger.specs.declared.freeze.Holder.{Holder}
use Rattle.freeze_ledger.specs.Freezes.{holders_of, names}
use Rattle.world.specs.Refusals.{is_unknown}
use Rattle.world.specs.World.{Setup, queue_count}
use Rattle.engine_carried.proofs.Free.{same_place}
use Rattle.engine_carried.specs.FreezeAbove.{controllers_above, freeze_above, holder_above, lesser, number_before, place_above, queues_above}

abbrev number : Freeze → ℕ
number f = f.number

-- ---- the lesser of two that were found is found by either test

-- no element of a list whose numbers are above this one has a lesser number
found_above : (test : Freeze → Bool) (low : ℕ) (fs : List Freeze) (high : ℕ) → AreRising low (map number fs) high → (f : Freeze) → find test fs ≡ Some f → low < f.number
found_above test low [] high rising f found = absurd (let bad : None ≡ Some f = found in cc)
found_above test low (g ∷ fs) high rising f found =
    elim (cases_Bool (test g)) [
      | inl passes ↦
          let both : Some g ≡ Some f = sym (cond-true (test g) (Some g) (find test fs) passes) ∙ found in
          let is : g ≡ f = cc in subst (λ (x : Freeze). low < x.number) is rising.0
      | inr fails ↦
          let after = found_above test g.number fs high rising.1 f (sym (cond-false (test g) (Some g) (find test fs) fails) ∙ found) in
          omega (arith, after, rising.0)
    ]

lesser_none : (one : Option Freeze) → lesser one None ≡ one
lesser_none None = refl
lesser_none (Some one) = refl

-- what is found from an element on has no lesser number than that
found_from : (test : Freeze → Bool) (g : Freeze) (fs : List Freeze) (high : ℕ) → AreRising g.number (map number fs) high → (f : Freeze) → find test (g ∷ fs) ≡ Some f → g.number ≤ f.number
found_from test g fs high rising f found =
    elim (cases_Bool (test g)) [
      | inl passes ↦
          let both : Some g ≡ Some f = sym (cond-true (test g) (Some g) (find test fs) passes) ∙ found in
          let is : g ≡ f = cc in subst (λ (x : Freeze). g.number ≤ x.number) is (omega arith)
      | inr fails ↦
          let after = found_above test g.number fs high rising f (sym (cond-false (test g) (Some g) (find test fs) fails) ∙ found) in
          omega (arith, after)
    ]

lesser_first : (g : Freeze) (other : Option Freeze) → ((f : Freeze) → other ≡ Some f → g.number ≤ f.number) → lesser (Some g) other ≡ Some g
lesser_first g None after = refl
lesser_first g (Some f) after = cond-true (leb g.number f.number) (Some g) (Some f) (le-leb _ _ (after f refl))

lesser_second : (g : Freeze) (one : Option Freeze) → ((f : Freeze) → one ≡ Some f → g.number < f.number) → lesser one (Some g) ≡ Some g
lesser_second g None after = refl
lesser_second g (Some f) after = cond-false (leb f.number g.number) (Some f) (Some g) (lt-leb _ _ (after f refl))

lesser_found : (p q : Freeze → Bool) (low : ℕ) (fs : List Freeze) (high : ℕ) → AreRising low (map number fs) high → lesser (find p fs) (find q fs) ≡ find (λ f. p f || q f) fs
lesser_found p q low [] high rising = refl
lesser_found p q low (g ∷ fs) high rising =
    elim (cases_Bool (p g)) [
      | inl yes-p ↦
          let either : (p g || q g) ≡ true = rw yes-p refl in
          ap (λ (o : Option Freeze). lesser o (find q (g ∷ fs))) (cond-true (p g) (Some g) (find p fs) yes-p)
          ∙ (lesser_first g (find q (g ∷ fs)) (found_from q g fs high rising.1) ∙ sym (cond-true (p g || q g) (Some g) (find (λ f. p f || q f) fs) either))
      | inr no-p ↦
          let p-rest : find p (g ∷ fs) ≡ find p fs = cond-false (p g) (Some g) (find p fs) no-p in
          elim (cases_Bool (q g)) [
            | inl yes-q ↦
                let either : (p g || q g) ≡ true = rw no-p yes-q in
                ap (λ (o : Option Freeze). lesser o (find q (g ∷ fs))) p-rest
                ∙ (ap (lesser (find p fs)) (cond-true (q g) (Some g) (find q fs) yes-q)
                ∙ (lesser_second g (find p fs) (found_above p g.number fs high rising.1) ∙ sym (cond-true (p g || q g) (Some g) (find (λ f. p f || q f) fs) either)))
            | inr no-q ↦
                let neither : (p g || q g) ≡ false = rw no-p no-q in
                ap (λ (o : Option Freeze). lesser o (find q (g ∷ fs))) p-rest
                ∙ (ap (lesser (find p fs)) (cond-false (q g) (Some g) (find q fs) no-q)
                ∙ (lesser_found p q g.number fs high rising.1 ∙ sym (cond-false (p g || q g) (Some g) (find (λ f. p f || q f) fs) neither)))
          ]
    ]

-- ---- tests that agree find the same

find_agree : (p q : Freeze → Bool) (fs : List Freeze) → All (λ f. p f ≡ q f) fs → find p fs ≡ find q fs
find_agree p q [] all = refl
find_agree p q (g ∷ fs) all =
    let here : p g ≡ q g = All-head (λ f. p f ≡ q f) g fs all in
    ap (λ (b : Bool). cond {A = Option Freeze} b (Some g) (find p fs)) here
    ∙ ap (cond {A = Option Freeze} (q g) (Some g)) (find_agree p q fs (All-tail (λ f. p f ≡ q f) g fs all))

find_none : (p : Freeze → Bool) (fs : List Freeze) → ((f : Freeze) → p f ≡ false) → find p fs ≡ None
find_none p [] none = refl
find_none p (g ∷ fs) none = cond-false (p g) (Some g) (find p fs) (none g) ∙ find_none p fs none

-- ---- the freezes of so many queues, and of so many controllers

abbrev queue_below : ℕ → Place → Bool
queue_below count (Device queue) = ltb queue.0 count
queue_below count (Controller controller) = false

abbrev controller_below : ℕ → Place → Bool
controller_below count (Device queue) = false
controller_below count (Controller controller) = ltb controller count

no_queue_below : (place : Place) → queue_below 0 place ≡ false
no_queue_below (Device queue) = le-ltb queue.0 0 (omega arith)
no_queue_below (Controller controller) = refl

no_controller_below : (place : Place) → controller_below 0 place ≡ false
no_controller_below (Device queue) = refl
no_controller_below (Controller controller) = le-ltb controller 0 (omega arith)

ne_true : (a b : ℕ) → a ≡ b → eqb a b ≡ false → ⊥
ne_true a b same apart = let bad : true ≡ false = sym (eq-eqb a b same) ∙ apart in cc

-- a number is below the next one exactly if it is below this one, or is it
ltb_next : (k n a b : ℕ) → a ≡ b + (2 * k) → (m : ℕ) → m ≡ b + (2 * n) → ltb k (suc n) ≡ (ltb k n || eqb a m)
ltb_next k n a b a-is m m-is =
    elim (cases_Bool (ltb k n)) [
      | inl below ↦ rw below (lt-ltb _ _ (let lt = ltb-true _ _ below in omega arith))
      | inr above ↦
          elim (cases_Bool (eqb a m)) [
            | inl same ↦ rw (above, same) (lt-ltb _ _ (let e = eqb-true _ _ same in omega (arith, e, a-is, m-is)))
            | inr apart ↦ rw (above, apart) (le-ltb _ _ (let at_least = ltb-false _ _ above in let other : k ≡ n → ⊥ = λ same. ne_true a m (omega (arith, same, a-is, m-is)) apart in omega (arith, at_least, other)))
          ]
    ]

queue_next : (n : ℕ) (place : Place) → queue_below (suc n) place ≡ (queue_below n place || eqb (index_of place) (index_of (device n)))
queue_next n (Device queue) = ltb_next queue.0 n (2 * queue.0) 0 (omega arith) (2 * n) (omega arith)
queue_next n (Controller controller) = sym (ne_eqb _ _ (λ same. omega (arith, same)))

controller_next : (n : ℕ) (place : Place) → controller_below (suc n) place ≡ (controller_below n place || eqb (index_of place) (index_of (Controller n)))
controller_next n (Device queue) = sym (ne_eqb _ _ (λ same. omega (arith, same)))
controller_next n (Controller controller) = ltb_next controller n (2 * controller + 1) 1 (omega arith) (2 * n + 1) (omega arith)

-- what passes either, and this too
either_and : (a b c : Bool) → ((a && c) || (b && c)) ≡ ((a || b) && c)
either_and true true c = by c
  where
    by : (d : Bool) → (d || d) ≡ d
    by true = refl
    by false = refl
either_and true false true = refl
either_and true false false = refl
either_and false b c = refl

queues_are : (count after : ℕ) (fs : List Freeze) (high : ℕ) → AreRising 0 (map number fs) high → queues_above count after fs ≡ find (λ f. queue_below count f.place && ltb after f.number) fs
queues_are zero after fs high rising = sym (find_none (λ f. queue_below 0 f.place && ltb after f.number) fs (λ f. and_left _ _ (no_queue_below f.place)))
queues_are (suc n) after fs high rising =
    ap (λ (o : Option Freeze). lesser o (place_above (device n) after fs)) (queues_are n after fs high rising)
    ∙ (lesser_found (λ f. queue_below n f.place && ltb after f.number) (λ f. names (device n) f && ltb after f.number) 0 fs high rising
    ∙ find_agree (λ f. (queue_below n f.place && ltb after f.number) || (names (device n) f && ltb after f.number)) (λ f. queue_below (suc n) f.place && ltb after f.number) fs
    (λ k d below. let f = get_or fs k d in either_and (queue_below n f.place) (names (device n) f) (ltb after f.number) ∙ ap (λ (b : Bool). b && ltb after f.number) (sym (queue_next n f.place))))

controllers_are : (count after : ℕ) (fs : List Freeze) (high : ℕ) → AreRising 0 (map number fs) high → controllers_above count after fs ≡ find (λ f. controller_below count f.place && ltb after f.number) fs
controllers_are zero after fs high rising = sym (find_none (λ f. controller_below 0 f.place && ltb after f.number) fs (λ f. and_left _ _ (no_controller_below f.place)))
controllers_are (suc n) after fs high rising =
    ap (λ (o : Option Freeze). lesser o (place_above (Controller n) after fs)) (controllers_are n after fs high rising)
    ∙ (lesser_found (λ f. controller_below n f.place && ltb after f.number) (λ f. names (Controller n) f && ltb after f.number) 0 fs high rising
    ∙ find_agree (λ f. (controller_below n f.place && ltb after f.number) || (names (Controller n) f && ltb after f.number)) (λ f. controller_below (suc n) f.place && ltb after f.number) fs
    (λ k d below. let f = get_or fs k d in either_and (controller_below n f.place) (names (Controller n) f) (ltb after f.number) ∙ ap (λ (b : Bool). b && ltb after f.number) (sym (controller_next n f.place))))

-- a place that is there is one of the queues or of the controllers
place_below : (setup : Setup) (place : Place) → is_unknown setup place ≡ false → (queue_below (queue_count setup) place || controller_below setup.controllers place) ≡ true
place_below setup (Device queue) there = let below : ltb queue.0 (queue_count setup) ≡ true = lt-ltb _ _ (leb-false _ _ there) in rw below refl
place_below setup (Controller controller) there = lt-ltb _ _ (leb-false _ _ there)

pub above_is : (setup : Setup) (after : ℕ) (fs : List Freeze) (high : ℕ) → AreRising 0 (map number fs) high → All (λ f. is_unknown setup f.place ≡ false) fs → lesser (queues_above (queue_count setup) after fs) (controllers_above setup.controllers after fs) ≡ freeze_above after fs
above_is setup after fs high rising known =
    ap (λ (o : Option Freeze). lesser o (controllers_above setup.controllers after fs)) (queues_are (queue_count setup) after fs high rising)
    ∙ (ap (lesser (find (λ f. queue_below (queue_count setup) f.place && ltb after f.number) fs)) (controllers_are setup.controllers after fs high rising)
    ∙ (lesser_found (λ f. queue_below (queue_count setup) f.place && ltb after f.number) (λ f. controller_below setup.controllers f.place && ltb after f.number) 0 fs high rising
    ∙ find_agree (λ f. (queue_below (queue_count setup) f.place && ltb after f.number) || (controller_below setup.controllers f.place && ltb after f.number)) (λ f. ltb after f.number) fs
    (λ k d below. let f = get_or fs k d in
    either_and (queue_below (queue_count setup) f.place) (controller_below setup.controllers f.place) (ltb after f.number)
    ∙ ap (λ (b : Bool). b && ltb after f.number) (place_below setup f.place (known k d below)))))

-- ---- what a place lists

pub place_lists : (place : Place) (after : ℕ) (fs : List Freeze) → holder_above place after (holders_of place fs) ≡ place_above place after fs
place_lists place after [] = refl
place_lists place after (f ∷ fs) =
    let pair : Freeze → ℕ × Holder = λ freeze. (freeze.number, freeze.holder) in
    elim (cases_Bool (names place f)) [
      | inl named ↦
          let is : f.place ≡ place = same_place f.place place (eqb-true _ _ named) in
          let one : Some (record { number = f.number; place = place; holder = f.holder }) ≡ Some f = subst (λ (p : Place). Some (record { number = f.number; place = p; holder = f.holder }) ≡ Some f) is refl in
          ap (λ (gs : List Freeze). holder_above place after (map pair gs)) (cond-true (names place f) (f ∷ filter (names place) fs) (filter (names place) fs) named)
          ∙ (ap (λ (o : Option Freeze). cond {A = Option Freeze} (ltb after f.number) o (holder_above place after (holders_of place fs))) one
          ∙ (ap (cond {A = Option Freeze} (ltb after f.number) (Some f)) (place_lists place after fs)
          ∙ ap (λ (b : Bool). cond {A = Option Freeze} (b && ltb after f.number) (Some f) (place_above place after fs)) (sym named)))
      | inr other ↦
          ap (λ (gs : List Freeze). holder_above place after (map pair gs)) (cond-false (names place f) (f ∷ filter (names place) fs) (filter (names place) fs) other)
          ∙ (place_lists place after fs ∙ sym (cond-false (names place f && ltb after f.number) (Some f) (place_above place after fs) (and_left _ _ other)))
    ]

-- ---- one after the other

least_before : (low : ℕ) (fs : List Freeze) (high : ℕ) → AreRising low (map number fs) high → (k : ℕ) → k ≤ length fs → low ≤ get_or (low ∷ map number fs) k 0
least_before low fs high rising zero within = omega arith
least_before low [] high rising (suc k) within = absurd (omega (arith, within))
least_before low (f ∷ fs) high rising (suc k) within = let more = least_before f.number fs high rising.1 k (omega (arith, within)) in omega (arith, more, rising.0)

above_next : (low : ℕ) (fs : List Freeze) (high : ℕ) → AreRising low (map number fs) high → (k : ℕ) (d : Freeze) → k < length fs → freeze_above (get_or (low ∷ map number fs) k 0) fs ≡ Some (get_or fs k d)
above_next low [] high rising k d within = absurd (omega (arith, within))
above_next low (f ∷ fs) high rising zero d within = cond-true (ltb low f.number) (Some f) (freeze_above low fs) (lt-ltb _ _ rising.0)
above_next low (f ∷ fs) high rising (suc k) d within =
    let below : k < length fs = omega (arith, within) in
    let after = get_or (f.number ∷ map number fs) k 0 in
    let least : f.number ≤ after = least_before f.number fs high rising.1 k (omega (arith, below)) in
    cond-false (ltb after f.number) (Some f) (freeze_above after fs) (le-ltb _ _ least) ∙ above_next f.number fs high rising.1 k d below

-- after each freeze comes the one at the next place
pub next_is : (fs : List Freeze) (high : ℕ) → AreRising 0 (map number fs) high → (k : ℕ) (d : Freeze) → k < length fs → freeze_above (number_before k fs) fs ≡ Some (get_or fs k d)
next_is fs high rising k d within = above_next 0 fs high rising k d within

pub next_found : (fs : List Freeze) (high : ℕ) → AreRising 0 (map number fs) high → (k last : ℕ) (d : Freeze) → k < length fs → last ≡ number_before k fs → (found : Option Freeze) → found ≡ freeze_above last fs → found ≡ Some (get_or fs k d)
next_found fs high rising k last d within after found is = is ∙ (ap (λ (n : ℕ). freeze_above n fs) after ∙ next_is fs high rising k d within)

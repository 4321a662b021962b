-- What is left fits a configuration exactly if nothing is left of the queues and controllers after its last.
use Rattle.std.proofs.Common.{◌≡◌, ℕ, ◌+◌, ◌<◌, ◌≤◌, List, [], ◌∷◌, length, Bool, true, false, cond, ◌&&◌, get_or, leb, inl, inr, refl, ap, sym, subst, ◌∙◌, arith}
use Rattle.std.specs.Prelude.{All, ◌↔◌}
use Rattle.std.specs.List.{count_by}
use Rattle.std.proofs.lemmas.Bool.{and_from, and_left, cases_Bool, cases_eq, eq-eqb, eqb-true, le-leb, leb-false, leb-true, ne_eqb}
use Rattle.std.proofs.lemmas.List.{get_or_default}
use Rattle.std.proofs.lemmas.List.Elements.{All-cons, All-head, All-nil, All-tail}
use Rattle.std.proofs.lemmas.List.Sums.{sum_by-cons}
use Rattle.ccb.specs.Places.{device, index_of}
use Rattle.ccb.specs.declared.ccb.Ccb.{Ccb}
use Rattle.ccb.specs.declared.place.Place.{Place}
use Rattle.ccb.specs.declared.place.Place.TheVariants.{Controller, Device}
use Rattle.freeze_ledger.specs.declared.freeze.Freeze.{Freeze}
use Rattle.freeze_ledger.specs.Freezes.{frozen, names}
use Rattle.world.specs.Beginning.{IsBeginning, IsCarriedCcb}
use Rattle.world.specs.Limits.{IsPlain}
use Rattle.world.specs.Lookups.{active_count, is_active, is_of, is_waiting, waiting_count}
use Rattle.world.specs.Refusals.{is_unknown}
use Rattle.world.specs.World.{LiveCcb, Setup, Transport, World, has_classes, queue_count}
use Rattle.world.specs.Flat.{flat}
use Rattle.engine_core.specs.EngineState.{EngineState, IsRun}
use Rattle.engine_carried.proofs.Leaving.{leaves_a_beginning}
use Rattle.engine_carried.specs.Leaving.{left_by}
use Rattle.engine_carried.specs.Left.{ControllersAreFree, QueuesAreFree}
use Rattle.engine_carried.specs.TakenOver.{Fits}

-- of what is counted there is none exactly if no element passes
module _ {X : Type 0} (test : X → Bool) where
  count_cons : (x : X) (xs : List X) → count_by test (x ∷ xs) ≡ cond {A = ℕ} (test x) 1 0 + count_by test xs
  count_cons x xs = sum_by-cons (λ y. cond (test y) 1 0) x xs

  none_counted : (xs : List X) → count_by test xs ≡ 0 → All (λ x. test x ≡ false) xs
  none_counted [] none = All-nil (λ x. test x ≡ false)
  none_counted (x ∷ xs) none =
      elim (cases_Bool (test x)) [
        | inl passes ↦
            let one : cond {A = ℕ} (test x) 1 0 ≡ 1 = rw passes refl in
            absurd (omega (arith, one, none, count_cons x xs))
        | inr fails ↦ All-cons (λ x. test x ≡ false) x xs fails (none_counted xs (omega (arith, none, count_cons x xs)))
      ]

  all_fail : (xs : List X) → All (λ x. test x ≡ false) xs → count_by test xs ≡ 0
  all_fail [] all = refl
  all_fail (x ∷ xs) all =
      let none : cond {A = ℕ} (test x) 1 0 ≡ 0 = rw (All-head (λ x. test x ≡ false) x xs all) refl in
      let more = all_fail xs (All-tail (λ x. test x ≡ false) x xs all) in
      omega (arith, none, more, count_cons x xs)

-- two places of one number are one
pub same_place : (a b : Place) → index_of a ≡ index_of b → a ≡ b
same_place (Device q) (Device r) same = let e : q.0 ≡ r.0 = omega (arith, same) in ap device e
same_place (Device q) (Controller d) same = absurd (omega (arith, same))
same_place (Controller c) (Device r) same = absurd (omega (arith, same))
same_place (Controller c) (Controller d) same = let e : c ≡ d = omega (arith, same) in ap Controller e

-- ---- places that are not the configuration's

-- a free place is named by no freeze
place_names : (place : Place) (f : Freeze) → f.place ≡ place → names place f ≡ true
place_names place f same = eq-eqb (index_of f.place) (index_of place) (ap index_of same)

abbrev IsThere : Setup → Freeze → Type 0
IsThere setup f = is_unknown setup f.place ≡ false

freeze_fits : (old new : Setup) (world : World) → QueuesAreFree world.transport (queue_count new) (queue_count old) → ControllersAreFree world.transport new.controllers old.controllers
    → (f : Freeze) → IsThere old f → ((place : Place) → frozen place world.transport.freezes ≡ 0 → names place f ≡ false) → IsThere new f
freeze_fits old new world queues controllers f was none = by f.place refl was
  where
    by : (place : Place) → f.place ≡ place → is_unknown old place ≡ false → is_unknown new f.place ≡ false
    by (Device queue) is there =
        elim (cases_Bool (leb (queue_count new) queue.0)) [
          | inl after ↦
              let free = queues queue.0 (leb-false _ _ there) (leb-true _ _ after) in
              absurd (let bad : true ≡ false = sym (place_names (Device queue) f is) ∙ none (Device queue) free.0 in cc)
          | inr before ↦ ap (is_unknown new) is ∙ before
        ]
    by (Controller controller) is there =
        elim (cases_Bool (leb new.controllers controller)) [
          | inl after ↦
              let free = controllers controller (leb-false _ _ there) (leb-true _ _ after) in
              absurd (let bad : true ≡ false = sym (place_names (Controller controller) f is) ∙ none (Controller controller) free in cc)
          | inr before ↦ ap (is_unknown new) is ∙ before
        ]

-- a CCB that waits or is active is counted
ccb_fits : (old new : Setup) (world : World) → QueuesAreFree world.transport (queue_count new) (queue_count old)
    → (live : LiveCcb) → IsCarriedCcb live → live.ccb.queue.0 < queue_count old
    → ((queue : ℕ) → active_count queue world.transport.live ≡ 0 → (is_of queue live && is_active live.state) ≡ false)
    → ((queue : ℕ) → waiting_count queue world.transport.live ≡ 0 → (is_of queue live && is_waiting live.state) ≡ false)
    → live.ccb.queue.0 < queue_count new
ccb_fits old new world queues live carried below active waiting =
    let queue = live.ccb.queue.0 in
    let own : is_of queue live ≡ true = eq-eqb queue queue refl in
    elim (cases_Bool (leb (queue_count new) queue)) [
      | inl after ↦
          let free = queues queue below (leb-true _ _ after) in
          elim carried.state [
            | inl waits ↦ absurd (let bad : true ≡ false = sym (and_from _ _ own (ap is_waiting waits)) ∙ waiting queue free.2 in cc)
            | inr acts ↦ absurd (let bad : true ≡ false = sym (and_from _ _ own (ap is_active acts)) ∙ active queue free.1 in cc)
          ]
      | inr before ↦ leb-false _ _ before
    ]

pub fits_is : (old new : Setup) (world : World) → IsBeginning old (left_by world) → QueuesAreFree world.transport (queue_count new) (queue_count old) → ControllersAreFree world.transport new.controllers old.controllers → (has_classes new ≡ false → All IsPlain world.transport.live) → Fits new world
fits_is old new world begins queues controllers plain = record {
  ccbs = λ k d below. ccb_fits old new world queues (get_or world.transport.live k d) (begins.ccbs k d below) (begins.limits.ccbs.queues k d below)
      (λ queue none. none_counted (λ live. is_of queue live && is_active live.state) world.transport.live none k d below)
      (λ queue none. none_counted (λ live. is_of queue live && is_waiting live.state) world.transport.live none k d below);
  freezes = λ k d below. freeze_fits old new world queues controllers (get_or world.transport.freezes k d) (begins.freezes k d below).place
      (λ place none. none_counted (names place) world.transport.freezes none k d below);
  plain = plain;
}

-- ---- what fits leaves the others free

-- a freeze of a place that is there names no other
names_other : (setup : Setup) (place : Place) (f : Freeze) → IsThere setup f → is_unknown setup place ≡ true → names place f ≡ false
names_other setup place f there gone =
    elim (cases_Bool (names place f)) [
      | inl named ↦ absurd (let bad : true ≡ false = sym gone ∙ (ap (is_unknown setup) (sym (same_place f.place place (eqb-true _ _ named))) ∙ there) in cc)
      | inr other ↦ other
    ]

-- a CCB that is there is of no other queue
of_other : (new : Setup) (world : World) → Fits new world → (queue : ℕ) → queue_count new ≤ queue → (k : ℕ) (d : LiveCcb) → k < length world.transport.live → is_of queue (get_or world.transport.live k d) ≡ false
of_other new world fits queue from k d within =
    let live = get_or world.transport.live k d in
    let own : live.ccb.queue.0 < queue_count new = fits.ccbs k d within in
    ne_eqb live.ccb.queue.0 queue (λ same. omega (arith, same, from, own))

pub free_by : (old new : Setup) (world : World) → Fits new world → QueuesAreFree world.transport (queue_count new) (queue_count old) × ControllersAreFree world.transport new.controllers old.controllers
free_by old new world fits = (
  λ queue below from. (
    all_fail (names (device queue)) world.transport.freezes (λ k d within. names_other new (device queue) (get_or world.transport.freezes k d) (fits.freezes k d within) (le-leb _ _ from)),
    all_fail (λ live. is_of queue live && is_active live.state) world.transport.live (λ k d within. and_left (is_of queue (get_or world.transport.live k d)) (is_active (get_or world.transport.live k d).state) (of_other new world fits queue from k d within)),
    all_fail (λ live. is_of queue live && is_waiting live.state) world.transport.live (λ k d within. and_left (is_of queue (get_or world.transport.live k d)) (is_waiting (get_or world.transport.live k d).state) (of_other new world fits queue from k d within)),
  ),
  λ controller below from.
      all_fail (names (Controller controller)) world.transport.freezes (λ k d within. names_other new (Controller controller) (get_or world.transport.freezes k d) (fits.freezes k d within) (le-leb _ _ from)),
)

-- ---- CCBs without a class and an advice

-- the CCB at a place, of those of which none has a class or an advice so far
pub plain_here : (live : List LiveCcb) (place : ℕ) (it : LiveCcb) (ccb : Ccb) → place < length live → it ≡ get_or live place it → ccb ≡ it.ccb → (ccb.class ≡ 0) × (ccb.advice ≡ 0) → (d : LiveCcb) → IsPlain (get_or live place d)
plain_here live place it ccb below is ccb_is none d =
    let plain : IsPlain it = subst (λ (x : Ccb). (x.class ≡ 0) × (x.advice ≡ 0)) ccb_is none in
    subst IsPlain (is ∙ get_or_default live place it d below) plain

pub is_plain_here : (live : List LiveCcb) (place : ℕ) (it : LiveCcb) (ccb : Ccb) → it ≡ get_or live place it → ccb ≡ it.ccb → IsPlain (get_or live place it) → (ccb.class ≡ 0) × (ccb.advice ≡ 0)
is_plain_here live place it ccb is ccb_is plain =
    let here : IsPlain it = subst IsPlain (sym is) plain in
    subst (λ (x : Ccb). (x.class ≡ 0) × (x.advice ≡ 0)) (sym ccb_is) here

pub plain_more : (live : List LiveCcb) (place : ℕ) → ((k : ℕ) (d : LiveCcb) → k < place → IsPlain (get_or live k d)) → ((d : LiveCcb) → IsPlain (get_or live place d)) → (k : ℕ) (d : LiveCcb) → k < place + 1 → IsPlain (get_or live k d)
plain_more live place so here k d below = elim (cases_eq k place) [
  | inl same ↦ subst (λ (n : ℕ). IsPlain (get_or live n d)) (sym same) (here d)
  | inr apart ↦ so k d (omega (arith, below, apart))
]

-- ---- an engine without a live run

pub left_begins : (state : EngineState) → IsRun state → state.world.runs.list ≡ [] → IsBeginning state.setup (left_by state.world)
left_begins state run none = leaves_a_beginning state.setup run.lawful (flat state.history) state.world run.run none

pub fits_both : (old new : Setup) (world : World) (transport : Transport) (from to first end : ℕ) → IsBeginning old (left_by world) → transport ≡ world.transport
    → from ≡ queue_count new → to ≡ queue_count old → first ≡ new.controllers → end ≡ old.controllers
    → ((QueuesAreFree transport from to × ControllersAreFree transport first end) × (has_classes new ≡ false → All IsPlain transport.live)) ↔ Fits new world
fits_both old new world transport from to first end begins is from-is to-is first-is end-is = (
  λ free. fits_is old new world begins (rw (← is, ← from-is, ← to-is) free.0.0) (rw (← is, ← first-is, ← end-is) free.0.1) (subst (λ (t : Transport). has_classes new ≡ false → All IsPlain t.live) is free.1),
  λ fits. let free = free_by old new world fits in ((rw (is, from-is, to-is) free.0, rw (is, first-is, end-is) free.1), subst (λ (t : Transport). has_classes new ≡ false → All IsPlain t.live) (sym is) fits.plain),
)

-- the same numbers by other names
pub same_bounds : (old new : Setup) (transport : Transport) (from to first end : ℕ) → from ≡ queue_count new → to ≡ queue_count old → first ≡ new.controllers → end ≡ old.controllers
    → (QueuesAreFree transport from to × ControllersAreFree transport first end) ↔ (QueuesAreFree transport (queue_count new) (queue_count old) × ControllersAreFree transport new.controllers old.controllers)
same_bounds old new transport from to first end from-is to-is first-is end-is = (
  λ free. (rw (← from-is, ← to-is) free.0, rw (← first-is, ← end-is) free.1),
  λ free. (rw (from-is, to-is) free.0, rw (first-is, end-is) free.1),
)

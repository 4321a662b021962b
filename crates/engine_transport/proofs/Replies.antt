-- What the world's steps answer, read off what the table knows.
use Rattle.std.proofs.Common.{◌≡◌, ℕ, ◌+◌, ◌<◌, List, [], ◌∷◌, ◌++◌, length, map, get_or, Bool, true, false, cond, eqb, leb, ltb, Option, Some, None, inl, inr, ap, sym, subst, ◌∙◌, arith}
use Rattle.std.specs.Prelude.{nat_le, is_none}
use Rattle.std.specs.Option.{option_map}
use Rattle.std.proofs.lemmas.Bool.{cases_Bool, cases_eq, cond-true, cond-false, or_left, or_parts, or_from, lt-leb, lt-ltb, le-ltb, eq-eqb, ne_eqb, not_from_true, not_from_false}
use Rattle.std.proofs.lemmas.List.{length-map}
use Rattle.ccb.specs.declared.CcbId.{CcbId}
use Rattle.ccb.specs.declared.ccb.Ccb.{Ccb}
use Rattle.ccb.specs.Ccb.{submitted, started}
use Rattle.ccb.specs.declared.place.Place.TheVariants.{Controller}
use Rattle.ccb.specs.Places.{device}
use Rattle.freeze_ledger.specs.Freezes.{frozen}
use Rattle.dev_queue.specs.State.{QueueState, live}
use Rattle.dev_queue.specs.Faults.{insert_fault, start_fault}
use Rattle.dev_queue.specs.declared.queue_fault.QueueFault.{QueueFault}
use Rattle.dev_queue.specs.declared.queue_fault.QueueFault.TheVariants as fault
use Rattle.freeze_ledger.specs.State.{LedgerState}
use Rattle.world_calls.specs.Answered.{started_answer}
use Rattle.world_calls.specs.declared.start.Start.{Start}
use Rattle.world_calls.specs.declared.call.Call.TheVariants.{Submit, Dispatch}
use Rattle.world_calls.specs.declared.call_answer.CallAnswer.TheVariants as answers
use Rattle.ccb.specs.declared.call_refusal.CallRefusal.{CallRefusal}
use Rattle.ccb.specs.declared.call_refusal.CallRefusal.TheVariants.{Limit, Frozen, NoOpening, NothingWaits, ControllerFrozen}
use Rattle.world.specs.declared.ccb_state.CcbState.TheVariants.{Waiting}
use Rattle.world.specs.World.{Setup, World, class_in, queue_count, queue_setup, version_of, LiveCcb}
use Rattle.world.specs.Lookups.{live_count, active_count, with_ccb, next_waiting}
use Rattle.world.specs.Event.{Reply, replies, refused}
use Rattle.world.specs.CcbSteps.{ccb_meets_limit, starts}
use Rattle.world.specs.Step.{is_call, step_call}
use Rattle.world.specs.World.{Transport}
use Rattle.engine_transport.specs.Listed.{ListState, is_full}
use Rattle.ccb.specs.Rising.{AreRising}
use Rattle.world.proofs.Steps.Moves.{ccb_key}
use Rattle.engine_transport.proofs.Next.{none_starts, some_starts}
use Rattle.engine_transport.specs.Queues.{pairs_of, queue_at, queue_state_of, waits_on}
use Rattle.engine_transport.specs.Refusals.{refusal_of}
use Rattle.engine_transport.specs.Invariant.{KeepsTable, seen}
use Rattle.engine_transport.proofs.Listed.{listed_as}
use Rattle.engine_transport.proofs.Told.{live_is}
use Rattle.engine_transport.proofs.Kept.{openings_at}
use Rattle.engine_transport.proofs.Steps.{Dispatched, as_active}

-- a queue counts its live CCBs
pub crowd_is : (list : ListState) (queues : List QueueState) (queue : ℕ) → KeepsTable list queues → queue < length queues → live (queue_at queues queue) ≡ live_count queue list.live
crowd_is list queues queue h known = ap live (h.told queue known) ∙ live_is queue (queue_at queues queue).openings list.live

pub submit_limit : (setup : Setup) (world : World) (queue priority retries : ℕ) (said : Option ℕ) → is_call setup (Submit (record { 0 = queue }) priority retries said) ≡ true → queue < queue_count setup → ccb_meets_limit queue world ≡ true → step_call setup world (Submit (record { 0 = queue }) priority retries said) ≡ Some (refused Limit, world)
submit_limit setup world queue priority retries said may known limit =
    cond-true (is_call setup (Submit (record { 0 = queue }) priority retries said)) _ _ may ∙ cond-false (leb (queue_count setup) queue) _ _ (lt-leb _ _ known) ∙ cond-true (ccb_meets_limit queue world) _ _ limit

-- the CCB that is submitted
abbrev pub new_ccb : (number queue priority retries class : ℕ) → LiveCcb
new_ccb number queue priority retries class = record { ccb = submitted (record { 0 = number }) (record { 0 = queue }) priority retries class; state = Waiting }

abbrev pub given : World → (queue priority retries class : ℕ) → Reply × World
given world queue priority retries class =
    let number = world.transport.greatest_ccb + 1 in (
      replies (answers.Ccb (record { 0 = number })),
      record world { transport = record world.transport { live = world.transport.live ++ new_ccb number queue priority retries class ∷ []; greatest_ccb = number } },
    )

pub submit_given : (setup : Setup) (world : World) (queue priority retries : ℕ) (said : Option ℕ) → is_call setup (Submit (record { 0 = queue }) priority retries said) ≡ true → queue < queue_count setup → ccb_meets_limit queue world ≡ false → step_call setup world (Submit (record { 0 = queue }) priority retries said) ≡ Some (given world queue priority retries (class_in said))
submit_given setup world queue priority retries said may known limit =
    cond-true (is_call setup (Submit (record { 0 = queue }) priority retries said)) _ _ may ∙ cond-false (leb (queue_count setup) queue) _ _ (lt-leb _ _ known) ∙ cond-false (ccb_meets_limit queue world) _ _ limit

-- the next CCB starts, if there is one
abbrev chosen : Setup → World → Option LiveCcb → Option (Reply × World)
chosen setup world next = cond (is_none next) (Some (refused NothingWaits, world)) (option_map (starts setup world) next)

-- and if its controller is not frozen
abbrev chosen_under : Setup → World → ℕ → Option LiveCcb → Option (Reply × World)
chosen_under setup world controller next =
    cond (is_none next) (Some (refused NothingWaits, world)) (cond (ltb 0 (frozen (Controller controller) world.transport.freezes)) (Some (refused ControllerFrozen, world)) (option_map (starts setup world) next))

thawed_above : (setup : Setup) (world : World) (controller : ℕ) (next : Option LiveCcb) → frozen (Controller controller) world.transport.freezes ≡ 0 → chosen_under setup world controller next ≡ chosen setup world next
thawed_above setup world controller next none =
    ap (λ (b : Bool). cond (is_none next) (Some (refused NothingWaits, world)) (cond b (Some (refused ControllerFrozen, world)) (option_map (starts setup world) next))) (le-ltb _ _ (omega (arith, none)))

-- a start without a fault: the queue is thawed, has an opening, and so is its controller
record HasNoFault (frozen_times controller : ℕ) (state : QueueState) : Type 0 where
  thawed : frozen_times ≡ 0
  opening : leb state.openings state.active ≡ false
  above : controller ≡ 0

no_fault : (frozen_times controller : ℕ) (state : QueueState) → start_fault frozen_times controller state ≡ None → HasNoFault frozen_times controller state
no_fault frozen_times controller state e =
    elim (cases_eq frozen_times 0) [
      | inr apart ↦ absurd (let bad : Some (fault.Refused Frozen) ≡ None = sym (cond-true _ _ _ (not_from_false _ (ne_eqb _ _ apart))) ∙ e in cc)
      | inl none ↦
          let second = sym (cond-false _ _ _ (not_from_true _ (eq-eqb _ _ none))) ∙ e in
          elim (cases_Bool (leb state.openings state.active)) [
            | inl full ↦ absurd (let bad : Some (fault.Refused NoOpening) ≡ None = sym (cond-true _ _ _ full) ∙ second in cc)
            | inr room ↦
                let third = sym (cond-false _ _ _ room) ∙ second in
                elim (cases_Bool (eqb (length state.waiting) 0)) [
                  | inl nobody ↦ absurd (let bad : Some (fault.Refused NothingWaits) ≡ None = sym (cond-true _ _ _ nobody) ∙ third in cc)
                  | inr somebody ↦
                      let fourth = sym (cond-false _ _ _ somebody) ∙ third in
                      elim (cases_eq controller 0) [
                        | inr apart ↦ absurd (let bad : Some (fault.Refused ControllerFrozen) ≡ None = sym (cond-true _ _ _ (not_from_false _ (ne_eqb _ _ apart))) ∙ fourth in cc)
                        | inl above ↦ record { thawed = none; opening = room; above = above }
                      ]
                ]
          ]
    ]

-- where the queue has no fault, its next CCB starts
pub dispatch_starts : (setup : Setup) (world : World) (queue openings : ℕ) → queue < queue_count setup → get_or world.transport.openings queue 0 ≡ openings → start_fault (frozen (device queue) world.transport.freezes) (frozen (Controller (queue_setup setup queue).controller) world.transport.freezes) (queue_state_of queue openings world.transport.live) ≡ None → step_call setup world (Dispatch (record { 0 = queue })) ≡ chosen setup world (next_waiting queue world.transport.live)
dispatch_starts setup world queue openings known openings_are e =
    let controller = (queue_setup setup queue).controller in
    let its = no_fault (frozen (device queue) world.transport.freezes) (frozen (Controller controller) world.transport.freezes) (queue_state_of queue openings world.transport.live) e in
    let next = next_waiting queue world.transport.live in
    let told : QueueFault → Option (Reply × World) = λ g. Some (refused (refusal_of g), world) in
    let second : Option (Reply × World) = cond (leb (get_or world.transport.openings queue 0) (active_count queue world.transport.live)) (told (fault.Refused NoOpening)) (chosen_under setup world controller next) in
    let first : step_call setup world (Dispatch (record { 0 = queue })) ≡ cond (ltb 0 (frozen (device queue) world.transport.freezes)) (told (fault.Refused Frozen)) second = cond-false (leb (queue_count setup) queue) _ _ (lt-leb _ _ known) in
    first
    ∙ (cond-false (ltb 0 (frozen (device queue) world.transport.freezes)) (told (fault.Refused Frozen)) second (le-ltb _ _ (omega (arith, its.thawed)))
    ∙ (cond-false (leb (get_or world.transport.openings queue 0) (active_count queue world.transport.live)) (told (fault.Refused NoOpening)) (chosen_under setup world controller next) (ap (λ (o : ℕ). leb o (active_count queue world.transport.live)) openings_are ∙ its.opening)
    ∙ thawed_above setup world controller next its.above))

-- and where it has one, that is the refusal
pub dispatch_refuses : (setup : Setup) (world : World) (queue openings high : ℕ) (f : QueueFault) → queue < queue_count setup → get_or world.transport.openings queue 0 ≡ openings → AreRising 0 (map ccb_key world.transport.live) high → start_fault (frozen (device queue) world.transport.freezes) (frozen (Controller (queue_setup setup queue).controller) world.transport.freezes) (queue_state_of queue openings world.transport.live) ≡ Some f → step_call setup world (Dispatch (record { 0 = queue })) ≡ Some (refused (refusal_of f), world)
dispatch_refuses setup world queue openings high f known openings_are rising e =
    let controller = (queue_setup setup queue).controller in
    let next = next_waiting queue world.transport.live in
    let told : QueueFault → Option (Reply × World) = λ g. Some (refused (refusal_of g), world) in
    let first : step_call setup world (Dispatch (record { 0 = queue })) ≡ cond (ltb 0 (frozen (device queue) world.transport.freezes)) (told (fault.Refused Frozen)) (cond (leb (get_or world.transport.openings queue 0) (active_count queue world.transport.live)) (told (fault.Refused NoOpening)) (chosen_under setup world controller next)) =
    cond-false (leb (queue_count setup) queue) _ _ (lt-leb _ _ known) in
    first ∙ elim (cases_eq (frozen (device queue) world.transport.freezes) 0) [
      | inr apart ↦
          let both : Some (fault.Refused Frozen) ≡ Some f = sym (cond-true _ _ _ (not_from_false _ (ne_eqb _ _ apart))) ∙ e in
          let is : (fault.Refused Frozen) ≡ f = cc in
          cond-true (ltb 0 (frozen (device queue) world.transport.freezes)) _ _ (lt-ltb _ _ (omega (arith, apart))) ∙ ap told is
      | inl none ↦
          let second = sym (cond-false _ _ _ (not_from_true _ (eq-eqb _ _ none))) ∙ e in
          cond-false (ltb 0 (frozen (device queue) world.transport.freezes)) _ _ (le-ltb _ _ (omega (arith, none)))
          ∙ elim (cases_Bool (leb openings (active_count queue world.transport.live))) [
            | inl full ↦
                let both : Some (fault.Refused NoOpening) ≡ Some f = sym (cond-true _ _ _ full) ∙ second in
                let is : (fault.Refused NoOpening) ≡ f = cc in
                cond-true (leb (get_or world.transport.openings queue 0) (active_count queue world.transport.live)) _ _ (ap (λ (o : ℕ). leb o (active_count queue world.transport.live)) openings_are ∙ full) ∙ ap told is
            | inr room ↦
                let third = sym (cond-false _ _ _ room) ∙ second in
                cond-false (leb (get_or world.transport.openings queue 0) (active_count queue world.transport.live)) _ _ (ap (λ (o : ℕ). leb o (active_count queue world.transport.live)) openings_are ∙ room)
                ∙ elim (cases_eq (length (pairs_of (waits_on queue) world.transport.live)) 0) [
                  | inl nobody ↦
                      let both : Some (fault.Refused NothingWaits) ≡ Some f = sym (cond-true _ _ _ (eq-eqb _ _ nobody)) ∙ third in
                      let is : (fault.Refused NothingWaits) ≡ f = cc in
                      ap (chosen_under setup world controller) (none_starts queue world.transport.live nobody) ∙ ap told is
                  | inr somebody ↦
                      let fourth = sym (cond-false _ _ _ (ne_eqb _ _ somebody)) ∙ third in
                      let starts = some_starts queue world.transport.live high rising (omega (arith, somebody)) in
                      elim (cases_eq (frozen (Controller controller) world.transport.freezes) 0) [
                        | inr apart ↦
                            let both : Some (fault.Refused ControllerFrozen) ≡ Some f = sym (cond-true _ _ _ (not_from_false _ (ne_eqb _ _ apart))) ∙ fourth in
                            let is : (fault.Refused ControllerFrozen) ≡ f = cc in
                            ap (chosen_under setup world controller) starts.1
                            ∙ (cond-true (ltb 0 (frozen (Controller controller) world.transport.freezes)) _ _ (lt-ltb _ _ (omega (arith, apart))) ∙ ap told is)
                        | inl above ↦ absurd (let bad : None ≡ Some f = sym (cond-false _ _ _ (not_from_true _ (eq-eqb _ _ above))) ∙ fourth in cc)
                      ]
                ]
          ]
    ]

known_to : (setup : Setup) (queues : List QueueState) (queue : ℕ) → queue < length queues → queue_count setup ≡ length (map (λ (q : QueueState). q.openings) queues) → queue < queue_count setup
known_to setup queues queue known count = omega (arith, known, count, length-map queues (λ (q : QueueState). q.openings))

-- a queue that takes no further CCB has 256 live ones
pub crowded_by : (state : QueueState) (f : QueueFault) → insert_fault state ≡ Some f → (nat_le 256 (live state) ≡ true) × (f ≡ fault.Full)
crowded_by state f e =
    elim (cases_Bool (nat_le 256 (live state))) [
      | inl crowded ↦
          let both : Some fault.Full ≡ Some f = sym (cond-true (nat_le 256 (live state)) (Some fault.Full) None crowded) ∙ e in
          let is : f ≡ fault.Full = cc in
          (crowded, is)
      | inr roomy ↦ absurd (let bad : None ≡ Some f = sym (cond-false (nat_le 256 (live state)) (Some fault.Full) None roomy) ∙ e in cc)
    ]

pub roomy_by : (state : QueueState) → insert_fault state ≡ None → nat_le 256 (live state) ≡ false
roomy_by state e =
    elim (cases_Bool (nat_le 256 (live state))) [
      | inl crowded ↦ absurd (let bad : Some fault.Full ≡ None = sym (cond-true (nat_le 256 (live state)) (Some fault.Full) None crowded) ∙ e in cc)
      | inr roomy ↦ roomy
    ]

abbrev with_number : World → CcbId → Transport → Option (Reply × World)
with_number world number state = Some (replies (answers.Ccb number), record world { transport = state })

abbrev with_start : Setup → World → Start → Transport → Option (Reply × World)
with_start setup world start state = Some (replies (started_answer (version_of setup) start), record world { transport = state })

module _ (ledger : LedgerState) (clock : ℕ) where
  pub crowded_limit : (list : ListState) (queues : List QueueState) (queue : ℕ) (world : World) → KeepsTable list queues → queue < length queues → nat_le 256 (live (queue_at queues queue)) ≡ true → ccb_meets_limit queue (record world { transport = (seen list queues ledger clock) }) ≡ true
  crowded_limit list queues queue world h known e =
      or_left _ _ (or_left _ _ (subst (λ (n : ℕ). nat_le 256 n ≡ true) (crowd_is list queues queue h known) e))

  pub no_limit : (list : ListState) (queues : List QueueState) (queue : ℕ) (world : World) → KeepsTable list queues → queue < length queues → nat_le 256 (live (queue_at queues queue)) ≡ false → is_full list ≡ false → ccb_meets_limit queue (record world { transport = (seen list queues ledger clock) }) ≡ false
  no_limit list queues queue world h known roomy open_to =
      let parts = or_parts (nat_le 4096 (length list.live)) (nat_le 4294967295 list.greatest) open_to in
      or_from _ _ (or_from _ _ (subst (λ (n : ℕ). nat_le 256 n ≡ false) (crowd_is list queues queue h known) roomy) parts.0) parts.1

  pub crowded_reply : (setup : Setup) (world : World) (list : ListState) (queues after : List QueueState) (queue priority retries : ℕ) (said : Option ℕ) (f : QueueFault) (refusal : CallRefusal) → is_call setup (Submit (record { 0 = queue }) priority retries said) ≡ true → KeepsTable list queues → queue < length queues → queue_count setup ≡ length (map (λ (q : QueueState). q.openings) queues) → insert_fault (queue_at queues queue) ≡ Some f → refusal ≡ refusal_of f → after ≡ queues → step_call setup (record world { transport = (seen list queues ledger clock) }) (Submit (record { 0 = queue }) priority retries said) ≡ Some (refused refusal, record world { transport = (seen list after ledger clock) })
  crowded_reply setup world list queues after queue priority retries said f refusal may h known count e refusal_is after_is =
      let told = crowded_by (queue_at queues queue) f e in
      let is : Limit ≡ refusal = sym (refusal_is ∙ ap refusal_of told.1) in
      submit_limit setup (record world { transport = (seen list queues ledger clock) }) queue priority retries said may (known_to setup queues queue known count) (crowded_limit list queues queue world h known told.0)
      ∙ (ap (λ (r : CallRefusal). let x : Option (Reply × World) = Some (refused r, record world { transport = (seen list queues ledger clock) }) in x) is
      ∙ ap (λ (qs : List QueueState). let x : Option (Reply × World) = Some (refused refusal, record world { transport = (seen list qs ledger clock) }) in x) (sym after_is))

  -- the answer with this number, and the world with the CCB
  abbrev answered : World → ListState → List QueueState → (queue priority retries class number : ℕ) → Option (Reply × World)
  answered world list queues queue priority retries class number =
      Some (replies (answers.Ccb (record { 0 = number })), record world { transport = (seen (listed_as number (list.live ++ new_ccb number queue priority retries class ∷ [])) queues ledger clock) })

  pub submit_reply : (setup : Setup) (world : World) (list after : ListState) (queues queues_after : List QueueState) (queue priority retries class number : ℕ) (said : Option ℕ) → class_in said ≡ class → is_call setup (Submit (record { 0 = queue }) priority retries said) ≡ true → KeepsTable list queues → queue < length queues → queue_count setup ≡ length (map (λ (q : QueueState). q.openings) queues) → nat_le 256 (live (queue_at queues queue)) ≡ false → is_full list ≡ false → number ≡ list.greatest + 1 → seen after queues_after ledger clock ≡ seen (listed_as number (list.live ++ new_ccb number queue priority retries class ∷ [])) queues ledger clock → step_call setup (record world { transport = (seen list queues ledger clock) }) (Submit (record { 0 = queue }) priority retries said) ≡ Some (replies (answers.Ccb (record { 0 = number })), record world { transport = (seen after queues_after ledger clock) })
  submit_reply setup world list after queues queues_after queue priority retries class number said class_is may h known count roomy open_to number_is seen_is =
      submit_given setup (record world { transport = (seen list queues ledger clock) }) queue priority retries said may (known_to setup queues queue known count) (no_limit list queues queue world h known roomy open_to)
      ∙ ((λ i. answered world list queues queue priority retries (class_is i) (sym number_is i)) ∙ ap (with_number world (record { 0 = number })) (sym seen_is))

  pub dispatch_reply : (setup : Setup) (world : World) (list after : ListState) (queues queues_after : List QueueState) (queue freezes above : ℕ) (number : CcbId) (advice : ℕ) (next : LiveCcb) (ccb : Ccb) → advice ≡ next.ccb.advice → KeepsTable list queues → queue < length queues → queue_count setup ≡ length (map (λ (q : QueueState). q.openings) queues) → freezes ≡ frozen (device queue) ledger.freezes → above ≡ frozen (Controller (queue_setup setup queue).controller) ledger.freezes → start_fault freezes above (queue_at queues queue) ≡ None → Dispatched queue list number next ccb → seen after queues_after ledger clock ≡ seen (listed_as list.greatest (with_ccb (as_active (started next.ccb)) list.live)) queues ledger clock → step_call setup (record world { transport = (seen list queues ledger clock) }) (Dispatch (record { 0 = queue })) ≡ Some (replies (started_answer (version_of setup) (record { ccb = number; advice = advice })), record world { transport = (seen after queues_after ledger clock) })
  dispatch_reply setup world list after queues queues_after queue freezes above number advice next ccb advice_is h known count freezes_are above_are faultless d seen_is =
      let fault_is : start_fault (frozen (device queue) ledger.freezes) (frozen (Controller (queue_setup setup queue).controller) ledger.freezes) (queue_state_of queue (queue_at queues queue).openings list.live) ≡ None =
      sym (λ i. start_fault (freezes_are i) (above_are i) (h.told queue known i)) ∙ faultless in
      dispatch_starts setup (record world { transport = (seen list queues ledger clock) }) queue (queue_at queues queue).openings (known_to setup queues queue known count) (openings_at queues queue) fault_is
      ∙ (ap (chosen setup (record world { transport = (seen list queues ledger clock) })) d.next_is
      ∙ ((λ i. with_start setup world (record { ccb = d.number_is i; advice = sym advice_is i }) (seen (listed_as list.greatest (with_ccb (as_active (started next.ccb)) list.live)) queues ledger clock))
      ∙ ap (with_start setup world (record { ccb = number; advice = advice })) (sym seen_is)))

  pub refused_reply : (setup : Setup) (world : World) (list : ListState) (queues after : List QueueState) (queue freezes above : ℕ) (f : QueueFault) (refusal : CallRefusal) → KeepsTable list queues → queue < length queues → queue_count setup ≡ length (map (λ (q : QueueState). q.openings) queues) → freezes ≡ frozen (device queue) ledger.freezes → above ≡ frozen (Controller (queue_setup setup queue).controller) ledger.freezes → start_fault freezes above (queue_at queues queue) ≡ Some f → refusal ≡ refusal_of f → after ≡ queues → step_call setup (record world { transport = (seen list queues ledger clock) }) (Dispatch (record { 0 = queue })) ≡ Some (refused refusal, record world { transport = (seen list after ledger clock) })
  refused_reply setup world list queues after queue freezes above f refusal h known count freezes_are above_are e refusal_is after_is =
      let fault_is : start_fault (frozen (device queue) ledger.freezes) (frozen (Controller (queue_setup setup queue).controller) ledger.freezes) (queue_state_of queue (queue_at queues queue).openings list.live) ≡ Some f =
      sym (λ i. start_fault (freezes_are i) (above_are i) (h.told queue known i)) ∙ e in
      dispatch_refuses setup (record world { transport = (seen list queues ledger clock) }) queue (queue_at queues queue).openings list.greatest f (known_to setup queues queue known count) (openings_at queues queue) h.rising fault_is
      ∙ (ap (λ (r : CallRefusal). let x : Option (Reply × World) = Some (refused r, record world { transport = (seen list queues ledger clock) }) in x) (sym refusal_is)
      ∙ ap (λ (qs : List QueueState). let x : Option (Reply × World) = Some (refused refusal, record world { transport = (seen list qs ledger clock) }) in x) (sym after_is))

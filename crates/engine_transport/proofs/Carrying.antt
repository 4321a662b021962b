-- What a CCB that is taken over leaves: what the table keeps, and what contracts see of it; and when it is not taken.
use Rattle.std.proofs.Common.{◌≡◌, ℕ, ◌+◌, ◌<◌, ◌≤◌, List, [], ◌∷◌, ◌++◌, length, map, set, Bool, true, false, cond, leb, Option, Some, None, refl, ap, sym, subst, ◌∙◌, arith}
use Rattle.std.specs.Prelude.{nat_le}
use Rattle.std.proofs.lemmas.Bool.{cond-true, cond-false, cond_both, lt-leb, le-leb}
use Rattle.std.proofs.lemmas.List.{length-map}
use Rattle.ccb.specs.Rising.{AreRising}
use Rattle.dev_queue.specs.State.{QueueState, with_active, with_waiting}
use Rattle.dev_queue.specs.Faults.{insert_fault}
use Rattle.dev_queue.specs.declared.queue_fault.QueueFault.{QueueFault}
use Rattle.ccb.specs.declared.call_refusal.CallRefusal.{CallRefusal}
use Rattle.ccb.specs.declared.call_refusal.CallRefusal.TheVariants.{Limit, Unknown}
use Rattle.freeze_ledger.specs.State.{LedgerState}
use Rattle.world_calls.specs.declared.carried_line.CarriedCcb.{CarriedCcb}
use Rattle.world.specs.declared.ccb_state.CcbState.TheVariants.{Active}
use Rattle.world.specs.World.{LiveCcb}
use Rattle.world.specs.Lookups.{is_active, is_waiting, live_count}
use Rattle.world.proofs.Steps.Moves.{ccb_key}
use Rattle.engine_transport.specs.Carrying.{carried_of, carried_state, carry_refusal, with_carried}
use Rattle.engine_transport.specs.Listed.{ListState}
use Rattle.engine_transport.specs.Queues.{is_recovering, queue_at, queue_state_of, waits_on}
use Rattle.engine_transport.specs.Refusals.{refusal_of}
use Rattle.engine_transport.specs.Invariant.{KeepsTable, seen}
use Rattle.engine_transport.proofs.Listed.{listed_as, rises_up}
use Rattle.engine_transport.proofs.Pairs.{pairs_push_no}
use Rattle.engine_transport.proofs.Told.{entered, entered_is, on_is, same_queue}
use Rattle.engine_transport.proofs.Kept.{kept_entered}
use Rattle.engine_transport.proofs.Replies.{crowd_is, crowded_by, roomy_by}
use Rattle.engine_transport.proofs.Steps.{After, seen_set}

-- a table whose numbers up to a greater one are passed over
pub kept_passed : (list : ListState) (queues : List QueueState) (number : ℕ) → KeepsTable list queues → list.greatest ≤ number → KeepsTable (listed_as number list.live) queues
kept_passed list queues number h up = record {
  rising = rises_up 0 (map ccb_key list.live) list.greatest number h.rising up;
  known = h.known;
  told = h.told;
  few = h.few;
}

-- a CCB enters, and is active
entered_active : (openings : ℕ) (ccbs : List LiveCcb) (c : LiveCcb) → c.state ≡ Active → queue_state_of c.ccb.queue.0 openings (ccbs ++ c ∷ []) ≡ with_active (queue_state_of c.ccb.queue.0 openings ccbs)
entered_active openings ccbs c is =
    same_queue _ _
    (pairs_push_no (waits_on c.ccb.queue.0) ccbs c (on_is is_waiting c.ccb.queue.0 c Active refl is))
    (entered is_active c.ccb.queue.0 ccbs c true (on_is is_active c.ccb.queue.0 c Active refl is))
    (omega (arith, entered is_recovering c.ccb.queue.0 ccbs c false (on_is is_recovering c.ccb.queue.0 c Active refl is))) refl

-- or waits
entered_by : (b : Bool) (openings : ℕ) (ccbs : List LiveCcb) (high : ℕ) (it : CarriedCcb) → it.is_active ≡ b → AreRising 0 (map ccb_key ccbs) high → high < it.number.0 → queue_state_of it.queue.0 openings (ccbs ++ carried_of it ∷ []) ≡ with_carried it (queue_state_of it.queue.0 openings ccbs)
entered_by true openings ccbs high it is rising above =
    entered_active openings ccbs (carried_of it) (ap carried_state is)
    ∙ sym (cond-true it.is_active (with_active (queue_state_of it.queue.0 openings ccbs)) (with_waiting it.number it.priority (queue_state_of it.queue.0 openings ccbs)) is)
entered_by false openings ccbs high it is rising above =
    entered_is openings ccbs high (carried_of it) rising above (ap carried_state is)
    ∙ sym (cond-false it.is_active (with_active (queue_state_of it.queue.0 openings ccbs)) (with_waiting it.number it.priority (queue_state_of it.queue.0 openings ccbs)) is)

openings_carried : (it : CarriedCcb) (queue : QueueState) → (with_carried it queue).openings ≡ queue.openings
openings_carried it queue = cond_both it.is_active (with_active queue) (with_waiting it.number it.priority queue) (λ q. q.openings ≡ queue.openings) (λ _. refl) (λ _. refl)

second : (a b : Bool) → b ≡ true → cond {A = Option CallRefusal} a (Some Limit) (cond b (Some Limit) None) ≡ Some Limit
second true b is = refl
second false b is = cond-true b (Some Limit) None is

module _ (ledger : LedgerState) (clock : ℕ) where
  pub carried_one : (list after : ListState) (queues queues_after : List QueueState) (it : CarriedCcb) → KeepsTable list queues → it.number.0 ≡ list.greatest + 1 → it.queue.0 < length queues
      → after ≡ listed_as it.number.0 (list.live ++ carried_of it ∷ []) → queues_after ≡ set queues it.queue.0 (with_carried it (queue_at queues it.queue.0))
      → After ledger clock after queues_after (seen (listed_as it.number.0 (list.live ++ carried_of it ∷ [])) queues ledger clock)
  carried_one list after queues queues_after it h next known e es =
      let told = h.told it.queue.0 known in
      let new = entered_by it.is_active (queue_at queues it.queue.0).openings list.live list.greatest it refl h.rising (omega (arith, next)) ∙ ap (with_carried it) (sym told) in
      rw (e, es) record {
        kept = kept_entered list queues (carried_of it) (with_carried it (queue_at queues it.queue.0)) h next known new;
        seen_is = seen_set ledger clock (listed_as it.number.0 (list.live ++ carried_of it ∷ [])) queues it.queue.0 (with_carried it (queue_at queues it.queue.0)) (openings_carried it (queue_at queues it.queue.0));
      }

  -- why it is not taken, and that it is
  pub unknown_queue : (list : ListState) (queues : List QueueState) (it : CarriedCcb) → length queues ≤ it.queue.0 → carry_refusal (seen list queues ledger clock) it ≡ Some Unknown
  unknown_queue list queues it beyond =
      cond-true (nat_le (length (map (λ (q : QueueState). q.openings) queues)) it.queue.0) _ _ (le-leb _ _ (omega (arith, beyond, length-map queues (λ (q : QueueState). q.openings))))

  there : (list : ListState) (queues : List QueueState) (it : CarriedCcb) → it.queue.0 < length queues
      → carry_refusal (seen list queues ledger clock) it ≡ cond (leb 256 (live_count it.queue.0 list.live)) (Some Limit) (cond (leb 4096 (length list.live)) (Some Limit) None)
  there list queues it known =
      cond-false (nat_le (length (map (λ (q : QueueState). q.openings) queues)) it.queue.0) _ _ (lt-leb _ _ (omega (arith, known, length-map queues (λ (q : QueueState). q.openings))))

  pub too_many : (list : ListState) (queues : List QueueState) (it : CarriedCcb) → it.queue.0 < length queues → leb 4096 (length list.live) ≡ true → carry_refusal (seen list queues ledger clock) it ≡ Some Limit
  too_many list queues it known full = there list queues it known ∙ second (leb 256 (live_count it.queue.0 list.live)) (leb 4096 (length list.live)) full

  pub crowded : (list : ListState) (queues : List QueueState) (it : CarriedCcb) (f : QueueFault) → KeepsTable list queues → it.queue.0 < length queues → insert_fault (queue_at queues it.queue.0) ≡ Some f → carry_refusal (seen list queues ledger clock) it ≡ Some (refusal_of f)
  crowded list queues it f h known e =
      let told = crowded_by (queue_at queues it.queue.0) f e in
      let many : leb 256 (live_count it.queue.0 list.live) ≡ true = subst (λ (n : ℕ). leb 256 n ≡ true) (crowd_is list queues it.queue.0 h known) told.0 in
      there list queues it known ∙ (cond-true (leb 256 (live_count it.queue.0 list.live)) _ _ many ∙ ap (λ (g : QueueFault). Some (refusal_of g)) (sym told.1))

  pub taken : (list : ListState) (queues : List QueueState) (it : CarriedCcb) → KeepsTable list queues → it.queue.0 < length queues → insert_fault (queue_at queues it.queue.0) ≡ None → leb 4096 (length list.live) ≡ false → carry_refusal (seen list queues ledger clock) it ≡ None
  taken list queues it h known none room =
      let few : leb 256 (live_count it.queue.0 list.live) ≡ false = subst (λ (n : ℕ). leb 256 n ≡ false) (crowd_is list queues it.queue.0 h known) (roomy_by (queue_at queues it.queue.0) none) in
      there list queues it known ∙ (cond-false (leb 256 (live_count it.queue.0 list.live)) _ _ few ∙ cond-false (leb 4096 (length list.live)) _ _ room)

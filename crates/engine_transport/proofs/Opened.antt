-- A transport without CCBs and freezes keeps what it has to.
use Rattle.std.proofs.Common.{◌≡◌, ℕ, ◌<◌, ◌≤◌, List, [], ◌∷◌, length, map, get_or, refl, ap, sym, ◌∙◌, arith}
use Rattle.std.proofs.lemmas.List.{get_or-map, length-map}
use Rattle.dev_queue.specs.State.{QueueState, empty_queue}
use Rattle.freeze_ledger.specs.State.{LedgerState, empty_ledger}
use Rattle.ccb.specs.Places.{places_of}
use Rattle.engine_transport.specs.Listed.{ListState, no_live}
use Rattle.engine_transport.specs.Queues.{queue_at, queue_state_of}
use Rattle.engine_transport.specs.Invariant.{KeepsTransport}

empty_at : (openings : List ℕ) (queue : ℕ) → queue < length (map empty_queue openings) → queue_at (map empty_queue openings) queue ≡ empty_queue (get_or openings queue 0)
empty_at openings queue below = get_or-map empty_queue openings queue 0 (empty_queue 0) (omega (arith, below, length-map openings empty_queue))

pub kept_opened : (list : ListState) (queues : List QueueState) (ledger : LedgerState) (openings : List ℕ) (places : ℕ) → list ≡ no_live → queues ≡ map empty_queue openings → ledger ≡ empty_ledger places → places ≡ places_of (length openings) 8 → length openings ≤ 64 → KeepsTransport list queues ledger
kept_opened list queues ledger openings places list_is queues_are ledger_is places_are few = rw (list_is, queues_are, ledger_is) (record {
  table = record {
    rising = omega arith;
    known = λ i d below. absurd (omega (arith, below));
    told = λ queue below.
        let there = empty_at openings queue below in
        there ∙ ap (λ (q : QueueState). queue_state_of queue q.openings []) (sym there);
    few = omega (arith, few, length-map openings empty_queue);
  };
  places = places_are ∙ ap (λ (n : ℕ). places_of n 8) (sym (length-map openings empty_queue));
})

pub openings_are : (openings : List ℕ) → map (λ (q : QueueState). q.openings) (map empty_queue openings) ≡ openings
openings_are [] = refl
openings_are (o ∷ os) = ap (λ (xs : List ℕ). o ∷ xs) (openings_are os)

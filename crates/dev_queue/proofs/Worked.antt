-- Worked values of the definitions.
use Rattle.std.proofs.Common.{◌≡◌, ℕ, List, [], ◌∷◌, Some, None, true, false, replicate, refl}
use Rattle.dev_queue.specs.declared.waiting_ccb.WaitingCcb.{WaitingCcb}
use Rattle.dev_queue.specs.declared.queue_fault.QueueFault.TheVariants.{Full, Refused}
use Rattle.ccb.specs.declared.call_refusal.CallRefusal.TheVariants.{Frozen, NoOpening, NothingWaits, ControllerFrozen}
use Rattle.dev_queue.specs.State.{QueueState, with_waiting, with_started, with_stopped, with_left}
use Rattle.dev_queue.specs.Faults.{insert_fault, start_fault}

abbrev ccb : ℕ → ℕ → WaitingCcb
ccb number priority = record { priority = priority; number = record { 0 = number } }

abbrev queue : List WaitingCcb → ℕ → ℕ → ℕ → QueueState
queue waiting active recovering openings = record { waiting = waiting; active = active; recovering = recovering; openings = openings }

-- the lowest fault is told: frozen, no opening, nothing waits
frozen : start_fault 1 0 (queue [] 1 0 1) ≡ Some (Refused Frozen)
frozen = refl

no_opening : start_fault 0 0 (queue [] 1 0 1) ≡ Some (Refused NoOpening)
no_opening = refl

nothing_waits : start_fault 0 0 (queue [] 1 0 2) ≡ Some (Refused NothingWaits)
nothing_waits = refl

starts : start_fault 0 0 (queue (ccb 1 10 ∷ []) 1 0 2) ≡ None
starts = refl

-- the 257th live CCB, whatever state the others are in
full : insert_fault (queue (replicate 200 (ccb 1 10)) 55 1 2) ≡ Some Full
full = refl

room_for_one : insert_fault (queue (replicate 200 (ccb 1 10)) 55 0 2) ≡ None
room_for_one = refl

-- a CCB goes from waiting to active, into recovery, and back to its place by number
started : with_started (record { 0 = 2 }) (queue (ccb 1 9 ∷ ccb 2 0 ∷ ccb 3 9 ∷ []) 0 0 2) ≡ queue (ccb 1 9 ∷ ccb 3 9 ∷ []) 1 0 2
started = refl

stopped : with_stopped true (queue (ccb 1 9 ∷ ccb 3 9 ∷ []) 1 0 2) ≡ queue (ccb 1 9 ∷ ccb 3 9 ∷ []) 0 1 2
stopped = refl

put_back : with_waiting (record { 0 = 2 }) 0 (with_left (queue (ccb 1 9 ∷ ccb 3 9 ∷ []) 0 1 2)) ≡ queue (ccb 1 9 ∷ ccb 2 0 ∷ ccb 3 9 ∷ []) 0 0 2
put_back = refl

gone : with_stopped false (queue [] 1 1 2) ≡ queue [] 0 1 2
gone = refl

-- the queue's own faults come before its controller
under_frozen : start_fault 0 1 (queue (ccb 1 10 ∷ []) 1 0 2) ≡ Some (Refused ControllerFrozen)
under_frozen = refl

waits_for_none : start_fault 0 1 (queue [] 1 0 2) ≡ Some (Refused NothingWaits)
waits_for_none = refl

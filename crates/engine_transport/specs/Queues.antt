-- What a device queue has to know of the live CCBs: which of its own wait, and how many are active or in recovery.
use Rattle.std.specs.Prelude.{◌≡◌, ℕ, ◌<◌, ◌&&◌, Bool, true, false, List, length, map, filter, count_by, slice_index_or, if◌then◌else◌}
use Rattle.dev_queue.specs.declared.waiting_ccb.WaitingCcb.{WaitingCcb}
use Rattle.dev_queue.specs.State.{QueueState, empty_queue, with_stopped, with_left}
use Rattle.world.specs.declared.ccb_state.CcbState.{CcbState}
use Rattle.world.specs.declared.ccb_state.CcbState.TheVariants.{Waiting, Active, InRecovery}
use Rattle.world.specs.World.{LiveCcb}
use Rattle.world.specs.Lookups.{is_waiting, is_of, active_count}

abbrev pub is_recovering : CcbState → Bool
is_recovering Waiting = false
is_recovering Active = false
is_recovering InRecovery = true

-- the CCB as its queue knows it while it waits
abbrev pub pair_of : LiveCcb → WaitingCcb
pair_of live = record { priority = live.ccb.priority; number = live.ccb.number }

-- those of some CCBs that pass a test, as pairs
abbrev pub pairs_of : (LiveCcb → Bool) → List LiveCcb → List WaitingCcb
pairs_of test ccbs = map pair_of (filter test ccbs)

abbrev pub waits_on : ℕ → LiveCcb → Bool
waits_on queue live = is_of queue live && is_waiting live.state

abbrev pub recovers_on : ℕ → LiveCcb → Bool
recovers_on queue live = is_of queue live && is_recovering live.state

-- what a queue with so many openings has to know
abbrev pub queue_state_of : ℕ → ℕ → List LiveCcb → QueueState
queue_state_of queue openings ccbs = record {
  waiting = pairs_of (waits_on queue) ccbs;
  active = active_count queue ccbs;
  recovering = count_by (recovers_on queue) ccbs;
  openings = openings;
}

-- a CCB that was active, or else in recovery, is out
abbrev pub with_gone : Bool → QueueState → QueueState
with_gone was_active queue = if was_active then with_stopped false queue else with_left queue

-- the queue of a number; after the last stands one without openings
abbrev pub queue_at : List QueueState → ℕ → QueueState
queue_at queues queue = slice_index_or queues queue (empty_queue 0)

-- each queue knows what it has to
abbrev pub AreTold : List QueueState → List LiveCcb → Type 0
AreTold queues ccbs = (queue : ℕ) → queue < length queues → queue_at queues queue ≡ queue_state_of queue (queue_at queues queue).openings ccbs

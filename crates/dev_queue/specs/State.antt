-- What contracts see of a device queue, and its changes.
use Rattle.std.specs.Prelude.{ℕ, ◌+◌, ◌-◌, Bool, List, [], length, if◌then◌else◌}
use Rattle.ccb.specs.declared.CcbId.{CcbId}
use Rattle.dev_queue.specs.declared.waiting_ccb.WaitingCcb.{WaitingCcb}
use Rattle.dev_queue.specs.Waiting.{with_pair, without}

pub record QueueState : Type 0 where
  -- in the order of the CCBs' numbers
  pub waiting : List WaitingCcb
  -- how many CCBs are active
  pub active : ℕ
  -- how many CCBs are in recovery
  pub recovering : ℕ
  -- how many CCBs may be active for another one to start
  pub openings : ℕ

abbrev pub empty_queue : ℕ → QueueState
empty_queue openings = record { waiting = []; active = 0; recovering = 0; openings = openings }

-- how many CCBs of the queue are live, whatever their state
abbrev pub live : QueueState → ℕ
live state = length state.waiting + state.active + state.recovering

-- one CCB more waits
abbrev pub with_waiting : CcbId → ℕ → QueueState → QueueState
with_waiting number priority state =
    record state { waiting = with_pair (record { priority = priority; number = number }) state.waiting }

-- one CCB more is active, which did not wait here
abbrev pub with_active : QueueState → QueueState
with_active state = record state { active = state.active + 1 }

-- the CCB of this number, which waited, is active
abbrev pub with_started : CcbId → QueueState → QueueState
with_started number state = record state { waiting = without number state.waiting; active = state.active + 1 }

-- the CCB of this number, which waited, is out
abbrev pub with_withdrawn : CcbId → QueueState → QueueState
with_withdrawn number state = record state { waiting = without number state.waiting }

-- a CCB is active no more, and in recovery if it stays
abbrev pub with_stopped : Bool → QueueState → QueueState
with_stopped stays state =
    record state { active = state.active - 1; recovering = state.recovering + (if stays then 1 else 0) }

-- a CCB is in recovery no more
abbrev pub with_left : QueueState → QueueState
with_left state = record state { recovering = state.recovering - 1 }

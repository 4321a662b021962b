-- Which fault a call of a device queue answers, if any.
use Rattle.std.specs.Prelude.{ℕ, not, ◌==◌, nat_le, length, Option, Some, None, if◌then◌else◌}
use Rattle.dev_queue.specs.declared.queue_fault.QueueFault.{QueueFault}
use Rattle.dev_queue.specs.declared.queue_fault.QueueFault.TheVariants.{Full, Refused}
use Rattle.ccb.specs.declared.call_refusal.CallRefusal.TheVariants.{Frozen, NoOpening, NothingWaits, ControllerFrozen}
use Rattle.dev_queue.specs.declared.dev_queue.TheConstants.{MAX_LIVE}
use Rattle.dev_queue.specs.State.{QueueState, live}

-- of one CCB more: as many are live as there may be (256)
abbrev pub insert_fault : QueueState → Option QueueFault
insert_fault state = if nat_le MAX_LIVE (live state) then Some Full else None

-- of a start, where the queue has so many freezes, and its controller so many: it is frozen, has no opening, no CCB waits, or
-- its controller is frozen, in this order
abbrev pub start_fault : ℕ → ℕ → QueueState → Option QueueFault
start_fault frozen controller state =
    if not (frozen == 0) then Some (Refused Frozen)
    else if nat_le state.openings state.active then Some (Refused NoOpening)
    else if length state.waiting == 0 then Some (Refused NothingWaits)
    else if not (controller == 0) then Some (Refused ControllerFrozen)
    else None

-- What a transport makes of a CCB that it takes over, and when it does not take it.
use Rattle.std.specs.Prelude.{Bool, true, false, [], ◌∷◌, ◌++◌, length, nat_le, Option, Some, None, if◌then◌else◌}
use Rattle.ccb.specs.Ccb.{submitted}
use Rattle.ccb.specs.declared.call_refusal.CallRefusal.{CallRefusal}
use Rattle.ccb.specs.declared.call_refusal.CallRefusal.TheVariants.{Limit, Unknown}
use Rattle.freeze_ledger.specs.declared.freeze.Freeze.{Freeze}
use Rattle.dev_queue.specs.State.{QueueState, with_active, with_waiting}
use Rattle.world_calls.specs.declared.carried_line.CarriedCcb.{CarriedCcb}
use Rattle.world.specs.declared.ccb_state.CcbState.{CcbState}
use Rattle.world.specs.declared.ccb_state.CcbState.TheVariants.{Active, Waiting}
use Rattle.world.specs.Capacities.{most_ccbs, most_ccbs_of_queue}
use Rattle.world.specs.World.{LiveCcb, Transport}
use Rattle.world.specs.Lookups.{live_count}

-- it is active, or waits
abbrev pub carried_state : Bool → CcbState
carried_state true = Active
carried_state false = Waiting

-- the CCB, of which nothing is left of an earlier completion
abbrev pub carried_of : CarriedCcb → LiveCcb
carried_of it = record { ccb = record (submitted it.number it.queue it.priority it.retries it.class) { attempts = it.attempts; advice = it.advice }; state = carried_state it.is_active }

-- what its queue has to know then
abbrev pub with_carried : CarriedCcb → QueueState → QueueState
with_carried it queue = if it.is_active then with_active queue else with_waiting it.number it.priority queue

-- there is no such queue; or that has as many CCBs as it may, or all together have
abbrev pub carry_refusal : Transport → CarriedCcb → Option CallRefusal
carry_refusal state it =
    if nat_le (length state.openings) it.queue.0 then Some Unknown
    else if nat_le most_ccbs_of_queue (live_count it.queue.0 state.live) then Some Limit
    else if nat_le most_ccbs (length state.live) then Some Limit
    else None

-- with the freeze, whose number is the greatest given
abbrev pub with_carried_freeze : Transport → Freeze → Transport
with_carried_freeze state freeze = record state { freezes = state.freezes ++ freeze ∷ []; greatest_freeze = freeze.number }

-- with the CCB, whose number is the greatest given
abbrev pub with_carried_ccb : Transport → CarriedCcb → Transport
with_carried_ccb state it = record state { live = state.live ++ carried_of it ∷ []; greatest_ccb = it.number.0 }

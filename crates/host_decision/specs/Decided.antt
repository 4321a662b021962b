-- What was decided: what the records of a run say, and the engine after it has.
use Rattle.std.specs.Prelude.{◌-◌, ◌==◌, ◌++◌, if◌then◌else◌, ℕ, zero, suc, List, [], ◌∷◌, Option, Some, None}
use Rattle.ccb.specs.Places.{device}
use Rattle.ccb.specs.declared.place.Place.{Place}
use Rattle.ccb.specs.declared.place.Place.TheVariants.{Controller}
use Rattle.freeze_ledger.specs.declared.freeze.Holder.{Holder}
use Rattle.freeze_ledger.specs.declared.freeze.Holder.TheVariants as holders
use Rattle.freeze_ledger.specs.Freezes.{holders_of}
use Rattle.world_calls.specs.declared.record.Record.{Record}
use Rattle.world_calls.specs.declared.record.Record.TheVariants.{Called, Advance}
use Rattle.world_calls.specs.declared.record.StoppedAt.{StoppedAt}
use Rattle.world_calls.specs.declared.record.StoppedAt.TheVariants as stops
use Rattle.world.specs.declared.ccb_state.CcbState.{CcbState}
use Rattle.world.specs.declared.ccb_state.CcbState.TheVariants as states
use Rattle.world.specs.World.{LiveCcb, queue_count}
use Rattle.engine_core.specs.ByNumber.{NumberedState}
use Rattle.host_decision.specs.declared.decision.End.{End}
use Rattle.host_decision.specs.declared.decision.End.TheVariants.{Requeued, Finished, Kept}
use Rattle.host_decision.specs.declared.decision.LeftFreeze.{LeftFreeze}

-- the code with which a run finished its CCB
abbrev pub code_at : StoppedAt → Option ℕ
code_at (stops.Helper helper) = None
code_at (stops.Trace helper bytes) = None
code_at (stops.Finish helper code) = Some code
code_at stops.Exit = None

abbrev pub code_told : Record → Option ℕ
code_told (Called answer call) = None
code_told (Advance run instructions stop r0) = code_at stop

abbrev pub or_later : Option ℕ → ℕ → ℕ
or_later None code = code
or_later (Some first) code = first

-- the first such code in some records; 0 if there is none
abbrev pub code_in : List Record → ℕ
code_in [] = 0
code_in (record_one ∷ records) = or_later (code_told record_one) (code_in records)

-- what became of a CCB that is live still, by where it is
abbrev pub end_in : CcbState → ℕ → End
end_in states.Waiting retries = Requeued retries
end_in states.Active retries = Kept
end_in states.InRecovery retries = Kept

-- what became of a CCB, by the engine after the run, and by its records
abbrev pub end_of : Option LiveCcb → List Record → End
end_of None records = Finished (code_in records)
end_of (Some live) records = end_in live.state live.ccb.retries

-- what is advised for the next start of a CCB; 0 if it is not live
abbrev pub advice_of : Option LiveCcb → ℕ
advice_of None = 0
advice_of (Some live) = live.ccb.advice

-- how long it is until a timer comes
abbrev pub time_of : Holder → ℕ → ℕ
time_of (holders.Timer due) clock = due - clock
time_of (holders.Run run) clock = 0
time_of (holders.Guest guest) clock = 0

-- how long the freeze of that number is left, if it is one of these
abbrev pub time_in : (number clock : ℕ) → List (ℕ × Holder) → Option ℕ
time_in number clock [] = None
time_in number clock (it ∷ more) = if it.0 == number then Some (time_of it.1 clock) else time_in number clock more

abbrev pub time_at : NumberedState → Place → ℕ → Option ℕ
time_at engine place number = time_in number engine.transport.clock (holders_of place engine.transport.freezes)

-- the freezes of a place but that of the failure, each with how long it is left
abbrev pub left_in : Place → (own clock : ℕ) → List (ℕ × Holder) → List LeftFreeze
left_in place own clock [] = []
left_in place own clock (it ∷ more) =
    if it.0 == own then left_in place own clock more
    else record { place = place; milliseconds = time_of it.1 clock } ∷ left_in place own clock more

abbrev pub left_at : NumberedState → (own : ℕ) → Place → List LeftFreeze
left_at engine own place = left_in place own engine.transport.clock (holders_of place engine.transport.freezes)

-- the same of the first so many places of a kind, in their order
abbrev pub left_below : (ℕ → Place) → NumberedState → (own count : ℕ) → List LeftFreeze
left_below place_of engine own zero = []
left_below place_of engine own (suc count) = left_below place_of engine own count ++ left_at engine own (place_of count)

-- a controller, by its number
abbrev pub controller : ℕ → Place
controller number = Controller number

-- all freezes but that of the failure: those of controllers, and then those of queues
abbrev pub others_of : NumberedState → (own : ℕ) → List LeftFreeze
others_of engine own =
    left_below controller engine own engine.setup.controllers ++ left_below device engine own (queue_count engine.setup)

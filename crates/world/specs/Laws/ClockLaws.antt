-- The laws of the clock and of the freezes that timers hold: what holds in every run of the world.
use Rattle.std.specs.Prelude.{◌≡◌, ℕ, ◌≤◌, Bool, false, nat_le, if◌then◌else◌, List, Some, None}
use Rattle.freeze_ledger.specs.declared.freeze.Holder.TheVariants.{Timer}
use Rattle.freeze_ledger.specs.declared.freeze.Freeze.{Freeze}
use Rattle.freeze_ledger.specs.Freezes.{entry_of}
use Rattle.world_calls.specs.declared.call.Call.TheVariants.{Clock}
use Rattle.world_calls.specs.declared.call_answer.CallAnswer.TheVariants as answers
use Rattle.world.specs.Capacities.{last_reading}
use Rattle.world.specs.World.{Setup, World}
use Rattle.world.specs.Event.{Event, called, Reply, replies}
use Rattle.world.specs.Step.{WorldStep}
use Rattle.world.specs.WorldRun.{Leads, WorldRun}

-- the clock never goes back, and never reads more than its last reading
abbrev pub ClockGoesOn : Type 0
ClockGoesOn =
    (setup : Setup) (xs ys : List (Event × Reply)) (before after : World) →
    WorldRun setup xs before → Leads setup before ys after → (before.transport.clock ≤ after.transport.clock) × (after.transport.clock ≤ last_reading)

-- the event lets go what is due at this time: it is a clock reading that is not refused and not before that time
abbrev pub lets_go : ℕ → Reply → Event → Bool
lets_go due (replies (answers.Removed count)) (called (Clock reading)) = nat_le due reading
lets_go due reply event = false

-- what a step makes of a freeze that a timer holds: it is gone where the event lets it go, and else it is as it was
abbrev pub KeepsTime : World → Event → Reply → World → Type 0
KeepsTime before event reply after =
    (freeze : Freeze) (due : ℕ) → entry_of freeze.number before.transport.freezes ≡ Some freeze → freeze.holder ≡ Timer due →
    entry_of freeze.number after.transport.freezes ≡ (if lets_go due reply event then None else Some freeze)

-- at every moment of every run
abbrev pub TimersKeepTime : Type 0
TimersKeepTime =
    (setup : Setup) (xs : List (Event × Reply)) (before : World) → WorldRun setup xs before →
    (event : Event) (reply : Reply) (after : World) → WorldStep setup before event reply after → KeepsTime before event reply after

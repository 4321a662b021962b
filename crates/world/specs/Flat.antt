-- The events that a history stands for: one for each record, but for an advance, which is one for each instruction.
use Rattle.std.specs.Prelude.{ℕ, zero, suc, List, [], ◌∷◌, ◌++◌, replicate}
use Rattle.std.specs.List.{flat_map}
use Rattle.world_calls.specs.declared.record.StoppedAt.{StoppedAt}
use Rattle.world_calls.specs.declared.record.StoppedAt.TheVariants.{Helper, Trace, Finish, Exit}
use Rattle.world_calls.specs.declared.record.Record.{Record}
use Rattle.world_calls.specs.declared.record.Record.TheVariants.{Called, Advance}
use Rattle.world.specs.World.{Setup, World}
use Rattle.world.specs.Told.{plain, traces, finishes}
use Rattle.world.specs.Event.{Instruction, private, call, exit, Event, called, executes, Reply, replies, went_on, result}
use Rattle.world.specs.WorldRun.{Leads}

-- the instruction at which a run stopped
abbrev pub stop_of : StoppedAt → Instruction
stop_of (Helper helper) = call (plain helper)
stop_of (Trace helper bytes) = call (traces helper bytes)
stop_of (Finish helper code) = call (finishes helper code)
stop_of Exit = exit

-- An advance by so many instructions: all but the last are private. One by no instruction is none: it claims a helper
-- call or an exit that nobody saw, and no step is that.
abbrev pub advance_of : ℕ → ℕ → StoppedAt → ℕ → List (Event × Reply)
advance_of run zero stop r0 = (executes run (stop_of stop), went_on) ∷ []
advance_of run (suc before) stop r0 =
    replicate before (executes run private, went_on) ++ (executes run (stop_of stop), result r0) ∷ []

-- one record's events, each with its reply
abbrev pub events_of : Record → List (Event × Reply)
events_of (Called answer its) = (called its, replies answer) ∷ []
events_of (Advance run instructions stop r0) = advance_of run instructions stop r0

abbrev pub flat : List Record → List (Event × Reply)
flat records = flat_map events_of records

-- no step is an event of an advance by no instruction
abbrev pub EmptyAdvanceIsNone : Type 0
EmptyAdvanceIsNone =
    (setup : Setup) (run : ℕ) (stop : StoppedAt) (r0 : ℕ) (before after : World) →
    Leads setup before (events_of (Advance run 0 stop r0)) after → ⊥

-- What becomes of the runs that a service kept: each is parked, or comes back where it is not out.
use Rattle.std.specs.Prelude.{◌≡◌, ◌<◌, List, [], ◌∷◌, length}
use Rattle.ccb.specs.Completion.{Outcome}
use Rattle.world.specs.World.{Setup}
use Rattle.engine_core.specs.RunState.{RunState}
use Rattle.engine_core.specs.declared.event.Event.TheVariants.{Park}
use Rattle.engine_core.specs.declared.reply.Returned.TheVariants.{Run}
use Rattle.engine_core.specs.declared.reply.Success.TheVariants.{Parked}
use Rattle.engine_core.specs.declared.reply.Reply.TheVariants.{Success, NotAdmitted}
use Rattle.monitor.specs.Telling.{CallerState}
use Rattle.engine_lock.specs.Sharing.{Section}
use Rattle.workers.specs.Serving.{SeatState, ServedState}

-- One caller parked the runs, one after the other. Those that the engine did not have out then (C4) are left, in their order.
pub data AreSettled (setup : Setup) : CallerState → List RunState → List RunState → CallerState → Type 0 where
  nothing : (caller : CallerState) → AreSettled setup caller [] [] caller
  parks : (before between after : CallerState) (run : RunState) (runs left : List RunState) →
      Section setup (Park run) (Success Parked) before between → AreSettled setup between runs left after → AreSettled setup before (run ∷ runs) left after
  leaves : (before between after : CallerState) (run : RunState) (runs left : List RunState) →
      Section setup (Park run) (NotAdmitted (Run run)) before between → AreSettled setup between runs left after → AreSettled setup before (run ∷ runs) (run ∷ left) after

-- the first seat's caller did so; where there is no seat, none was parked
abbrev pub AreSettledBy : Setup → List SeatState → List RunState → List RunState → List SeatState → Type 0
AreSettledBy setup [] runs left after = (left ≡ runs) × (after ≡ [])
AreSettledBy setup (seat ∷ seats) runs left after =
    (caller : CallerState) × AreSettled setup seat.caller runs left caller × (after ≡ record seat { caller = caller } ∷ seats)

-- what is left of a service whose kept runs are parked
pub record SettledState : Type 0 where
  pub seats : List SeatState
  pub completions : List Outcome

-- Each run was parked, by a recorded call of the first seat's caller, and all else is as it was.
pub record IsSettled (setup : Setup) (served : ServedState) (settled : SettledState) : Type 0 where
  pub runs : AreSettledBy setup served.seats served.runs [] settled.seats
  pub completions : settled.completions ≡ served.completions

-- Each run was parked so, or comes back where it was not out, as at least one does, and all else is as it was.
pub record IsUnsettled (setup : Setup) (served back : ServedState) : Type 0 where
  pub left : 0 < length back.runs
  pub runs : AreSettledBy setup served.seats served.runs back.runs back.seats
  pub rest : back ≡ record served { seats = back.seats; runs = back.runs }

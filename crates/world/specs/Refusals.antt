-- Why a call is refused: its tests in their order, each with the refusal that is told. The first that holds is the answer, and
-- a refused call leaves the world as it was.
use Rattle.std.specs.Prelude.{Bool, false, not, ◌&&◌, nat_lt, nat_le, if◌then◌else◌, List, [], ◌∷◌, Option, Some, None, is_none, slice_index}
use Rattle.ccb.specs.declared.place.Place.{Place}
use Rattle.ccb.specs.declared.place.Place.TheVariants.{Controller, Device}
use Rattle.freeze_ledger.specs.Freezes.{frozen, meets_limit}
use Rattle.world_calls.specs.declared.call.Call.{Call}
use Rattle.world_calls.specs.declared.call.Call.TheVariants.{Submit, Dispatch, Complete, Withdraw, GuestFreeze, GuestRelease, Clock, Park, Resume}
use Rattle.ccb.specs.declared.call_refusal.CallRefusal.{CallRefusal}
use Rattle.ccb.specs.declared.call_refusal.CallRefusal.TheVariants.{Unknown, Limit, NotActive, GoesBack, Frozen, NoOpening, NothingWaits, ControllerFrozen}
use Rattle.world.specs.Capacities.{last_reading}
use Rattle.world.specs.World.{Setup, has_classes, queue_count, queue_setup, LiveCcb, LiveRun, World}
use Rattle.world.specs.Lookups.{is_active, is_waiting, active_count, ccb_of, next_waiting, run_of}
use Rattle.world.specs.Event.{Reply, refused}
use Rattle.world.specs.CcbSteps.{ccb_meets_limit, is_success, run_meets_limit}

-- there is no such place
abbrev pub is_unknown : Setup → Place → Bool
is_unknown setup (Device queue) = nat_le (queue_count setup) queue.0
is_unknown setup (Controller controller) = nat_le setup.controllers controller

-- the CCB is there, and active
abbrev pub works : Option LiveCcb → Bool
works None = false
works (Some live) = is_active live.state

-- the CCB is there, and waits
abbrev pub waits : Option LiveCcb → Bool
waits None = false
waits (Some live) = is_waiting live.state

-- the run is there, and parked
abbrev pub is_parked : Option LiveRun → Bool
is_parked None = false
is_parked (Some run) = not run.out

abbrev pub refusals_of : Setup → World → Call → List (Bool × CallRefusal)
refusals_of setup world (Submit queue priority retries class) =
    (is_unknown setup (Device queue), Unknown) ∷ (ccb_meets_limit queue.0 world, Limit) ∷ []
refusals_of setup world (Dispatch queue) =
    (is_unknown setup (Device queue), Unknown) ∷ (nat_lt 0 (frozen (Device queue) world.transport.freezes), Frozen)
    ∷ (nat_le (slice_index world.transport.openings queue.0) (active_count queue.0 world.transport.live), NoOpening)
    ∷ (is_none (next_waiting queue.0 world.transport.live), NothingWaits)
    ∷ (nat_lt 0 (frozen (Controller (queue_setup setup queue.0).controller) world.transport.freezes), ControllerFrozen) ∷ []
refusals_of setup world (Complete outcome) =
    (is_none (ccb_of outcome.ccb.0 world.transport.live), Unknown) ∷ (not (is_success outcome.status) && run_meets_limit world, Limit)
    ∷ (not (works (ccb_of outcome.ccb.0 world.transport.live)), NotActive) ∷ []
refusals_of setup world (Withdraw ccb) =
    (not (has_classes setup), Unknown) ∷ (is_none (ccb_of ccb.0 world.transport.live), Unknown)
    ∷ (not (waits (ccb_of ccb.0 world.transport.live)), NotActive) ∷ []
refusals_of setup world (GuestFreeze place guest) =
    (is_unknown setup place, Unknown) ∷ (meets_limit place world.transport.freezes world.transport.greatest_freeze, Limit) ∷ []
refusals_of setup world (GuestRelease freeze) = []
refusals_of setup world (Clock reading) = (nat_lt last_reading reading, Limit) ∷ (nat_lt reading world.transport.clock, GoesBack) ∷ []
refusals_of setup world (Park run) = []
refusals_of setup world (Resume run) = (not (is_parked (run_of run world.runs.list)), Unknown) ∷ []

-- the first refusal that holds, with the world as it was; and where none holds, this
abbrev pub unless_refused : List (Bool × CallRefusal) → World → Option (Reply × World) → Option (Reply × World)
unless_refused [] world done = done
unless_refused (x ∷ xs) world done = if x.0 then Some (refused x.1, world) else unless_refused xs world done

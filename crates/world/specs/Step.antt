-- The steps of the world, one event at a time.
use Rattle.std.specs.Prelude.{◌≡◌, Bool, true, if◌then◌else◌, Option, Some, None}
use Rattle.std.specs.Option.{option_map}
use Rattle.freeze_ledger.specs.Freezes.{entry_of}
use Rattle.world_calls.specs.declared.call.Call.{Call}
use Rattle.world_calls.specs.declared.call.Call.TheVariants.{Submit, Dispatch, Complete, Withdraw, GuestFreeze, GuestRelease, Clock, Park, Resume}
use Rattle.world.specs.World.{class_fits, class_in, has_classes, Setup, World}
use Rattle.world.specs.Lookups.{ccb_of, next_waiting, run_of}
use Rattle.world.specs.Event.{Event, called, executes, Reply}
use Rattle.world.specs.FreezeSteps.{guest_freezes, guest_releases, reads_clock}
use Rattle.world.specs.CcbSteps.{submits, starts, completes, withdraws, is_completion}
use Rattle.world.specs.RunSteps.{step_executes}
use Rattle.world.specs.ParkSteps.{parks, resumes}
use Rattle.world.specs.Refusals.{refusals_of, unless_refused}

-- what a call does that is not refused, or `None` where it is no event in this world
abbrev pub performs : Setup → World → Call → Option (Reply × World)
performs setup world (Submit queue priority retries class) = Some (submits world queue priority retries (class_in class))
performs setup world (Dispatch queue) = option_map (starts setup world) (next_waiting queue.0 world.transport.live)
performs setup world (Complete outcome) = option_map (completes setup world outcome) (ccb_of outcome.ccb.0 world.transport.live)
performs setup world (Withdraw ccb) = option_map (withdraws world) (ccb_of ccb.0 world.transport.live)
performs setup world (GuestFreeze place guest) = Some (guest_freezes world place guest)
performs setup world (GuestRelease freeze) = guest_releases world (entry_of freeze world.transport.freezes)
performs setup world (Clock reading) = Some (reads_clock world reading)
performs setup world (Park run) = parks world (run_of run world.runs.list)
performs setup world (Resume run) = option_map (resumes world) (run_of run world.runs.list)

-- it can be asked: a submission, if it says a class where CCBs have one, and there alone; a completion, if a device can report it
abbrev pub is_call : Setup → Call → Bool
is_call setup (Submit queue priority retries class) = class_fits (has_classes setup) class
is_call setup (Complete outcome) = is_completion outcome
is_call setup call = true

-- a call: the first of its refusals that holds, or else what it does
abbrev pub step_call : Setup → World → Call → Option (Reply × World)
step_call setup world call =
    if is_call setup call then unless_refused (refusals_of setup world call) world (performs setup world call) else None

-- what an event is answered and leads to, or `None` where it is no event in this world
abbrev pub step : Setup → World → Event → Option (Reply × World)
step setup world (called call) = step_call setup world call
step setup world (executes run instruction) = step_executes setup.limits world instruction (run_of run world.runs.list)

-- the event with this reply leads from one world to the other
abbrev pub WorldStep : Setup → World → Event → Reply → World → Type 0
WorldStep setup before event reply after = step setup before event ≡ Some (reply, after)

-- The laws of CCBs: each number that was given is live or ended, and the ended ones are those that events ended; and no
-- more start than there are openings.
use Rattle.std.specs.Prelude.{◌≡◌, ℕ, ◌<◌, ◌≤◌, ◌==◌, List, [], ◌∷◌, ◌++◌, Option, Some, None, ◌⊎◌, count_by, slice_index}
use Rattle.ccb.specs.Status.{code_of}
use Rattle.ccb.specs.declared.cam_status.CamStatus.TheVariants.{RequestAborted}
use Rattle.world_calls.specs.declared.call.Call.TheVariants.{Complete, Withdraw}
use Rattle.world_calls.specs.declared.call_answer.CallAnswer.TheVariants as answers
use Rattle.world.specs.World.{Setup, LiveCcb, EndedCcb, LiveRun, World, beginning}
use Rattle.world.specs.Lookups.{active_count, ccb_of, run_of}
use Rattle.world.specs.Told.{finishes}
use Rattle.world.specs.Event.{call, Event, called, executes, Reply, replies}
use Rattle.world.specs.Step.{WorldStep}
use Rattle.world.specs.WorldRun.{Leads, WorldRun}

-- how often the number is among those that ended
abbrev pub ended_times : ℕ → List EndedCcb → ℕ
ended_times number ended = count_by (λ one. one.number == number) ended

-- it is live, and not ended
abbrev pub IsLiveOnly : ℕ → List LiveCcb → List EndedCcb → Type 0
IsLiveOnly number live ended = (it : LiveCcb) × (ccb_of number live ≡ Some it) × (ended_times number ended ≡ 0)

-- it ended, once, and is not live
abbrev pub IsEndedOnly : ℕ → List LiveCcb → List EndedCcb → Type 0
IsEndedOnly number live ended = (ccb_of number live ≡ None) × (ended_times number ended ≡ 1)

-- The number was live at the beginning, or was given since then. At the opening none is live and none was given, so there these are
-- the numbers from 1 to the greatest given.
abbrev pub WasGiven : World → ℕ → ℕ → Type 0
WasGiven begun greatest number = ((it : LiveCcb) × (ccb_of number begun.transport.live ≡ Some it)) ⊎ ((begun.transport.greatest_ccb < number) × (number ≤ greatest))

-- Each such number is live or ended, not both, and ended once at most; no other number is either.
pub record AreAccounted (begun : World) (live : List LiveCcb) (ended : List EndedCcb) (greatest : ℕ) : Type 0 where
  pub each : (number : ℕ) → WasGiven begun greatest number → IsLiveOnly number live ended ⊎ IsEndedOnly number live ended
  pub no_other : (number : ℕ) → (WasGiven begun greatest number → ⊥) → (ccb_of number live ≡ None) × (ended_times number ended ≡ 0)

-- the CCB of this run, with the code
abbrev pub finished_by_run : ℕ → Option LiveRun → List EndedCcb
finished_by_run code None = []
finished_by_run code (Some run) = record { number = run.ccb; code = code } ∷ []

-- the CCB that an event finishes in this world: that of a completion which is done, with the code of its status; that which is
-- withdrawn, with the code of REQ_ABORTED; and that of a run whose call is told to finish it, with the code that is told
abbrev pub finished_by : World → Event → Reply → List EndedCcb
finished_by before (called (Complete outcome)) (replies answers.Done) = record { number = outcome.ccb.0; code = code_of outcome.status } ∷ []
finished_by before (called (Withdraw ccb)) (replies answers.Ok) = record { number = ccb.0; code = code_of RequestAborted } ∷ []
finished_by before (executes run (call (finishes helper code))) reply = finished_by_run code (run_of run before.runs.list)
finished_by before event reply = []

-- all that the events finish, in order
abbrev pub finished_in : (setup : Setup) (before : World) (xs : List (Event × Reply)) (after : World) → Leads setup before xs after → List EndedCcb
finished_in setup before [] after leads = []
finished_in setup before (x ∷ xs) after leads = finished_by before x.0 x.1 ++ finished_in setup leads.0 xs after leads.2

-- At every moment of every run: the numbers are accounted for, and what ended is what the events finished, each with
-- its code.
abbrev pub EachIsLiveOrEnded : Type 0
EachIsLiveOrEnded =
    (setup : Setup) (xs : List (Event × Reply)) (world : World) → (run : WorldRun setup xs world) →
    AreAccounted (beginning setup) world.transport.live world.ended world.transport.greatest_ccb × (world.ended ≡ finished_in setup (beginning setup) xs world run.1)

-- No step makes more CCBs of a queue active than it has openings then. Openings that a run lowers below the active ones
-- stop starts and nothing else, so there may be more active ones, but none is added.
abbrev pub StartsKeepOpenings : Type 0
StartsKeepOpenings =
    (setup : Setup) (xs : List (Event × Reply)) (before : World) → WorldRun setup xs before →
    (event : Event) (reply : Reply) (after : World) → WorldStep setup before event reply after →
    (queue : ℕ) →
    (active_count queue after.transport.live ≤ active_count queue before.transport.live) ⊎ (active_count queue after.transport.live ≤ slice_index before.transport.openings queue)

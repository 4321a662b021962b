-- What a worker does: each completion that it took it asked the engine to complete, and keeps it where that was not answered; each
-- run that it started has ended, or it keeps it.
use Rattle.std.specs.Prelude.{◌≡◌, ◌⊎◌, ℕ, ◌+◌, ◌≤◌, Bool, true, false, ◌||◌, List, [], ◌∷◌, ◌++◌, map, length, All}
use Rattle.std.specs.List.{AllZip}
use Rattle.ccb.specs.Completion.{Outcome}
use Rattle.inbox.specs.InboxLists.{Held}
use Rattle.inbox.specs.Views.{InboxView, PassView, IsOf}
use Rattle.ccb.specs.declared.call_refusal.CallRefusal.TheVariants.{Unknown, NotActive}
use Rattle.world.specs.World.{Setup}
use Rattle.engine_core.specs.RunState.{RunState}
use Rattle.engine_core.specs.declared.answers.AdvanceFault.{AdvanceFault}
use Rattle.engine_core.specs.declared.answers.AdvanceFault.TheVariants as faults
use Rattle.engine_core.specs.declared.event.Event.{Event}
use Rattle.engine_core.specs.declared.event.Event.TheVariants.{Complete, Advance}
use Rattle.engine_core.specs.declared.reply.Returned.{Returned}
use Rattle.engine_core.specs.declared.reply.Returned.TheVariants as its
use Rattle.engine_core.specs.declared.reply.Reply.{Reply}
use Rattle.engine_core.specs.declared.reply.Reply.TheVariants.{NotAdmitted, OutOfMemory, Refused, Success}
use Rattle.engine_core.specs.declared.reply.Success.{Success as WhatIsGiven}
use Rattle.engine_core.specs.declared.reply.Success.TheVariants.{Started, Ended}
use Rattle.monitor.specs.Telling.{CallerState}
use Rattle.workers.specs.Calls.{AreMade, CallMade, each}
use Rattle.workers.specs.declared.driving.TheConstants.{MOST_STARTED}
use Rattle.workers.specs.declared.driving.Why.{Why}
use Rattle.workers.specs.declared.driving.Why.TheVariants.{OutOfMemory as WantOfMemory, NotOut, BudgetUsed}
use Rattle.workers.specs.declared.worker.Kept.{Kept}
use Rattle.workers.specs.declared.worker.Kept.TheVariants.{Nothing, Completion, Run}

pub record SeatState : Type 0 where
  pub caller : CallerState
  pub pass : PassView

pub record WorkerState : Type 0 where
  pub caller : CallerState
  pub pass : PassView
  -- what it keeps, and whether that is for want of memory
  pub kept : Kept
  pub out_of_memory : Bool
  -- how many runs it started, and how many it drove to their ends
  pub started : ℕ
  pub ended : ℕ

abbrev pub at_rest : SeatState → WorkerState
at_rest seat = record { caller = seat.caller; pass = seat.pass; kept = Nothing; out_of_memory = false; started = 0; ended = 0 }

-- the completion that is kept, and the run
abbrev pub completions_in : Kept → List Outcome
completions_in (Completion completion) = completion ∷ []
completions_in kept = []

abbrev pub runs_in : Kept → List RunState
runs_in (Run run) = run ∷ []
runs_in kept = []

-- the same pass, which took these since
pub record Took (before after : PassView) (more : List Outcome) : Type 0 where
  pub queue : after.queue ≡ before.queue
  pub shape : after.account.shape ≡ before.account.shape
  pub number : after.account.number ≡ before.account.number
  pub taken : after.account.taken ≡ before.account.taken ++ more

-- a run came back
abbrev pub IsRunBack : Returned → Type 0
IsRunBack (its.Run run) = Unit {0}
IsRunBack other = ⊥

-- a worker asks for completions and advances alone
abbrev pub Serves : Event → Type 0
Serves (Complete completion) = Unit {0}
Serves (Advance run) = Unit {0}
Serves event = ⊥

-- it advances the run of this number
abbrev pub IsAdvanceOf : ℕ → Event → Type 0
IsAdvanceOf number (Advance run) = run.number ≡ number
IsAdvanceOf number event = ⊥

-- the completion that an event asks for
abbrev pub asked_by : Event → List Outcome
asked_by (Complete completion) = completion.now ∷ []
asked_by event = []

-- it was carried out, or refused with C1 or C3: there is no such CCB, or it is not active
abbrev pub is_answered : Reply → Bool
is_answered (Success given) = true
is_answered (Refused Unknown) = true
is_answered (Refused NotActive) = true
is_answered reply = false

abbrev pub unless : Bool → List Outcome → List Outcome
unless true completions = []
unless false completions = completions

-- the number of the run that it started
abbrev pub started_by : Event → Reply → List ℕ
started_by (Complete completion) (Success (Started run freeze)) = run.number ∷ []
started_by event reply = []

-- no run was started
abbrev pub StartsNone : WhatIsGiven → Type 0
StartsNone (Started run freeze) = ⊥
StartsNone given = Unit {0}

-- the number of the run that came to its exit
abbrev pub ended_by : Event → Reply → List ℕ
ended_by (Advance run) (Success (Ended r0)) = run.number ∷ []
ended_by event reply = []

-- it was carried out, or memory was refused
abbrev pub is_given : Reply → Bool
is_given (Success given) = true
is_given reply = false

abbrev pub is_memory : Reply → Bool
is_memory (OutOfMemory back) = true
is_memory reply = false

-- memory was refused to one of these calls
abbrev pub lacks_memory : List CallMade → Bool
lacks_memory [] = false
lacks_memory (call ∷ calls) = is_memory call.reply || lacks_memory calls

-- the engine's reason as a worker's
abbrev pub why_of : AdvanceFault → Why
why_of faults.OutOfMemory = WantOfMemory
why_of faults.NotOut = NotOut

abbrev pub is_for_memory : Why → Bool
is_for_memory WantOfMemory = true
is_for_memory why = false

-- the completions that were asked for, and those of them that were not answered
abbrev pub asked : List CallMade → List Outcome
asked = each (λ call. asked_by call.event)

abbrev pub unanswered : List CallMade → List Outcome
unanswered = each (λ call. unless (is_answered call.reply) (asked_by call.event))

-- the runs that were started, and those that came to their exits
abbrev pub started : List CallMade → List ℕ
started = each (λ call. started_by call.event call.reply)

abbrev pub ended : List CallMade → List ℕ
ended = each (λ call. ended_by call.event call.reply)

-- each of these calls was carried out
abbrev pub AreCarriedOut : List CallMade → Type 0
AreCarriedOut calls = All (λ call. is_given call.reply ≡ true) calls

-- Each of these calls was carried out but the last, and the last was answered with this reply.
pub record GoUntil (reply : Reply) (calls : List CallMade) : Type 0 where
  pub before : List CallMade
  pub last : CallMade
  pub calls_are : calls ≡ before ++ last ∷ []
  pub went : AreCarriedOut before
  pub last_is : last.reply ≡ reply

-- Why a run is left as it is now, after these advances: memory was refused to the last one, or the engine did not have the run out, and
-- either reply handed back this very run; or all were carried out, and there were as many as the run's budget has instructions.
abbrev pub HasLeft : Why → RunState → List CallMade → Type 0
HasLeft WantOfMemory left advances = GoUntil (OutOfMemory (its.Run left)) advances
HasLeft NotOut left advances = GoUntil (NotAdmitted (its.Run left)) advances
HasLeft BudgetUsed left advances = (length advances ≡ left.program.budget) × AreCarriedOut advances

-- The last of these calls are advances of this run, after which it is not driven on.
pub record IsLeftBy (calls : List CallMade) (run : RunState) : Type 0 where
  pub before : List CallMade
  pub advances : List CallMade
  pub calls_are : calls ≡ before ++ advances
  pub its : All (λ call. IsAdvanceOf run.number call.event) advances
  pub why : Why
  pub has_left : HasLeft why run advances

-- a completion is kept after such a reply: memory was refused, or the engine refused it with another code than C1 and C3
abbrev pub IsKeptFor : Reply → Type 0
IsKeptFor (OutOfMemory back) = Unit {0}
IsKeptFor (Refused refusal) = is_answered (Refused refusal) ≡ false
IsKeptFor reply = ⊥

-- The last of these calls asked for this completion, and was replied to so.
pub record IsHeldBy (calls : List CallMade) (completion : Outcome) : Type 0 where
  pub before : List CallMade
  pub last : CallMade
  pub calls_are : calls ≡ before ++ last ∷ []
  pub its : asked_by last.event ≡ completion ∷ []
  pub why : IsKeptFor last.reply

-- why a worker serves no more: it keeps something, has started as many runs as it may, or found the inbox empty
abbrev pub HasStopped : WorkerState → Type 0
HasStopped worker = worker.kept ≡ Nothing → (worker.started ≡ MOST_STARTED) ⊎ Held worker.pass.account 0

module _ (setup : Setup) where
  -- By these calls of its caller it asked for each completion that it took, once and in the order of the takes, and keeps just
  -- what was not answered; and each run that they started ended by them, or is kept, where it could not be driven on.
  pub record HasDone (before after : WorkerState) : Type 0 where
    pub taken : List Outcome
    pub pass : Took before.pass after.pass taken
    pub calls : List CallMade
    pub made : AreMade setup before.caller calls after.caller
    pub serves : All (λ call. Serves call.event) calls
    pub asks : taken ≡ asked calls
    pub keeps : completions_in after.kept ≡ unanswered calls
    pub keeps_run : started calls ≡ ended calls ++ map (λ run. run.number) (runs_in after.kept)
    pub leaves : (run : RunState) → after.kept ≡ Run run → IsLeftBy calls run
    pub holds : (completion : Outcome) → after.kept ≡ Completion completion → IsHeldBy calls completion
    pub memory : after.out_of_memory ≡ lacks_memory calls
    pub starts : after.started ≡ before.started + length (started calls)
    pub ends : after.ended ≡ before.ended + length (ended calls)

  -- By these calls of the caller a run of this number was advanced and nothing else; these runs came to their exits.
  pub record Drives (number : ℕ) (exited : List ℕ) (before after : CallerState) : Type 0 where
    pub calls : List CallMade
    pub made : AreMade setup before calls after
    pub advances : All (λ call. IsAdvanceOf number call.event) calls
    pub ends : ended calls ≡ exited

  -- The run of this number came to its exit: each of these calls was carried out.
  pub record Ends (number : ℕ) (before after : CallerState) : Type 0 where
    pub drives : Drives number (number ∷ []) before after
    pub went : AreCarriedOut drives.calls

  -- The run is left where it could not be driven on, for this reason: by these calls it was advanced and nothing else.
  pub record Leaves (run left : RunState) (why : Why) (before after : CallerState) : Type 0 where
    pub number : left.number ≡ run.number
    pub program : left.program ≡ run.program
    pub drives : Drives run.number [] before after
    pub has_left : HasLeft why left drives.calls

-- what a service gives back
pub record ServedState : Type 0 where
  pub seats : List SeatState
  pub started : ℕ
  pub ended : ℕ
  pub completions : List Outcome
  pub runs : List RunState
  pub out_of_memory : Bool

abbrev pub nothing_served : ServedState
nothing_served = record { seats = []; started = 0; ended = 0; completions = []; runs = []; out_of_memory = false }

-- a worker's seat more, with what it keeps and counts
abbrev pub with_worker : WorkerState → ServedState → ServedState
with_worker worker served = record {
  seats = served.seats ++ record { caller = worker.caller; pass = worker.pass } ∷ [];
  started = served.started + worker.started;
  ended = served.ended + worker.ended;
  completions = served.completions ++ completions_in worker.kept;
  runs = served.runs ++ runs_in worker.kept;
  out_of_memory = served.out_of_memory || worker.out_of_memory;
}

-- all of these, in their order
abbrev pub all_of : List WorkerState → ServedState → ServedState
all_of [] served = served
all_of (worker ∷ workers) served = all_of workers (with_worker worker served)

-- all seats come back, with what each keeps and counts
pub record AreServed (setup : Setup) (seats : List SeatState) (served : ServedState) : Type 0 where
  pub workers : List WorkerState
  -- each seat served so
  pub each_did : AllZip (HasDone setup) (map at_rest seats) workers
  -- and stopped so
  pub stopped : All HasStopped workers
  pub served_is : served ≡ all_of workers nothing_served

-- it may serve this inbox
pub record IsReady (inbox : InboxView) (worker : WorkerState) : Type 0 where
  pub pass : IsOf inbox worker.pass
  pub free : worker.kept ≡ Nothing
  pub memory : worker.out_of_memory ≡ false
  pub started : worker.started ≤ MOST_STARTED
  pub ended : worker.ended ≤ worker.started

-- it served, and counts no more than it may
pub record HasServed (setup : Setup) (before after : WorkerState) : Type 0 where
  pub did : HasDone setup before after
  pub started : after.started ≤ MOST_STARTED
  pub ended : after.ended ≤ after.started

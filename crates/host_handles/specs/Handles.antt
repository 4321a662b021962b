-- What a host of an engine holds, what an event takes along of it, and what is kept of a reply.
use Rattle.std.specs.Prelude.{◌≡◌, ◌≢◌, ◌⊎◌, ◌∷◌, ℕ, List, All, Option, Some, None, Result, Ok, Err}
use Rattle.std.specs.List.Sorted.{IsNonDecreasingBy, IsPermutation}
use Rattle.ccb.specs.Completion.{IsCompletion}
use Rattle.freeze_ledger.specs.declared.freeze.Freeze.{Freeze}
use Rattle.world_calls.specs.declared.call.Call.{Call}
use Rattle.world_calls.specs.declared.call.Call.TheVariants.{Complete, GuestRelease, Park}
use Rattle.world_calls.specs.declared.call_answer.CallAnswer.{CallAnswer}
use Rattle.world_calls.specs.declared.call_answer.CallAnswer.TheVariants as answers
use Rattle.engine_core.specs.Replies.{answer_of, call_of, recorded_call}
use Rattle.world.specs.World.{Setup}
use Rattle.engine_core.specs.RunState.{RunState, before_stop}
use Rattle.engine_core.specs.declared.event.Event.{Event}
use Rattle.engine_core.specs.declared.event.Event.TheVariants as events
use Rattle.engine_core.specs.declared.reply.Success.{Success}
use Rattle.engine_core.specs.declared.reply.Success.TheVariants as given
use Rattle.engine_core.specs.declared.reply.Returned.{Returned}
use Rattle.engine_core.specs.declared.reply.Returned.TheVariants as back
use Rattle.engine_core.specs.declared.reply.Reply.{Reply}
use Rattle.engine_core.specs.declared.reply.Reply.TheVariants as replied
use Rattle.host_handles.specs.declared.unanswered.Unanswered.{Unanswered}
use Rattle.host_handles.specs.declared.unanswered.Unanswered.TheVariants.{NotHeld, NotAdmitted, OutOfMemory}

-- the runs that are out, and the tokens of freezes
pub record HandlesState : Type 0 where
  pub runs : List RunState
  pub tokens : List Freeze

abbrev pub handles : List RunState → List Freeze → HandlesState
handles runs tokens = record { runs = runs; tokens = tokens }

-- the same with a run or a token more, wherever it stands
abbrev pub HaveRun : RunState → HandlesState → HandlesState → Type 0
HaveRun run few more = IsPermutation more.runs (run ∷ few.runs) × (more.tokens ≡ few.tokens)

abbrev pub HaveToken : Freeze → HandlesState → HandlesState → Type 0
HaveToken token few more = IsPermutation more.tokens (token ∷ few.tokens) × (more.runs ≡ few.runs)

-- what an event takes along is taken out
abbrev pub TakesAlong : Event → HandlesState → HandlesState → Type 0
TakesAlong (events.Advance run) before left = HaveRun (before_stop run) left before
TakesAlong (events.Park run) before left = HaveRun run left before
TakesAlong (events.GuestRelease token) before left = HaveToken token left before
TakesAlong event before left = left ≡ before

-- what is given is kept where it is a run or a token
abbrev pub KeepsGiven : Success → HandlesState → HandlesState → Type 0
KeepsGiven (given.Started run freeze) left after = HaveRun run left after
KeepsGiven (given.Goes run r0) left after = HaveRun run left after
KeepsGiven (given.Resumed run) left after = HaveRun run left after
KeepsGiven (given.Freeze token) left after = HaveToken token left after
KeepsGiven what left after = after ≡ left

-- so is what comes back
abbrev pub KeepsReturned : Returned → HandlesState → HandlesState → Type 0
KeepsReturned back.Nothing left after = after ≡ left
KeepsReturned (back.Run run) left after = HaveRun run left after
KeepsReturned (back.Token token) left after = HaveToken token left after

-- the reply is one that gives this answer, and what it gives is kept
abbrev pub IsAnswer : CallAnswer → Reply → HandlesState → HandlesState → Type 0
IsAnswer answer (replied.Success what) left after = (answer ≡ answer_of what) × KeepsGiven what left after
IsAnswer answer (replied.Refused refusal) left after = (answer ≡ answers.Refused refusal) × (after ≡ left)
IsAnswer answer (replied.NotAdmitted what) left after = ⊥
IsAnswer answer (replied.OutOfMemory what) left after = ⊥

-- Whoever is asked replies so to events: this one has a reply that says so, of which all is kept.
abbrev pub IsRepliedTo : (Event → Reply → Type 0) → Event → HandlesState → HandlesState → Result CallAnswer Unanswered → Type 0
IsRepliedTo Replies event left after (Ok answer) = (reply : Reply) × Replies event reply × IsAnswer answer reply left after
IsRepliedTo Replies event left after (Err NotHeld) = ⊥
IsRepliedTo Replies event left after (Err NotAdmitted) = (what : Returned) × Replies event (replied.NotAdmitted what) × KeepsReturned what left after
IsRepliedTo Replies event left after (Err OutOfMemory) = (what : Returned) × Replies event (replied.OutOfMemory what) × KeepsReturned what left after

-- an event of this kind was asked, with what it takes along of what is held
pub record IsAsked (Replies : Event → Reply → Type 0) (IsFor : Event → Type 0) (before after : HandlesState) (result : Result CallAnswer Unanswered) : Type 0 where
  pub event : Event
  pub left : HandlesState
  pub for : IsFor event
  pub takes : TakesAlong event before left
  pub replied : IsRepliedTo Replies event left after result

-- What was asked so is answered or comes back. Nobody was asked, and all is the same, where what it takes along is not held, and
-- it may be so where memory was refused.
abbrev pub IsSettled : (Event → Reply → Type 0) → (Event → Type 0) → (Unheld Same : Type 0) → HandlesState → HandlesState → Result CallAnswer Unanswered → Type 0
IsSettled Replies IsFor Unheld Same before after (Ok answer) = IsAsked Replies IsFor before after (Ok answer)
IsSettled Replies IsFor Unheld Same before after (Err NotHeld) = Unheld × Same × (after ≡ before)
IsSettled Replies IsFor Unheld Same before after (Err NotAdmitted) = IsAsked Replies IsFor before after (Err NotAdmitted)
IsSettled Replies IsFor Unheld Same before after (Err OutOfMemory) = (Same × (after ≡ before)) ⊎ IsAsked Replies IsFor before after (Err OutOfMemory)

abbrev pub HasNoRun : ℕ → HandlesState → Type 0
HasNoRun number held = All (λ run. run.number ≢ number) held.runs

abbrev pub HasNoToken : ℕ → HandlesState → Type 0
HasNoToken number held = All (λ token. token.number ≢ number) held.tokens

-- no event is made of the call
abbrev pub IsUnheld : Call → HandlesState → Type 0
IsUnheld (Complete outcome) held = IsCompletion outcome → ⊥
IsUnheld (GuestRelease freeze) held = HasNoToken freeze held
IsUnheld (Park run) held = HasNoRun run held
IsUnheld call held = ⊥

-- the event of a call, by its record in an engine of any setup, and an advance of a run
abbrev pub IsOfCall : Call → Event → Type 0
IsOfCall call event = (setup : Setup) → call_of setup event ≡ Some (recorded_call setup call)

abbrev pub IsAdvanceOf : ℕ → Event → Type 0
IsAdvanceOf number (events.Advance run) = run.number ≡ number
IsAdvanceOf number event = ⊥

-- ---- inside

abbrev pub AreSorted : List RunState → List Freeze → Type 0
AreSorted runs tokens = IsNonDecreasingBy (λ run. run.number) runs × IsNonDecreasingBy (λ token. token.number) tokens

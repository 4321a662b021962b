-- What the reply to a call says: which record it makes, what it gives, and what comes back.
use Rattle.std.specs.Prelude.{◌≡◌, ℕ, Bool, true, false, List, Option, Some, None, IfSome, MatchOption, Result, Ok, Err}
use Rattle.std.specs.Option.{option_map}
use Rattle.bpf_insn.specs.declared.program.Slot.{Slot}
use Rattle.ccb.specs.declared.CcbId.{CcbId}
use Rattle.ccb.specs.declared.QueueId.{QueueId}
use Rattle.freeze_ledger.specs.declared.freeze.Holder.TheVariants.{Guest}
use Rattle.world_calls.specs.declared.call.Call.{Call}
use Rattle.world_calls.specs.declared.call.Call.TheVariants as its
use Rattle.world_calls.specs.declared.call_answer.CallAnswer.{CallAnswer}
use Rattle.world_calls.specs.declared.call_answer.CallAnswer.TheVariants as answers
use Rattle.ccb.specs.declared.call_refusal.CallRefusal.{CallRefusal}
use Rattle.world_calls.specs.declared.record.Record.{Record}
use Rattle.world_calls.specs.declared.record.Record.TheVariants.{Called, Advance as advanced}
use Rattle.engine_core.specs.RunState.{IsOut, IsOutUnder, RunState, before_stop}
use Rattle.world_calls.specs.declared.start.Start.{Start}
use Rattle.world_calls.specs.declared.trace.Version.{Version}
use Rattle.world_calls.specs.declared.trace.Version.TheVariants.{One, Three, Two}
use Rattle.world.specs.World.{Setup, World, class_in, class_kept, queue_setup}
use Rattle.engine_core.specs.declared.answers.CompleteAnswer.{CompleteAnswer}
use Rattle.engine_core.specs.declared.answers.CompleteAnswer.TheVariants as completes
use Rattle.engine_core.specs.declared.answers.AdvanceAnswer.{AdvanceAnswer}
use Rattle.engine_core.specs.declared.answers.AdvanceAnswer.TheVariants as advances
use Rattle.freeze_ledger.specs.declared.freeze.Freeze.{Freeze as TheFreeze}
use Rattle.engine_core.specs.declared.answers.CallFault.{CallFault}
use Rattle.engine_core.specs.declared.answers.CallFault.TheVariants as faults
use Rattle.engine_core.specs.declared.event.Event.{Event}
use Rattle.engine_core.specs.declared.event.Event.TheVariants.{Submit, Dispatch, Complete, Withdraw, Advance, Clock, GuestFreeze, GuestRelease, Park, Resume}
use Rattle.engine_core.specs.declared.reply.Success.{Success}
use Rattle.engine_core.specs.declared.reply.Success.TheVariants.{Advised, Ccb, Done, Withdrawn, Started, Goes, Ended, Freeze, Left, Removed, Parked, Resumed}
use Rattle.engine_core.specs.declared.reply.Returned.{Returned}
use Rattle.engine_core.specs.declared.reply.Returned.TheVariants as back
use Rattle.engine_core.specs.declared.reply.Reply.{Reply}
use Rattle.engine_core.specs.declared.reply.Reply.TheVariants as replied
use Rattle.engine_core.specs.Answers.{completed_of, stopped_at, GoesOrEnds}
use Rattle.engine_core.specs.EngineState.{EngineState, Records, GuestHolds}

-- What may be given, by the event.

abbrev pub IsCcb : Success → Type 0
IsCcb (Ccb ccb) = Unit {0}
IsCcb given = ⊥

abbrev pub IsStart : Success → Type 0
IsStart (Ccb ccb) = Unit {0}
IsStart (Advised start) = Unit {0}
IsStart given = ⊥

abbrev pub IsWithdrawn : Success → Type 0
IsWithdrawn Withdrawn = Unit {0}
IsWithdrawn given = ⊥

abbrev pub IsCompleted : Success → Type 0
IsCompleted Done = Unit {0}
IsCompleted (Started run freeze) = Unit {0}
IsCompleted given = ⊥

abbrev pub IsAdvanced : Success → Type 0
IsAdvanced (Goes run r0) = Unit {0}
IsAdvanced (Ended r0) = Unit {0}
IsAdvanced given = ⊥

abbrev pub IsRemoved : Success → Type 0
IsRemoved (Removed count) = Unit {0}
IsRemoved given = ⊥

abbrev pub IsFreeze : Success → Type 0
IsFreeze (Freeze token) = Unit {0}
IsFreeze given = ⊥

abbrev pub IsLeft : Success → Type 0
IsLeft (Left count) = Unit {0}
IsLeft given = ⊥

abbrev pub IsParked : Success → Type 0
IsParked Parked = Unit {0}
IsParked given = ⊥

abbrev pub IsResumed : Success → Type 0
IsResumed (Resumed run) = Unit {0}
IsResumed given = ⊥

abbrev pub SuccessMatchesEvent : Event → Success → Type 0
SuccessMatchesEvent (Submit queue priority retries class) given = IsCcb given
SuccessMatchesEvent (Dispatch queue) given = IsStart given
SuccessMatchesEvent (Complete completion) given = IsCompleted given
SuccessMatchesEvent (Withdraw ccb) given = IsWithdrawn given
SuccessMatchesEvent (Advance run) given = IsAdvanced given
SuccessMatchesEvent (Clock reading) given = IsRemoved given
SuccessMatchesEvent (GuestFreeze place guest) given = IsFreeze given
SuccessMatchesEvent (GuestRelease token) given = IsLeft given
SuccessMatchesEvent (Park run) given = IsParked given
SuccessMatchesEvent (Resume run) given = IsResumed given

-- what a start gives in a vocabulary
abbrev pub given_start : Version → Start → Success
given_start One start = Ccb start.ccb
given_start Two start = Ccb start.ccb
given_start Three start = Advised start

abbrev pub given_completed : CompleteAnswer → Success
given_completed completes.Done = Done
given_completed (completes.Started run freeze) = Started run freeze

abbrev pub given_advanced : AdvanceAnswer → Success
given_advanced (advances.Goes run r0) = Goes run r0
given_advanced (advances.Ended r0) = Ended r0

-- what the event owns
abbrev pub owned : Event → Returned
owned (Advance run) = back.Run (before_stop run)
owned (GuestRelease token) = back.Token token
owned (Park run) = back.Run run
owned event = back.Nothing

abbrev pub is_park : Event → Bool
is_park (Park run) = true
is_park event = false

-- The record.

-- the call that an event makes, as it is recorded, but for an advance
abbrev pub call_of : Setup → Event → Option Call
call_of setup (Submit queue priority retries class) = Some (its.Submit queue priority retries (class_kept setup class))
call_of setup (Dispatch queue) = Some (its.Dispatch queue)
call_of setup (Complete completion) = Some (its.Complete completion.now)
call_of setup (Withdraw ccb) = Some (its.Withdraw ccb)
call_of setup (Advance run) = None
call_of setup (Clock reading) = Some (its.Clock reading)
call_of setup (GuestFreeze place guest) = Some (its.GuestFreeze place guest)
call_of setup (GuestRelease token) = Some (its.GuestRelease token.number)
call_of setup (Park run) = Some (its.Park run.number)
call_of setup (Resume run) = Some (its.Resume run)

-- a call as it is recorded: a submission says its class where CCBs have one, and there alone
abbrev pub recorded_call : Setup → Call → Call
recorded_call setup (its.Submit queue priority retries class) = its.Submit queue priority retries (class_kept setup (class_in class))
recorded_call setup call = call

-- the answer to a call that is carried out
abbrev pub answer_of : Success → CallAnswer
answer_of (Ccb ccb) = answers.Ccb ccb
answer_of (Advised start) = answers.Advised start.ccb start.advice
answer_of Done = answers.Done
answer_of (Started run freeze) = answers.Started run.number freeze
answer_of (Freeze token) = answers.Freeze token.number
answer_of (Left count) = answers.Left count
answer_of (Removed count) = answers.Removed count
answer_of given = answers.Ok

-- R0 after what an advance gives
abbrev pub r0_given : Success → ℕ
r0_given (Goes run r0) = r0
r0_given (Ended r0) = r0
r0_given given = 0

-- the record of an event that is carried out, where this is what it gives
abbrev pub record_given : Setup → Event → Success → Record
record_given setup (Submit queue priority retries class) given = Called (answer_of given) (its.Submit queue priority retries (class_kept setup class))
record_given setup (Dispatch queue) given = Called (answer_of given) (its.Dispatch queue)
record_given setup (Complete completion) given = Called (answer_of given) (its.Complete completion.now)
record_given setup (Withdraw ccb) given = Called (answer_of given) (its.Withdraw ccb)
record_given setup (Advance run) given = advanced run.number run.segment.steps (stopped_at run.segment.stop) (r0_given given)
record_given setup (Clock reading) given = Called (answer_of given) (its.Clock reading)
record_given setup (GuestFreeze place guest) given = Called (answer_of given) (its.GuestFreeze place guest)
record_given setup (GuestRelease token) given = Called (answer_of given) (its.GuestRelease token.number)
record_given setup (Park run) given = Called (answer_of given) (its.Park run.number)
record_given setup (Resume run) given = Called (answer_of given) (its.Resume run)

-- the one record that an event with this reply makes, or none
abbrev pub record_of : Setup → Event → Reply → Option Record
record_of setup event (replied.Success given) = Some (record_given setup event given)
record_of setup event (replied.Refused refusal) = option_map (λ call. Called (answers.Refused refusal) call) (call_of setup event)
record_of setup event (replied.NotAdmitted back) = None
record_of setup event (replied.OutOfMemory back) = None

abbrev pub is_recorded : Reply → Bool
is_recorded (replied.Success given) = true
is_recorded (replied.Refused refusal) = true
is_recorded (replied.NotAdmitted back) = false
is_recorded (replied.OutOfMemory back) = false

-- with a record one record more, and without one all is as it was
abbrev pub IsRecorded : EngineState → Event → Reply → EngineState → Type 0
IsRecorded old event reply new = MatchOption (record_of old.setup event reply) (new ≡ old) (λ told. Records old new told)

-- the event owns a run or a token
abbrev pub owns : Event → Bool
owns (Advance run) = true
owns (GuestRelease token) = true
owns (Park run) = true
owns event = false

-- The event can be replied to so: it gives what it may. What owns something is carried out or unfit, and never refused, and
-- that comes back where it is not carried out; what owns nothing is never unfit. A park takes no memory.
abbrev pub ReplyMatchesEvent : Event → Reply → Type 0
ReplyMatchesEvent event (replied.Success given) = SuccessMatchesEvent event given
ReplyMatchesEvent event (replied.Refused refusal) = owns event ≡ false
ReplyMatchesEvent event (replied.NotAdmitted back) = (owns event ≡ true) × (back ≡ owned event)
ReplyMatchesEvent event (replied.OutOfMemory back) = (is_park event ≡ false) × (back ≡ owned event)

-- the run is out with this program and in this machine, or a guest's freeze is the token's; other events fit always
abbrev pub IsFit : World → Event → Type 0
IsFit world (Advance run) = IsOut world (before_stop run)
IsFit world (GuestRelease token) = GuestHolds world token
IsFit world (Park run) = IsOut world run
IsFit world event = Unit {0}

-- an advance is of a run with this program
abbrev pub IsOfProgram : List Slot → Event → Type 0
IsOfProgram program (Advance run) = run.segment.program.program ≡ program
IsOfProgram program event = Unit {0}

-- where a queue is known, an advance is of a run with that queue's program
abbrev pub IsOfKnown : Setup → Event → Option QueueId → Type 0
IsOfKnown setup event known = IfSome known (λ queue. IsOfProgram (queue_setup setup queue.0).program event)

-- C4 and C6: it does not fit
abbrev pub IsUnfit : World → Event → Type 0
IsUnfit world event = IsFit world event → ⊥

-- it is told to be unfit exactly where it is
abbrev pub ToldFit : World → Event → Reply → Type 0
ToldFit world event (replied.NotAdmitted back) = IsUnfit world event
ToldFit world event reply = IsFit world event

-- what is given is what the world has then: a run that is out, or a guest's freeze
abbrev pub IsGiven : Setup → World → Event → World → Success → Type 0
IsGiven setup before (Complete completion) after (Started run freeze) = IsOutUnder setup after run
IsGiven setup before (Advance run) after (Goes again r0) = GoesOrEnds setup before after (before_stop run) run.segment (advances.Goes again r0)
IsGiven setup before (Advance run) after (Ended r0) = GoesOrEnds setup before after (before_stop run) run.segment (advances.Ended r0)
IsGiven setup before (GuestFreeze place guest) after (Freeze token) = GuestHolds after token × (token.place ≡ place) × (token.holder ≡ Guest guest)
IsGiven setup before (Resume run) after (Resumed again) = (again.number ≡ run) × IsOutUnder setup after again
IsGiven setup before event after given = Unit {0}

abbrev pub GivesAsRecorded : Setup → World → Event → World → Reply → Type 0
GivesAsRecorded setup before event after (replied.Success given) = IsGiven setup before event after given
GivesAsRecorded setup before event after reply = Unit {0}

-- What is replied where the code gives a value or a refusal.

abbrev pub ccb_reply : Result CcbId CallRefusal → Reply
ccb_reply (Ok ccb) = replied.Success (Ccb ccb)
ccb_reply (Err refusal) = replied.Refused refusal

abbrev pub start_reply : Version → Result Start CallRefusal → Reply
start_reply version (Ok start) = replied.Success (given_start version start)
start_reply version (Err refusal) = replied.Refused refusal

abbrev pub withdrawn_reply : Result (Unit {0}) CallRefusal → Reply
withdrawn_reply (Ok done) = replied.Success Withdrawn
withdrawn_reply (Err refusal) = replied.Refused refusal

abbrev pub removed_reply : Result ℕ CallRefusal → Reply
removed_reply (Ok count) = replied.Success (Removed count)
removed_reply (Err refusal) = replied.Refused refusal

abbrev pub completed_reply : Result CompleteAnswer CallRefusal → Reply
completed_reply (Ok answer) = replied.Success (given_completed answer)
completed_reply (Err refusal) = replied.Refused refusal

abbrev pub token_reply : Result TheFreeze CallRefusal → Reply
token_reply (Ok token) = replied.Success (Freeze token)
token_reply (Err refusal) = replied.Refused refusal

abbrev pub resumed_reply : Result RunState CallRefusal → Reply
resumed_reply (Ok run) = replied.Success (Resumed run)
resumed_reply (Err refusal) = replied.Refused refusal

-- why a call that owns nothing is not carried out
abbrev pub fault_reply : CallFault → Reply
fault_reply faults.OutOfMemory = replied.OutOfMemory back.Nothing
fault_reply (faults.Refused refusal) = replied.Refused refusal

-- What is recorded where the code gives a value or a refusal.

abbrev pub withdrawn_answer : Result (Unit {0}) CallRefusal → CallAnswer
withdrawn_answer (Ok done) = answers.Ok
withdrawn_answer (Err refusal) = answers.Refused refusal

abbrev pub completed_answer : Result CompleteAnswer CallRefusal → CallAnswer
completed_answer (Ok answer) = completed_of answer
completed_answer (Err refusal) = answers.Refused refusal

abbrev pub token_answer : Result TheFreeze CallRefusal → CallAnswer
token_answer (Ok token) = answers.Freeze token.number
token_answer (Err refusal) = answers.Refused refusal

abbrev pub resumed_answer : Result RunState CallRefusal → CallAnswer
resumed_answer (Ok run) = answers.Ok
resumed_answer (Err refusal) = answers.Refused refusal

-- Which records have a text in a version. That their numbers and bytes are as their types have them is no part of it.
use Rattle.std.specs.Prelude.{◌<◌, ◌^◌, ℕ, All, IsSome, List, Option, Some, None}
use Rattle.std.specs.List.{AllByRecursion}
use Rattle.ccb.specs.Places.{number_of}
use Rattle.world_calls.specs.declared.call.Call.{Call}
use Rattle.world_calls.specs.declared.call.Call.TheVariants as calls
use Rattle.world_calls.specs.declared.call_answer.CallAnswer.{CallAnswer}
use Rattle.world_calls.specs.declared.call_answer.CallAnswer.TheVariants as answers
use Rattle.world_calls.specs.declared.record.Record.{Record}
use Rattle.world_calls.specs.declared.record.Record.TheVariants.{Called, Advance}
use Rattle.world_calls.specs.declared.record.StoppedAt.{StoppedAt}
use Rattle.world_calls.specs.declared.record.StoppedAt.TheVariants as stopped
use Rattle.world_calls.specs.declared.trace.Version.{Version}
use Rattle.trace.specs.TraceText.{record_text}

-- a class that is said is below 2^32
abbrev pub ClassFits : Option ℕ → Type 0
ClassFits None = Unit {0}
ClassFits (Some class) = class < 2 ^ 32

-- the numbers of a call are below 2^32, and a clock reading below 2^64
abbrev pub CallFits : Call → Type 0
CallFits (calls.Submit queue priority retries class) = (queue.0 < 2 ^ 32) × (priority < 2 ^ 32) × (retries < 2 ^ 32) × ClassFits class
CallFits (calls.Dispatch queue) = queue.0 < 2 ^ 32
CallFits (calls.Complete outcome) = outcome.ccb.0 < 2 ^ 32
CallFits (calls.Withdraw ccb) = ccb.0 < 2 ^ 32
CallFits (calls.GuestFreeze place guest) = (number_of place < 2 ^ 32) × (guest < 2 ^ 32)
CallFits (calls.GuestRelease freeze) = freeze < 2 ^ 32
CallFits (calls.Clock reading) = reading < 2 ^ 64
CallFits (calls.Park run) = run < 2 ^ 32
CallFits (calls.Resume run) = run < 2 ^ 32

abbrev pub AnswerFits : CallAnswer → Type 0
AnswerFits (answers.Ccb ccb) = ccb.0 < 2 ^ 32
AnswerFits (answers.Advised ccb advice) = (ccb.0 < 2 ^ 32) × (advice < 2 ^ 32)
AnswerFits answers.Done = Unit {0}
AnswerFits (answers.Started run freeze) = (run < 2 ^ 32) × (freeze < 2 ^ 32)
AnswerFits (answers.Freeze freeze) = freeze < 2 ^ 32
AnswerFits (answers.Left count) = count < 2 ^ 32
AnswerFits (answers.Removed count) = count < 2 ^ 32
AnswerFits answers.Ok = Unit {0}
AnswerFits (answers.Refused refusal) = Unit {0}

abbrev pub StopFits : StoppedAt → Type 0
StopFits (stopped.Helper helper) = Unit {0}
StopFits (stopped.Trace helper bytes) = All (λ byte. byte < 256) bytes
StopFits (stopped.Finish helper code) = Unit {0}
StopFits stopped.Exit = Unit {0}

abbrev pub NumbersFit : Record → Type 0
NumbersFit (Called answer call) = CallFits call × AnswerFits answer
NumbersFit (Advance run instructions stop r0) = (run < 2 ^ 32) × StopFits stop × (r0 < 2 ^ 64)

-- with numbers and bytes that are such, the record has a text
abbrev pub HasText : Version → Record → Type 0
HasText version entry = NumbersFit entry → IsSome (record_text version entry)

abbrev pub AllHaveText : Version → List Record → Type 0
AllHaveText version records = AllByRecursion (HasText version) records

-- Calls and their lines: the word of each call and its text, what its fields hold, and the call of these. A line has its cases here.
use Rattle.std.specs.Prelude.{ℕ, Option, Some, None, List, [], codes, unwrap_or}
use Rattle.ccb.specs.Completion.{Outcome}
use Rattle.ccb.specs.declared.QueueId.{QueueId}
use Rattle.ccb.specs.declared.cam_status.CamStatus.TheVariants.{RequestInProgress}
use Rattle.ccb.specs.declared.place.Place.TheVariants.{Controller, Device}
use Rattle.world_calls.specs.declared.call.Call.{Call}
use Rattle.world_calls.specs.declared.call.Call.TheVariants as calls
use Rattle.trace_lines.specs.Values.{byte_in, bytes_in, long_number_at, number_at, number_in, status_in}
use Rattle.trace_lines.specs.declared.kind.Slots.{Slots}
use Rattle.trace_lines.specs.declared.value.Value.{Value}
use Rattle.trace_lines.specs.declared.value.Value.TheVariants as values
use Rattle.trace_lines.specs.declared.word.Word.{Word}
use Rattle.trace_lines.specs.declared.word.Word.TheVariants as words

abbrev pub word_text : Word → List ℕ
word_text words.Submit = codes "submit"
word_text words.Dispatch = codes "dispatch"
word_text words.Complete = codes "complete"
word_text words.Withdraw = codes "withdraw"
word_text words.Advance = codes "advance"
word_text words.FreezeQueue = codes "gfreeze"
word_text words.FreezeController = codes "cfreeze"
word_text words.ReleaseFreeze = codes "grelease"
word_text words.Clock = codes "clock"
word_text words.Park = codes "park"
word_text words.Resume = codes "resume"

abbrev pub one : Value → Slots Value
one first = record { first = Some first; second = None; third = None; fourth = None }

abbrev pub two : Value → Value → Slots Value
two first second = record { first = Some first; second = Some second; third = None; fourth = None }

abbrev pub three : Value → Value → Value → Slots Value
three first second third = record { first = Some first; second = Some second; third = Some third; fourth = None }

-- the number, if there is one
abbrev pub number_of : Option ℕ → Option Value
number_of None = None
number_of (Some number) = Some (values.Number number)

abbrev pub submitted : QueueId → ℕ → ℕ → Option ℕ → Slots Value
submitted queue priority retries class = record {
  first = Some (values.Number queue.0);
  second = Some (values.Number priority);
  third = Some (values.Number retries);
  fourth = number_of class;
}

abbrev pub completed : Outcome → Slots Value
completed outcome = record {
  first = Some (values.Number outcome.ccb.0);
  second = Some (values.Status outcome.status);
  third = Some (values.Byte outcome.scsi);
  fourth = Some (values.Bytes outcome.sense);
}

abbrev pub word_of : Call → Word
word_of (calls.Submit queue priority retries class) = words.Submit
word_of (calls.Dispatch queue) = words.Dispatch
word_of (calls.Complete outcome) = words.Complete
word_of (calls.Withdraw ccb) = words.Withdraw
word_of (calls.GuestFreeze (Device queue) guest) = words.FreezeQueue
word_of (calls.GuestFreeze (Controller controller) guest) = words.FreezeController
word_of (calls.GuestRelease freeze) = words.ReleaseFreeze
word_of (calls.Clock reading) = words.Clock
word_of (calls.Park run) = words.Park
word_of (calls.Resume run) = words.Resume

abbrev pub values_of : Call → Slots Value
values_of (calls.Submit queue priority retries class) = submitted queue priority retries class
values_of (calls.Dispatch queue) = one (values.Number queue.0)
values_of (calls.Complete outcome) = completed outcome
values_of (calls.Withdraw ccb) = one (values.Number ccb.0)
values_of (calls.GuestFreeze (Device queue) guest) = two (values.Number queue.0) (values.Number guest)
values_of (calls.GuestFreeze (Controller controller) guest) = two (values.Number controller) (values.Number guest)
values_of (calls.GuestRelease freeze) = one (values.Number freeze)
values_of (calls.Clock reading) = one (values.LongNumber reading)
values_of (calls.Park run) = one (values.Number run)
values_of (calls.Resume run) = one (values.Number run)

-- what was reported of a CCB
abbrev pub outcome_of : Slots Value → Outcome
outcome_of held = record {
  ccb = record { 0 = number_at held.first };
  status = unwrap_or (status_in held.second) RequestInProgress;
  scsi = unwrap_or (byte_in held.third) 0;
  sense = unwrap_or (bytes_in held.fourth) [];
}

-- the call, but of a run that went on
abbrev pub call_of : Word → Slots Value → Option Call
call_of words.Submit held = Some (calls.Submit (record { 0 = number_at held.first }) (number_at held.second) (number_at held.third) (number_in held.fourth))
call_of words.Dispatch held = Some (calls.Dispatch (record { 0 = number_at held.first }))
call_of words.Complete held = Some (calls.Complete (outcome_of held))
call_of words.Withdraw held = Some (calls.Withdraw (record { 0 = number_at held.first }))
call_of words.Advance held = None
call_of words.FreezeQueue held = Some (calls.GuestFreeze (Device (record { 0 = number_at held.first })) (number_at held.second))
call_of words.FreezeController held = Some (calls.GuestFreeze (Controller (number_at held.first)) (number_at held.second))
call_of words.ReleaseFreeze held = Some (calls.GuestRelease (number_at held.first))
call_of words.Clock held = Some (calls.Clock (long_number_at held.first))
call_of words.Park held = Some (calls.Park (number_at held.first))
call_of words.Resume held = Some (calls.Resume (number_at held.first))

-- The numbers and the texts of results, and which result stands for which fault.
use Rattle.std.specs.Prelude.{ℕ, ◌==◌, List, Option, codes, find}
use Rattle.std.specs.Option.{option_map}
use Rattle.ccb.specs.declared.call_refusal.CallRefusal.{CallRefusal}
use Rattle.ccb.specs.declared.call_refusal.TheConstants.{REFUSALS}
use Rattle.ccb.specs.CallRefusalText.{refusal_text, row_of}
use Rattle.engine_core.specs.declared.answers.CallFault.{CallFault}
use Rattle.engine_core.specs.declared.answers.CallFault.TheVariants as fault
use Rattle.engine_core.specs.declared.answers.ReleaseFault.{ReleaseFault}
use Rattle.engine_core.specs.declared.answers.ReleaseFault.TheVariants as release
use Rattle.engine_core.specs.declared.answers.AdvanceFault.{AdvanceFault}
use Rattle.engine_core.specs.declared.answers.AdvanceFault.TheVariants as advance
use Rattle.host_embedding.specs.declared.call_result.CallResult.{CallResult}
use Rattle.host_embedding.specs.declared.call_result.CallResult.TheVariants.{Done, OutOfMemory, Refused, NotOut, NotHeld, NoToken, NoCompletion, Spent, NotStretched, NotUtf8, Faulty, NoRoom, NoText, Null, TooLong, Taken, RunsLive, DoesNotFit}

-- the number of a refusal stands in its row
abbrev pub number_of_refusal : CallRefusal → ℕ
number_of_refusal refusal = (row_of refusal).number

-- the refusal whose row has that number
unfoldable pub refusal_numbered : ℕ → Option CallRefusal
refusal_numbered number = option_map (λ row. row.refusal) (find (λ row. number_of_refusal row.refusal == number) REFUSALS)

abbrev pub number_of : CallResult → ℕ
number_of Done = 0
number_of OutOfMemory = 1
number_of (Refused refusal) = number_of_refusal refusal
number_of NotOut = 10
number_of NotHeld = 11
number_of NoToken = 12
number_of NoCompletion = 13
number_of Spent = 14
number_of NotStretched = 15
number_of NotUtf8 = 16
number_of Faulty = 17
number_of NoRoom = 18
number_of NoText = 19
number_of Null = 20
number_of TooLong = 21
number_of Taken = 22
number_of RunsLive = 23
number_of DoesNotFit = 24

-- the text of a result
abbrev pub text_of : CallResult → List ℕ
text_of Done = codes "done"
text_of OutOfMemory = codes "memory was refused"
text_of (Refused refusal) = refusal_text refusal
text_of NotOut = codes "C4: the run is not out in this engine"
text_of NotHeld = codes "C6: no guest's freeze is the token's"
text_of NoToken = codes "no token of that number is held here"
text_of NoCompletion = codes "no device reports such a completion"
text_of Spent = codes "the run has ended or is parked"
text_of NotStretched = codes "the run was not taken to its next stop"
text_of NotUtf8 = codes "the manifest is not UTF-8"
text_of Faulty = codes "the manifest is faulty"
text_of NoRoom = codes "not one line more finds room"
text_of NoText = codes "a record has no text"
text_of Null = codes "a pointer is null"
text_of TooLong = codes "a length is greater than any object's"
text_of Taken = codes "the record was taken before"
text_of RunsLive = codes "a run is live"
text_of DoesNotFit = codes "the manifest does not fit what is held"

abbrev pub result_of : CallFault → CallResult
result_of fault.OutOfMemory = OutOfMemory
result_of (fault.Refused refusal) = Refused refusal

abbrev pub released_result : ReleaseFault → CallResult
released_result release.OutOfMemory = OutOfMemory
released_result release.NotHeld = NotHeld

abbrev pub advanced_result : AdvanceFault → CallResult
advanced_result advance.OutOfMemory = OutOfMemory
advanced_result advance.NotOut = NotOut

-- Which records a text of a version may have. Before the second version nothing is told of controllers, and before the third nothing of
-- classes, advice and withdrawals, but that what a call names is not there.
use Rattle.std.specs.Prelude.{ℕ, Bool, true, false, nat_le, nat_lt, not, ◌&&◌, if◌then◌else◌, Option, is_none, is_some}
use Rattle.ccb.specs.CallRefusalText.{row_of}
use Rattle.ccb.specs.declared.call_refusal.CallRefusal.{CallRefusal}
use Rattle.ccb.specs.declared.place.Place.TheVariants.{Controller}
use Rattle.helpers.specs.Table.{is_there}
use Rattle.helpers.specs.declared.limits.HelperSet.{HelperSet}
use Rattle.helpers.specs.declared.limits.HelperSet.TheVariants.{Classes, Controllers, Queues}
use Rattle.helpers.specs.declared.table.Helper.{Helper}
use Rattle.world_calls.specs.declared.call.Call.{Call}
use Rattle.world_calls.specs.declared.call.Call.TheVariants.{Dispatch, GuestFreeze, Submit, Withdraw}
use Rattle.world_calls.specs.declared.call_answer.CallAnswer.{CallAnswer}
use Rattle.world_calls.specs.declared.call_answer.CallAnswer.TheVariants.{Advised, Ccb, Refused}
use Rattle.ccb.specs.declared.call_refusal.CallRefusal.TheVariants.{Unknown}
use Rattle.world_calls.specs.declared.record.Record.{Record}
use Rattle.world_calls.specs.declared.record.Record.TheVariants.{Called, Advance}
use Rattle.world_calls.specs.declared.record.StoppedAt.{StoppedAt}
use Rattle.world_calls.specs.declared.record.StoppedAt.TheVariants as stopped
use Rattle.world_calls.specs.declared.trace.Version.{Version}
use Rattle.world_calls.specs.declared.trace.Version.TheVariants.{One, Three, Two}
use Rattle.trace_lines.specs.Versions.{has_classes}

-- the number of a version
abbrev pub number_of : Version → ℕ
number_of One = 1
number_of Two = 2
number_of Three = 3

-- the helpers that it has
abbrev pub helpers_of : Version → HelperSet
helpers_of One = Queues
helpers_of Two = Controllers
helpers_of Three = Classes

-- it was refused, since what it names is not there
abbrev pub is_unknown : CallAnswer → Bool
is_unknown (Refused Unknown) = true
is_unknown answer = false

-- the version does not have the refusal
abbrev pub is_later : Version → CallRefusal → Bool
is_later version refusal = nat_lt (number_of version) (row_of refusal).since

-- it was refused for such a reason
abbrev pub is_later_refusal : Version → CallAnswer → Bool
is_later_refusal version (Refused refusal) = is_later version refusal
is_later_refusal version answer = false

-- the first version in which what the call names may be there
abbrev pub since : Call → ℕ
since (GuestFreeze (Controller controller) guest) = 2
since (Withdraw ccb) = 3
since call = 1

abbrev pub is_since : Version → Call → Bool
is_since version call = nat_le (since call) (number_of version)

-- a submission says a class where CCBs have one, and there alone
abbrev pub is_class_of : Version → Option ℕ → Bool
is_class_of version class = if has_classes version then is_some class else is_none class

abbrev pub is_call_of : Version → Call → Bool
is_call_of version (Submit queue priority retries class) = is_class_of version class
is_call_of version call = true

-- a start reports an advice where CCBs have one, and there alone
abbrev pub is_start_of : Version → CallAnswer → Bool
is_start_of version (Ccb ccb) = not (has_classes version)
is_start_of version (Advised ccb advice) = has_classes version
is_start_of version answer = true

abbrev pub is_told_of : Version → Call → CallAnswer → Bool
is_told_of version (Dispatch queue) answer = is_start_of version answer
is_told_of version call answer = true

-- what the call names is not there, or it may be there, and the call was not refused for a reason that the version does not have
abbrev pub is_answer_of : Version → Call → CallAnswer → Bool
is_answer_of version call answer = if is_since version call then not (is_later_refusal version answer) else is_unknown answer

-- the helper is one of those that there are
abbrev pub is_helper_of : Version → Helper → Bool
is_helper_of version helper = is_there (helpers_of version) helper

abbrev pub is_stop_of : Version → StoppedAt → Bool
is_stop_of version (stopped.Helper helper) = is_helper_of version helper
is_stop_of version (stopped.Trace helper bytes) = is_helper_of version helper
is_stop_of version (stopped.Finish helper code) = is_helper_of version helper
is_stop_of version stopped.Exit = true

-- a text of the version may have the record
abbrev pub is_of : Version → Record → Bool
is_of version (Called answer call) = is_call_of version call && is_told_of version call answer && is_answer_of version call answer
is_of version (Advance run instructions stop r0) = is_stop_of version stop

-- What a record tells that is counted, and what a carried line tells.
use Rattle.std.specs.Prelude.{ℕ, ◌==◌, Option, Some, None, if◌then◌else◌}
use Rattle.ccb.specs.Status.{code_of}
use Rattle.helpers.specs.Table.{number_of}
use Rattle.world_calls.specs.declared.call.Call.{Call}
use Rattle.world_calls.specs.declared.call.Call.TheVariants.{Submit, Dispatch, Complete}
use Rattle.world_calls.specs.declared.call_answer.CallAnswer.{CallAnswer}
use Rattle.world_calls.specs.declared.call_answer.CallAnswer.TheVariants.{Ccb, Advised, Done, Started}
use Rattle.world_calls.specs.declared.carried_line.CarriedLine.{CarriedLine}
use Rattle.world_calls.specs.declared.carried_line.CarriedLine.TheVariants as lines
use Rattle.world_calls.specs.declared.record.Record.{Record}
use Rattle.world_calls.specs.declared.record.Record.TheVariants.{Called, Advance}
use Rattle.world_calls.specs.declared.record.StoppedAt.{StoppedAt}
use Rattle.show_counts.specs.declared.told.Tells.{Tells}
use Rattle.show_counts.specs.declared.told.Tells.TheVariants as tells
use Rattle.world_calls.specs.declared.record.StoppedAt.TheVariants.{Helper, Trace, Finish, Exit}

-- a CCB that a line carries over, and its queue
abbrev pub carried : CarriedLine → Option (ℕ × ℕ)
carried (lines.Ccb it) = Some (it.number.0, it.queue.0)
carried line = None

-- a pair of numbers, if there are both
abbrev pub pair_with : Option ℕ → ℕ → Option (ℕ × ℕ)
pair_with None second = None
pair_with (Some first) second = Some (first, second)

-- the CCB that a call was answered by
abbrev pub ccb_in : CallAnswer → Option ℕ
ccb_in (Ccb ccb) = Some ccb.0
ccb_in answer = None

-- the CCB that a start was answered by, alone or with what is advised
abbrev pub started_in : CallAnswer → Option ℕ
started_in (Ccb ccb) = Some ccb.0
started_in (Advised ccb advice) = Some ccb.0
started_in answer = None

-- the run that a call was answered by
abbrev pub run_in : CallAnswer → Option ℕ
run_in (Started run freeze) = Some run
run_in answer = None

-- the CCB of a completion that was answered by its end or by a run
abbrev pub completed_in : CallAnswer → ℕ → Option ℕ
completed_in Done ccb = Some ccb
completed_in (Started run freeze) ccb = Some ccb
completed_in answer ccb = None

abbrev pub submitted_by : CallAnswer → Call → Option (ℕ × ℕ)
submitted_by answer (Submit queue priority retries class) = pair_with (ccb_in answer) queue.0
submitted_by answer call = None

-- a submission that was answered by a CCB: the CCB, and the queue
abbrev pub submission : Record → Option (ℕ × ℕ)
submission (Called answer call) = submitted_by answer call
submission (Advance run instructions stop r0) = None

abbrev pub started_by : CallAnswer → Call → Option (ℕ × ℕ)
started_by answer (Dispatch queue) = pair_with (started_in answer) queue.0
started_by answer call = None

-- a start that was answered by a CCB: the CCB, and the queue
abbrev pub start : Record → Option (ℕ × ℕ)
start (Called answer call) = started_by answer call
start (Advance run instructions stop r0) = None

abbrev pub completed_by : CallAnswer → Call → Option (ℕ × ℕ)
completed_by answer (Complete completion) = pair_with (completed_in answer completion.ccb.0) (code_of completion.status)
completed_by answer call = None

-- a completion that was answered by its end or by a run: the CCB, and the code of the status
abbrev pub completion : Record → Option (ℕ × ℕ)
completion (Called answer call) = completed_by answer call
completion (Advance run instructions stop r0) = None

abbrev pub recovered_by : CallAnswer → Call → Option (ℕ × ℕ)
recovered_by answer (Complete completion) = pair_with (run_in answer) completion.ccb.0
recovered_by answer call = None

-- a completion that was answered by a run: the run, and the CCB
abbrev pub recovery : Record → Option (ℕ × ℕ)
recovery (Called answer call) = recovered_by answer call
recovery (Advance run instructions stop r0) = None

abbrev pub its_second : Option (ℕ × ℕ) → Option (ℕ × ℕ)
its_second None = None
its_second (Some pair) = Some (pair.1, 0)

-- the same: the CCB, and 0
abbrev pub failure : Record → Option (ℕ × ℕ)
failure it = its_second (recovery it)

abbrev pub code_at : StoppedAt → Option ℕ
code_at (Finish helper code) = Some code
code_at stop = None

abbrev pub finished_by : ℕ → Option ℕ → Option (ℕ × ℕ)
finished_by run None = None
finished_by run (Some code) = Some (run, code)

-- a call of a helper that finishes a CCB: the run, and the final code
abbrev pub finish : Record → Option (ℕ × ℕ)
finish (Called answer call) = None
finish (Advance run instructions stop r0) = finished_by run (code_at stop)

abbrev pub helper_at : StoppedAt → Option ℕ
helper_at (Helper helper) = Some (number_of helper)
helper_at (Trace helper bytes) = Some (number_of helper)
helper_at (Finish helper code) = Some (number_of helper)
helper_at Exit = None

-- a call of a helper: the run, and the helper's number
abbrev pub helper_call : Record → Option (ℕ × ℕ)
helper_call (Called answer call) = None
helper_call (Advance run instructions stop r0) = finished_by run (helper_at stop)

-- the same where the answer is 0
abbrev pub zero_answer : Record → Option (ℕ × ℕ)
zero_answer (Called answer call) = None
zero_answer (Advance run instructions stop r0) = if r0 == 0 then finished_by run (helper_at stop) else None

-- what of it is told
abbrev pub told_by : Tells → Record → Option (ℕ × ℕ)
told_by tells.Submission it = submission it
told_by tells.Start it = start it
told_by tells.Completion it = completion it
told_by tells.Recovery it = recovery it
told_by tells.Failure it = failure it
told_by tells.Finish it = finish it
told_by tells.HelperCall it = helper_call it
told_by tells.ZeroAnswer it = zero_answer it

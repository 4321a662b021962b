-- What a call answers, where its code gives a value or a refusal.
use Rattle.std.specs.Prelude.{ℕ, Result, Ok, Err}
use Rattle.ccb.specs.declared.CcbId.{CcbId}
use Rattle.freeze_ledger.specs.declared.freeze.Freeze.{Freeze}
use Rattle.world_calls.specs.declared.start.Start.{Start}
use Rattle.world_calls.specs.declared.trace.Version.{Version}
use Rattle.world_calls.specs.declared.trace.Version.TheVariants.{One, Three, Two}
use Rattle.world_calls.specs.declared.call_answer.CallAnswer.{CallAnswer}
use Rattle.world_calls.specs.declared.call_answer.CallAnswer.TheVariants as answers
use Rattle.ccb.specs.declared.call_refusal.CallRefusal.{CallRefusal}

-- a CCB that was submitted
abbrev pub ccb_answer : Result CcbId CallRefusal → CallAnswer
ccb_answer (Ok ccb) = answers.Ccb ccb
ccb_answer (Err refusal) = answers.Refused refusal

-- a CCB that was started: where CCBs have an advice, it is reported
abbrev pub started_answer : Version → Start → CallAnswer
started_answer One start = answers.Ccb start.ccb
started_answer Two start = answers.Ccb start.ccb
started_answer Three start = answers.Advised start.ccb start.advice

abbrev pub start_answer : Version → Result Start CallRefusal → CallAnswer
start_answer version (Ok start) = started_answer version start
start_answer version (Err refusal) = answers.Refused refusal

-- a freeze that was taken
abbrev pub freeze_answer : Result Freeze CallRefusal → CallAnswer
freeze_answer (Ok freeze) = answers.Freeze freeze.number
freeze_answer (Err refusal) = answers.Refused refusal

-- how many freezes a clock reading let go
abbrev pub removed_answer : Result ℕ CallRefusal → CallAnswer
removed_answer (Ok count) = answers.Removed count
removed_answer (Err refusal) = answers.Refused refusal

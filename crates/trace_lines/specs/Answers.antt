-- How an answer is spelled, by the form and the refusals of its row.
use Rattle.std.specs.Prelude.{ℕ, Option, Some, None, List, codes}
use Rattle.std.specs.Fmt.{option_append}
use Rattle.ccb.specs.CallRefusalText.{call_refusal_text}
use Rattle.ccb.specs.declared.call_refusal.CallRefusal.{CallRefusal}
use Rattle.world_calls.specs.declared.call_answer.CallAnswer.{CallAnswer}
use Rattle.world_calls.specs.declared.call_answer.CallAnswer.TheVariants as answers
use Rattle.trace_lines.specs.Rows.{may_be}
use Rattle.trace_lines.specs.Texts.{where_true, number_text}
use Rattle.trace_lines.specs.declared.table.Form.{Form}
use Rattle.trace_lines.specs.declared.table.Form.TheVariants as forms
use Rattle.trace_lines.specs.declared.table.Row.{Row}

-- a number after its name
abbrev pub named_number_text : List ℕ → ℕ → Option (List ℕ)
named_number_text name number = option_append (Some name) (number_text number)

-- a run and its freeze
abbrev pub started_text : ℕ × ℕ → Option (List ℕ)
started_text told = option_append (named_number_text (codes "run ") told.0) (named_number_text (codes " freeze ") told.1)

-- a CCB, and what is advised at its start
abbrev pub advised_text : ℕ × ℕ → Option (List ℕ)
advised_text told = option_append (named_number_text (codes "ccb ") told.0) (named_number_text (codes " advice ") told.1)

-- an answer that says what is advised, and no other one
abbrev pub advised_answer_text : CallAnswer → Option (List ℕ)
advised_answer_text (answers.Advised ccb advice) = advised_text (ccb.0, advice)
advised_answer_text answer = None

-- the code of a refusal
abbrev pub code_told : CallRefusal → Option (List ℕ)
code_told refusal = Some (call_refusal_text refusal)

-- what is no refusal has a text in its form alone
abbrev pub form_text : Form → CallAnswer → Option (List ℕ)
form_text forms.Ccb (answers.Ccb ccb) = named_number_text (codes "ccb ") ccb.0
form_text forms.Start (answers.Ccb ccb) = named_number_text (codes "ccb ") ccb.0
form_text forms.Start (answers.Advised ccb advice) = advised_text (ccb.0, advice)
form_text forms.Completed answers.Done = Some (codes "done")
form_text forms.Completed (answers.Started run freeze) = started_text (run, freeze)
form_text forms.Freeze (answers.Freeze freeze) = named_number_text (codes "freeze ") freeze
form_text forms.Left (answers.Left count) = number_text count
form_text forms.Went (answers.Removed count) = number_text count
form_text forms.Ok answers.Ok = Some (codes "ok")
form_text form answer = None

-- a refusal that is the row's
abbrev pub refusal_text : Row → CallRefusal → Option (List ℕ)
refusal_text row refusal = where_true (may_be row refusal) (call_refusal_text refusal)

-- an answer of another form, and a refusal that is not the row's, have none
abbrev pub answer_text : Row → CallAnswer → Option (List ℕ)
answer_text row (answers.Refused refusal) = refusal_text row refusal
answer_text row answer = form_text row.form answer

-- How the lines of a trace are spelled that are no call's: of a run that went on, and of the sums.
use Rattle.std.proofs.Common.{◌≡◌, ℕ, Option, Some, None, List, [], ◌++◌, codes}
use Rattle.std.specs.Fmt.{option_append}
use Rattle.world_calls.specs.declared.record.Record.TheVariants.{Advance}
use Rattle.world_calls.specs.declared.record.StoppedAt.{StoppedAt}
use Rattle.trace_lines.specs.Lines.{fields_text}
use Rattle.trace_lines.specs.Rows.{row_of}
use Rattle.trace_lines.specs.Texts.{field_text, instructions_text, long_number_text, number_text, stop_text}
use Rattle.trace_lines.specs.Written.{IsPut}
use Rattle.trace_lines.proofs.Putting.{none_first, none_second, put_text, put_both}
use Rattle.trace.specs.declared.sums.TheConstants.{SUMS}
use Rattle.trace.specs.TraceText.{line_of, stop_of, values_of_sums}

-- where a run stopped has no spelling, and so the record has none
pub advance_none : (run instructions r0 : ℕ) (stop : StoppedAt) → stop_text (stop_of stop) ≡ None → line_of (Advance run instructions stop r0) ≡ None
unfolding row_of fields_text field_text
advance_none run instructions r0 stop e =
    none_first _ (option_append (Some (codes " = ")) (long_number_text r0))
    (none_second (Some (codes "advance")) _
    (none_second (option_append (Some (codes " ")) (number_text run)) _
    (none_second (option_append (Some (codes " ")) (instructions_text instructions)) _
    (none_first _ (Some []) (none_second (Some (codes " ")) (stop_text (stop_of stop)) e)))))

-- a field after a blank
pub put_field : (text : Option (List ℕ)) (old mid new : List ℕ) → mid ≡ old ++ codes " " → IsPut text mid new → IsPut (option_append (Some (codes " ")) text) old new
put_field text old mid new blank put = put_both (Some (codes " ")) text old mid new (put_text (codes " ") old mid blank) put

-- the four sums
pub put_sums : (history frozen active runs : ℕ) (old one two three new : List ℕ)
    → IsPut (option_append (Some (codes " ")) (long_number_text history)) old one → IsPut (option_append (Some (codes " ")) (number_text frozen)) one two
    → IsPut (option_append (Some (codes " ")) (number_text active)) two three → IsPut (option_append (Some (codes " ")) (number_text runs)) three new
    → IsPut (fields_text SUMS (values_of_sums (record { history = history; frozen = frozen; active = active; runs = runs }))) old new
unfolding fields_text field_text
put_sums history frozen active runs old one two three new a b c d =
    put_both (option_append (Some (codes " ")) (long_number_text history)) _ old one new a
    (put_both (option_append (Some (codes " ")) (number_text frozen)) _ one two new b
    (put_both (option_append (Some (codes " ")) (number_text active)) (option_append (Some (codes " ")) (number_text runs)) two three new c d))

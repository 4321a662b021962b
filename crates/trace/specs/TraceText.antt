-- The text of a trace, if all of it has a spelling in the trace's version.
use Rattle.std.specs.Prelude.{ℕ, Option, Some, None, List, [], ◌∷◌, codes, if◌then◌else◌}
use Rattle.std.specs.Fmt.{option_append, with_newline}
use Rattle.world_calls.specs.declared.record.Record.{Record}
use Rattle.world_calls.specs.declared.record.Record.TheVariants.{Called, Advance}
use Rattle.world_calls.specs.declared.record.StoppedAt.{StoppedAt}
use Rattle.world_calls.specs.declared.record.StoppedAt.TheVariants as stopped
use Rattle.world_calls.specs.declared.totals.Totals.{Totals}
use Rattle.world_calls.specs.declared.trace.Trace.{Trace}
use Rattle.world_calls.specs.declared.trace.Version.{Version}
use Rattle.world_calls.specs.declared.trace.Version.TheVariants.{One, Three, Two}
use Rattle.trace_lines.specs.Answers.{answer_text}
use Rattle.trace_lines.specs.Calls.{three, values_of, word_of}
use Rattle.trace_lines.specs.Lines.{fields_text, line_text}
use Rattle.trace_lines.specs.Rows.{row_of}
use Rattle.trace_lines.specs.Texts.{long_number_text}
use Rattle.trace_lines.specs.declared.kind.Slots.{Slots}
use Rattle.trace_lines.specs.declared.value.Stop.{Stop}
use Rattle.trace_lines.specs.declared.value.Stop.TheVariants as stops
use Rattle.trace_lines.specs.declared.value.Value.{Value}
use Rattle.trace_lines.specs.declared.value.Value.TheVariants as values
use Rattle.trace_lines.specs.declared.word.Word.{Word}
use Rattle.trace_lines.specs.declared.word.Word.TheVariants as words
use Rattle.trace.specs.Versions.{is_of}
use Rattle.trace.specs.declared.sums.TheConstants.{SUMS}

-- the first line, with its line feed
abbrev pub header : Version → List ℕ
header One = codes "camr-trace 1\n"
header Two = codes "camr-trace 2\n"
header Three = codes "camr-trace 3\n"

-- where a run stopped, as a field
abbrev pub stop_of : StoppedAt → Stop
stop_of (stopped.Helper helper) = stops.Helper helper
stop_of (stopped.Trace helper bytes) = stops.Bytes helper bytes
stop_of (stopped.Finish helper code) = stops.Code helper code
stop_of stopped.Exit = stops.Exit

-- what was asked: the word of a record's line, and what the fields hold
abbrev pub asked_of : Record → Word × Slots Value
asked_of (Called answer call) = (word_of call, values_of call)
asked_of (Advance run instructions stop r0) = (words.Advance, three (values.Number run) (values.Number instructions) (values.Stop (stop_of stop)))

-- what was answered, and what R0 is where a run went on
abbrev pub told_text : Record → Option (List ℕ)
told_text (Called answer call) = answer_text (row_of (word_of call)) answer
told_text (Advance run instructions stop r0) = long_number_text r0

-- a record's line without its line feed, which is the same in each version that may have the record
abbrev pub line_of : Record → Option (List ℕ)
line_of entry = option_append (line_text (asked_of entry).0 (asked_of entry).1) (option_append (Some (codes " = ")) (told_text entry))

-- the line, of a record that a text of the version may have, and with its line feed
abbrev pub entry_text : Version → Record → Option (List ℕ)
entry_text version entry = if is_of version entry then line_of entry else None

abbrev pub record_text : Version → Record → Option (List ℕ)
record_text version entry = with_newline (entry_text version entry)

unfoldable pub records_text : Version → List Record → Option (List ℕ)
records_text version [] = Some []
records_text version (first ∷ rest) = option_append (record_text version first) (records_text version rest)

-- what the fields of the last line hold
abbrev pub values_of_sums : Totals → Slots Value
values_of_sums totals = record {
  first = Some (values.LongNumber totals.history);
  second = Some (values.Number totals.frozen);
  third = Some (values.Number totals.active);
  fourth = Some (values.Number totals.runs);
}

-- the last line without its line feed, and with it
abbrev pub sums_text : Totals → Option (List ℕ)
sums_text totals = option_append (Some (codes "end")) (fields_text SUMS (values_of_sums totals))

abbrev pub totals_text : Totals → Option (List ℕ)
totals_text totals = with_newline (sums_text totals)

-- what follows the first line
abbrev pub lines_text : Version → List Record → Totals → Option (List ℕ)
lines_text version records totals = option_append (records_text version records) (totals_text totals)

abbrev pub trace_text : Trace → Option (List ℕ)
trace_text trace = option_append (Some (header trace.version)) (lines_text trace.version trace.records.items trace.totals)

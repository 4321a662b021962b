-- The rows of the lines, each at its word's place.
use Rattle.std.specs.Prelude.{ℕ, Bool, false, List, None, Option, bytes_eq, find, slice_index_or}
use Rattle.std.specs.Option.{option_map}
use Rattle.ccb.specs.declared.call_refusal.CallRefusal.{CallRefusal}
use Rattle.ccb.specs.declared.call_refusal.RefusedCalls.{RefusedCalls}
use Rattle.ccb.specs.CallRefusalText.{row_of as refusal_row}
use Rattle.trace_lines.specs.Calls.{word_text}
use Rattle.trace_lines.specs.declared.word.Word.{Word}
use Rattle.trace_lines.specs.declared.word.Word.TheVariants.{Park}
use Rattle.trace_lines.specs.declared.word.Word.TheVariants as words
use Rattle.trace_lines.specs.contracts.word.Word as word
use Rattle.trace_lines.specs.declared.table.Form.TheVariants as forms
use Rattle.trace_lines.specs.declared.table.Row.{Row}
use Rattle.trace_lines.specs.declared.table.TheConstants.{LINES}
use denote.Enum.Declared.{tag_of}

-- the row of no line
abbrev pub no_row : Row
no_row = record {
  word = Park;
  fields = record { first = None; second = None; third = None; fourth = None };
  form = forms.Ok;
}

-- the row of a word
unfoldable pub row_of : Word → Row
row_of name = slice_index_or LINES (tag_of word.the_type name) no_row

abbrev pub is_named : List ℕ → Row → Bool
is_named name row = bytes_eq (word_text row.word) name

-- the word that is spelled so
unfoldable pub word_named : List ℕ → Option Word
word_named name = option_map (λ row. row.word) (find (is_named name) LINES)

-- which of a refusal's columns says whether the lines of a word may be refused so
abbrev pub is_refused_by : Word → RefusedCalls → Bool
is_refused_by words.Submit calls = calls.submit
is_refused_by words.Dispatch calls = calls.dispatch
is_refused_by words.Complete calls = calls.complete
is_refused_by words.Withdraw calls = calls.withdraw
is_refused_by words.FreezeQueue calls = calls.freeze
is_refused_by words.FreezeController calls = calls.freeze
is_refused_by words.Clock calls = calls.clock
is_refused_by words.Resume calls = calls.resume
is_refused_by word calls = false

-- the line may be refused so
abbrev pub may_be : Row → CallRefusal → Bool
may_be row refusal = is_refused_by row.word (refusal_row refusal).calls

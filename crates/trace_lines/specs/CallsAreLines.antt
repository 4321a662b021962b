-- Calls and lines are one: what of that is a law.
use Rattle.std.specs.Prelude.{◌≡◌, Some, List, ℕ}
use Rattle.world_calls.specs.declared.call.Call.{Call}
use Rattle.trace_lines.specs.Calls.{values_of, word_of, call_of}
use Rattle.trace_lines.specs.Lines.{line_text}
use Rattle.trace_lines.specs.declared.kind.Slots.{Slots}
use Rattle.trace_lines.specs.declared.value.Value.{Value}
use Rattle.trace_lines.specs.declared.word.Word.{Word}

-- A call is known by its word and values, and what is spelled as a line of a call is the line of one.
abbrev pub CallsAreLines : Type 0
CallsAreLines = ((call : Call) → call_of (word_of call) (values_of call) ≡ Some call)
    × ((word : Word) (held : Slots Value) (text : List ℕ) (call : Call) → line_text word held ≡ Some text → call_of word held ≡ Some call → (word_of call ≡ word) × (values_of call ≡ held))

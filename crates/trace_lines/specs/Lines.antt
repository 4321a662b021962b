-- How a line is spelled: its word and its fields, each after a blank.
use Rattle.std.specs.Prelude.{ℕ, Bool, true, false, Option, Some, None, List, [], codes}
use Rattle.std.specs.Fmt.{option_append}
use Rattle.trace_lines.specs.Calls.{word_text}
use Rattle.trace_lines.specs.Rows.{row_of}
use Rattle.trace_lines.specs.Texts.{field_text, where_true}
use Rattle.trace_lines.specs.declared.kind.Kind.{Kind}
use Rattle.trace_lines.specs.declared.kind.Kind.TheVariants as kinds
use Rattle.trace_lines.specs.declared.kind.Slots.{Slots}
use Rattle.trace_lines.specs.declared.value.Value.{Value}
use Rattle.trace_lines.specs.declared.word.Word.{Word}

-- a line may end before a field of this kind
abbrev pub may_lack : Kind → Bool
may_lack kinds.Class = true
may_lack kind = false

-- a value is there exactly where the line has a field, but that of a field which may be left out
abbrev pub slot_text : Option Kind → Option Value → Option (List ℕ)
slot_text None None = Some []
slot_text None (Some value) = None
slot_text (Some kind) None = where_true (may_lack kind) []
slot_text (Some kind) (Some value) = option_append (Some (codes " ")) (field_text kind value)

unfoldable pub fields_text : Slots Kind → Slots Value → Option (List ℕ)
fields_text fields held =
    option_append (slot_text fields.first held.first) (option_append (slot_text fields.second held.second) (option_append (slot_text fields.third held.third) (slot_text fields.fourth held.fourth)))

abbrev pub line_text : Word → Slots Value → Option (List ℕ)
line_text word held = option_append (Some (word_text word)) (fields_text (row_of word).fields held)

-- How a carried line is spelled: its word, and its fields, each after one blank.
use Rattle.std.specs.Prelude.{ℕ, ◌==◌, ◌&&◌, not, Bool, true, false, Option, Some, None, List, [], ◌∷◌, ◌++◌, codes, if◌then◌else◌}
use Rattle.std.specs.Fmt.{option_append}
use Rattle.ccb.specs.Places.{kind_word, number_of}
use Rattle.ccb.specs.declared.place.Place.{Place}
use Rattle.freeze_ledger.specs.declared.freeze.Freeze.{Freeze}
use Rattle.freeze_ledger.specs.declared.freeze.Holder.{Holder}
use Rattle.freeze_ledger.specs.declared.freeze.Holder.TheVariants as holders
use Rattle.world_calls.specs.declared.carried_line.CarriedCcb.{CarriedCcb}
use Rattle.world_calls.specs.declared.carried_line.CarriedLine.{CarriedLine}
use Rattle.world_calls.specs.declared.carried_line.CarriedLine.TheVariants as lines
use Rattle.world_calls.specs.declared.trace.Version.{Version}
use Rattle.trace_lines.specs.Texts.{number_text, long_number_text}
use Rattle.trace_lines.specs.Versions.{has_classes}
use Rattle.carried_lines.specs.declared.kind.Kind.{Kind}
use Rattle.carried_lines.specs.declared.kind.Kind.TheVariants as kinds

-- a field after its blank, if it has a text
abbrev pub after_blank : Option (List ℕ) → Option (List ℕ)
after_blank field = option_append (Some (codes " ")) field

-- fields, each after a blank, if each has a text
abbrev pub after_blanks : List (Option (List ℕ)) → Option (List ℕ)
after_blanks [] = Some []
after_blanks (field ∷ fields) = option_append (after_blank field) (after_blanks fields)

-- what is frozen: `queue Q` or `controller C`
abbrev pub place_fields : Place → List (Option (List ℕ))
place_fields place = Some (kind_word place) ∷ number_text (number_of place) ∷ []

-- who holds a freeze: `timer T` or `guest G`; a freeze that a run holds has no line
abbrev pub holder_fields : Holder → List (Option (List ℕ))
holder_fields (holders.Run run) = None ∷ []
holder_fields (holders.Timer due) = Some (codes "timer") ∷ long_number_text due ∷ []
holder_fields (holders.Guest guest) = Some (codes "guest") ∷ number_text guest ∷ []

-- the number of a freeze, what is frozen, and who holds it
abbrev pub freeze_fields : Freeze → List (Option (List ℕ))
freeze_fields freeze = number_text freeze.number ∷ (place_fields freeze.place ++ holder_fields freeze.holder)

-- whether a device works on a CCB
abbrev pub state_word : Bool → List ℕ
state_word true = codes "active"
state_word false = codes "waiting"

-- no class and no advice
abbrev pub has_neither : ℕ → ℕ → Bool
has_neither class advice = class == 0 && advice == 0

-- the class and the advice, where CCBs have them; elsewhere nothing stands for 0 and 0, and other numbers have no text
abbrev pub class_fields : Bool → ℕ → ℕ → List (Option (List ℕ))
class_fields true class advice = number_text class ∷ number_text advice ∷ []
class_fields false class advice = if has_neither class advice then [] else None ∷ []

-- whether it is active, which is the last field
abbrev pub state_fields : CarriedCcb → List (Option (List ℕ))
state_fields ccb = Some (state_word ccb.is_active) ∷ []

-- the number of a CCB, its queue, its priority, the retries that are left, how often it was started, its class and advice in a version that
-- has them, and whether it is active
abbrev pub ccb_fields_by : Bool → CarriedCcb → List (Option (List ℕ))
ccb_fields_by there ccb =
    number_text ccb.number.0 ∷ number_text ccb.queue.0 ∷ number_text ccb.priority ∷ number_text ccb.retries ∷ number_text ccb.attempts
    ∷ (class_fields there ccb.class ccb.advice ++ state_fields ccb)

abbrev pub ccb_fields : Version → CarriedCcb → List (Option (List ℕ))
ccb_fields version ccb = ccb_fields_by (has_classes version) ccb

-- the same with neither class nor advice, and with both
abbrev pub plain_ccb_fields : CarriedCcb → List (Option (List ℕ))
plain_ccb_fields ccb =
    number_text ccb.number.0 ∷ number_text ccb.queue.0 ∷ number_text ccb.priority ∷ number_text ccb.retries ∷ number_text ccb.attempts
    ∷ Some (state_word ccb.is_active) ∷ []

abbrev pub classed_ccb_fields : CarriedCcb → List (Option (List ℕ))
classed_ccb_fields ccb =
    number_text ccb.number.0 ∷ number_text ccb.queue.0 ∷ number_text ccb.priority ∷ number_text ccb.retries ∷ number_text ccb.attempts
    ∷ number_text ccb.class ∷ number_text ccb.advice ∷ Some (state_word ccb.is_active) ∷ []

abbrev pub kind_of : CarriedLine → Kind
kind_of (lines.Numbers ccb freeze run) = kinds.Numbers
kind_of (lines.Clock reading) = kinds.Clock
kind_of (lines.Openings queue openings) = kinds.Openings
kind_of (lines.Word table index word) = kinds.Word
kind_of (lines.Ccb ccb) = kinds.Ccb
kind_of (lines.Freeze freeze) = kinds.Freeze

-- the word with which a line begins
abbrev pub kind_text : Kind → List ℕ
kind_text kinds.Numbers = codes "numbers"
kind_text kinds.Clock = codes "clock"
kind_text kinds.Openings = codes "openings"
kind_text kinds.Word = codes "word"
kind_text kinds.Ccb = codes "ccb"
kind_text kinds.Freeze = codes "freeze"

-- and its fields, in a version
abbrev pub fields_of : Version → CarriedLine → List (Option (List ℕ))
fields_of version (lines.Numbers ccb freeze run) = number_text ccb ∷ number_text freeze ∷ number_text run ∷ []
fields_of version (lines.Clock reading) = long_number_text reading ∷ []
fields_of version (lines.Openings queue openings) = number_text queue ∷ number_text openings ∷ []
fields_of version (lines.Word table index word) = number_text table ∷ number_text index ∷ long_number_text word ∷ []
fields_of version (lines.Ccb ccb) = ccb_fields version ccb
fields_of version (lines.Freeze freeze) = freeze_fields freeze

-- the text of a line of a version without its line feed, if it has one
abbrev pub carried_text : Version → CarriedLine → Option (List ℕ)
carried_text version line = option_append (Some (kind_text (kind_of line))) (after_blanks (fields_of version line))

abbrev pub is_by_run : Holder → Bool
is_by_run (holders.Run run) = true
is_by_run holder = false

-- the CCB has a class or an advice where none has
abbrev pub is_classed : Version → CarriedCcb → Bool
is_classed version ccb = not (has_classes version) && not (has_neither ccb.class ccb.advice)

-- the line says that a run holds a freeze, or has a class or an advice in a version without them, and so it has no text
abbrev pub is_unspelled : Version → CarriedLine → Bool
is_unspelled version (lines.Freeze freeze) = is_by_run freeze.holder
is_unspelled version (lines.Ccb ccb) = is_classed version ccb
is_unspelled version line = false

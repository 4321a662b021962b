-- Reading a line by its word, as the code does it.
use Rattle.std.specs.Prelude.{◌≡◌, ℕ, Bool, true, false, Option, Some, None, IfSome, List, bytes_eq, codes, if◌then◌else◌}
use Rattle.ccb.specs.declared.place.Place.{Place}
use Rattle.ccb.specs.Places.{kind_word, number_of}
use Rattle.freeze_ledger.specs.declared.freeze.Freeze.{Freeze}
use Rattle.freeze_ledger.specs.declared.freeze.Holder.{Holder}
use Rattle.freeze_ledger.specs.declared.freeze.Holder.TheVariants as holders
use Rattle.world_calls.specs.declared.carried_line.CarriedLine.{CarriedLine}
use Rattle.world_calls.specs.declared.carried_line.CarriedLine.TheVariants as lines
use Rattle.world_calls.specs.declared.trace.Version.{Version}
use Rattle.trace_lines.specs.Versions.{has_classes}
use Rattle.carried_lines.specs.CarriedText.{after_blanks, fields_of, kind_of, kind_text}
use Rattle.carried_lines.specs.declared.kind.Kind.{Kind}
use Rattle.carried_lines.specs.declared.kind.Kind.TheVariants as kinds
use Rattle.carried_lines.specs.FieldReading.{◌>>=◌, ended, field_in, long_number_in, number_in}

unfoldable pub numbers_in : List ℕ → Option CarriedLine
numbers_in text = number_in text >>= λ ccb. number_in ccb.1 >>= λ freeze. number_in freeze.1 >>= λ run. ended (lines.Numbers ccb.0 freeze.0 run.0) run.1

unfoldable pub clock_in : List ℕ → Option CarriedLine
clock_in text = long_number_in text >>= λ reading. ended (lines.Clock reading.0) reading.1

unfoldable pub openings_in : List ℕ → Option CarriedLine
openings_in text = number_in text >>= λ queue. number_in queue.1 >>= λ openings. ended (lines.Openings queue.0 openings.0) openings.1

unfoldable pub word_in : List ℕ → Option CarriedLine
word_in text = number_in text >>= λ table. number_in table.1 >>= λ index. long_number_in index.1 >>= λ word. ended (lines.Word table.0 index.0 word.0) word.1

-- whether a device works on a CCB, which is the last field
abbrev pub state_of : List ℕ → Option Bool
state_of word = if bytes_eq word (codes "active") then Some true else if bytes_eq word (codes "waiting") then Some false else None

unfoldable pub state_in : List ℕ → Option Bool
state_in text = field_in text >>= λ field. state_of field.0 >>= λ is_active. ended is_active field.1

-- the class and the advice of a CCB, where CCBs have them, and what is after them
unfoldable pub class_in : Bool → List ℕ → Option ((ℕ × ℕ) × List ℕ)
class_in there text = if there then (number_in text >>= λ class. number_in class.1 >>= λ advice. Some ((class.0, advice.0), advice.1)) else Some ((0, 0), text)

unfoldable pub ccb_in : Version → List ℕ → Option CarriedLine
ccb_in version text =
    number_in text >>= λ number. number_in number.1 >>= λ queue. number_in queue.1 >>= λ priority. number_in priority.1 >>= λ retries.
    number_in retries.1 >>= λ attempts. class_in (has_classes version) attempts.1 >>= λ class. state_in class.1 >>= λ is_active.
    Some (lines.Ccb (record {
      number = record { 0 = number.0 };
      queue = record { 0 = queue.0 };
      priority = priority.0;
      retries = retries.0;
      class = class.0.0;
      attempts = attempts.0;
      advice = class.0.1;
      is_active = is_active;
    }))

-- what is frozen, as its kind's word and its number
abbrev pub place_word : List ℕ → Option (List ℕ)
place_word word = if bytes_eq word (codes "queue") then Some (codes "queue") else if bytes_eq word (codes "controller") then Some (codes "controller") else None

abbrev pub place_parts : Place → List ℕ × ℕ
place_parts place = (kind_word place, number_of place)

abbrev pub place_named : List ℕ → ℕ → Option (List ℕ × ℕ)
place_named word number = place_word word >>= λ found. Some (found, number)

unfoldable pub place_in : List ℕ → Option ((List ℕ × ℕ) × List ℕ)
place_in text = field_in text >>= λ field. number_in field.1 >>= λ number. place_named field.0 number.0 >>= λ place. Some (place, number.1)

-- who holds a freeze, which comes last
unfoldable pub timer_in : List ℕ → Option Holder
timer_in text = long_number_in text >>= λ due. ended (holders.Timer due.0) due.1

unfoldable pub guest_in : List ℕ → Option Holder
guest_in text = number_in text >>= λ guest. ended (holders.Guest guest.0) guest.1

unfoldable pub holder_in : List ℕ → Option Holder
holder_in text = field_in text >>= λ field. if bytes_eq field.0 (codes "timer") then timer_in field.1 else if bytes_eq field.0 (codes "guest") then guest_in field.1 else None

-- the parts of a freeze
abbrev pub freeze_parts : Freeze → ℕ × ((List ℕ × ℕ) × Holder)
freeze_parts freeze = (freeze.number, (place_parts freeze.place, freeze.holder))

unfoldable pub freeze_in : List ℕ → Option (ℕ × ((List ℕ × ℕ) × Holder))
freeze_in text = number_in text >>= λ number. place_in number.1 >>= λ place. holder_in place.1 >>= λ holder. Some (number.0, (place.0, holder))

-- the kind of a word
abbrev pub kind_named : List ℕ → Option Kind
kind_named word =
    if bytes_eq (kind_text kinds.Numbers) word then Some kinds.Numbers
    else (if bytes_eq (kind_text kinds.Clock) word then Some kinds.Clock
    else (if bytes_eq (kind_text kinds.Openings) word then Some kinds.Openings
    else (if bytes_eq (kind_text kinds.Word) word then Some kinds.Word
    else (if bytes_eq (kind_text kinds.Ccb) word then Some kinds.Ccb
    else (if bytes_eq (kind_text kinds.Freeze) word then Some kinds.Freeze else None)))))

-- The fields of a line of the kind are read as that line, and what is read is a line of the kind with these fields.
pub record ReadsFields (version : Version) (kind : Kind) (text : List ℕ) (read : Option CarriedLine) : Type 0 where
  pub said : IfSome read (λ line. (kind_of line ≡ kind) × (after_blanks (fields_of version line) ≡ Some text))
  pub back : (line : CarriedLine) → kind_of line ≡ kind → after_blanks (fields_of version line) ≡ Some text → read ≡ Some line

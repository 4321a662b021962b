-- How a field is spelled: what has a text, and which.
use Rattle.std.specs.Prelude.{◌^◌, ◌/◌, ◌%◌, ◌&&◌, ◌++◌, ℕ, nat_lt, nat_le, Bool, true, false, Option, Some, None, List, [], ◌∷◌, length, codes, decimal, flat_map, if◌then◌else◌}
use Rattle.std.specs.List.{list_all}
use Rattle.std.specs.Fmt.{digit_glyph, option_append}
use Rattle.ccb.specs.declared.cam_status.CamStatus.{CamStatus}
use Rattle.ccb.specs.Status.{code_of}
use Rattle.helpers.specs.Table.{number_of, row_of}
use Rattle.helpers.specs.declared.table.Helper.{Helper}
use Rattle.helpers.specs.declared.columns.Tells.{Tells}
use Rattle.helpers.specs.declared.columns.Tells.TheVariants as tells
use Rattle.trace_lines.specs.declared.kind.Kind.{Kind}
use Rattle.trace_lines.specs.declared.kind.Kind.TheVariants as kinds
use Rattle.trace_lines.specs.declared.value.Stop.{Stop}
use Rattle.trace_lines.specs.declared.value.Stop.TheVariants as stops
use Rattle.trace_lines.specs.declared.value.Value.{Value}
use Rattle.trace_lines.specs.declared.value.Value.TheVariants as values

-- what passes a test has this text, and all else has none
abbrev pub where_true : Bool → List ℕ → Option (List ℕ)
where_true test text = if test then Some text else None

abbrev pub number_text : ℕ → Option (List ℕ)
number_text number = where_true (nat_lt number (2 ^ 32)) (decimal number)

abbrev pub long_number_text : ℕ → Option (List ℕ)
long_number_text number = where_true (nat_lt number (2 ^ 64)) (decimal number)

abbrev pub instructions_text : ℕ → Option (List ℕ)
instructions_text count = where_true (nat_lt 0 count && nat_le count 65536) (decimal count)

-- a byte as two digits, the high one first
abbrev pub pair_text : ℕ → List ℕ
pair_text byte = digit_glyph false (byte / 16) ∷ digit_glyph false (byte % 16) ∷ []

abbrev pub is_byte : ℕ → Bool
is_byte byte = nat_lt byte 256

abbrev pub byte_text : ℕ → Option (List ℕ)
byte_text byte = where_true (is_byte byte) (pair_text byte)

-- a CCB in progress, whose code is 0, is never reported
abbrev pub status_text : CamStatus → Option (List ℕ)
status_text status = where_true (nat_lt 0 (code_of status)) (pair_text (code_of status))

-- from 1 to 64 bytes
abbrev pub bytes_text : List ℕ → Option (List ℕ)
bytes_text bytes = where_true (nat_lt 0 (length bytes) && nat_le (length bytes) 64 && list_all is_byte bytes) (flat_map pair_text bytes)

abbrev pub sense_text : List ℕ → Option (List ℕ)
sense_text [] = Some (codes "-")
sense_text (byte ∷ bytes) = bytes_text (byte ∷ bytes)

-- the final code of a CCB
abbrev pub code_text : ℕ → Option (List ℕ)
code_text code = where_true (nat_le code 63) (pair_text code)

-- what a call tells
abbrev pub tells_name : Tells → Bool
tells_name tells.Name = true
tells_name tells.Bytes = false
tells_name tells.Code = false

abbrev pub tells_bytes : Tells → Bool
tells_bytes tells.Name = false
tells_bytes tells.Bytes = true
tells_bytes tells.Code = false

abbrev pub tells_code : Tells → Bool
tells_code tells.Name = false
tells_code tells.Bytes = false
tells_code tells.Code = true

abbrev pub told_by : Helper → Tells
told_by helper = (row_of helper).tells

abbrev pub helper_number_text : Helper → Option (List ℕ)
helper_number_text helper = Some (decimal (number_of helper))

abbrev pub helper_text : Helper → List ℕ
helper_text helper = codes "helper " ++ decimal (number_of helper)

-- what is told after the helper, if its row says so: nothing, bytes or a code
abbrev pub told_text : Stop → Option (List ℕ)
told_text (stops.Helper helper) = where_true (tells_name (told_by helper)) []
told_text (stops.Bytes helper bytes) = option_append (where_true (tells_bytes (told_by helper)) (codes " ")) (bytes_text bytes)
told_text (stops.Code helper code) = option_append (where_true (tells_code (told_by helper)) (codes " ")) (code_text code)
told_text stops.Exit = None

-- a helper that tells no more, one with bytes, and one with a code, each as its row says
abbrev pub named_text : Helper → Option (List ℕ)
named_text helper = where_true (tells_name (told_by helper)) (helper_text helper)

abbrev pub traced_text : Helper → List ℕ → Option (List ℕ)
traced_text helper bytes = option_append (where_true (tells_bytes (told_by helper)) (helper_text helper ++ codes " ")) (bytes_text bytes)

abbrev pub finished_text : Helper → ℕ → Option (List ℕ)
finished_text helper code = option_append (where_true (tells_code (told_by helper)) (helper_text helper ++ codes " ")) (code_text code)

abbrev pub stop_text : Stop → Option (List ℕ)
stop_text (stops.Helper helper) = named_text helper
stop_text (stops.Bytes helper bytes) = traced_text helper bytes
stop_text (stops.Code helper code) = finished_text helper code
stop_text stops.Exit = Some (codes "exit")

-- a value as a field of a kind
unfoldable pub field_text : Kind → Value → Option (List ℕ)
field_text kinds.Number (values.Number number) = number_text number
field_text kinds.LongNumber (values.LongNumber number) = long_number_text number
field_text kinds.Instructions (values.Number count) = instructions_text count
field_text kinds.Status (values.Status status) = status_text status
field_text kinds.Byte (values.Byte byte) = byte_text byte
field_text kinds.Sense (values.Bytes bytes) = sense_text bytes
field_text kinds.Stop (values.Stop stop) = stop_text stop
field_text kinds.Class (values.Number number) = number_text number
field_text kind value = None

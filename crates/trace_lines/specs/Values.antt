-- What a field holds, by its type.
use Rattle.std.specs.Prelude.{ℕ, Option, Some, None, List, unwrap_or}
use Rattle.ccb.specs.declared.cam_status.CamStatus.{CamStatus}
use Rattle.trace_lines.specs.declared.value.Stop.{Stop}
use Rattle.trace_lines.specs.declared.value.Value.{Value}
use Rattle.trace_lines.specs.declared.value.Value.TheVariants as values

abbrev pub number_in : Option Value → Option ℕ
number_in (Some (values.Number number)) = Some number
number_in value = None

abbrev pub long_number_in : Option Value → Option ℕ
long_number_in (Some (values.LongNumber number)) = Some number
long_number_in value = None

abbrev pub status_in : Option Value → Option CamStatus
status_in (Some (values.Status status)) = Some status
status_in value = None

abbrev pub byte_in : Option Value → Option ℕ
byte_in (Some (values.Byte byte)) = Some byte
byte_in value = None

abbrev pub bytes_in : Option Value → Option (List ℕ)
bytes_in (Some (values.Bytes bytes)) = Some bytes
bytes_in value = None

abbrev pub stop_in : Option Value → Option Stop
stop_in (Some (values.Stop stop)) = Some stop
stop_in value = None

-- the number, and else 0
abbrev pub number_at : Option Value → ℕ
number_at value = unwrap_or (number_in value) 0

abbrev pub long_number_at : Option Value → ℕ
long_number_at value = unwrap_or (long_number_in value) 0

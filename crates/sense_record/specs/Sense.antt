-- Sense data as SPC lays it out (SPC, sense data: fixed format and descriptor format).
use Rattle.std.specs.Prelude.{ℕ, ◌%◌, ◌^◌, ◌==◌, ◌||◌, if◌then◌else◌, List, length, slice_index}
use Rattle.sense_record.specs.declared.Sense.{Sense}

-- a byte of the sense data, 0 where it is missing
abbrev pub byte_at : List ℕ → ℕ → ℕ
byte_at sense place = slice_index sense place

-- the response code: the low seven bits of the first byte
abbrev pub response_code : List ℕ → ℕ
response_code sense = byte_at sense 0 % 2 ^ 7

-- how the rest of the bytes are laid out
pub data Format : Type 0 where
  Fixed : Format
  Descriptor : Format
  Unknown : Format

-- 70 and 71 are current and deferred errors in the fixed format, 72 and 73 in the descriptor format
abbrev pub format_of : ℕ → Format
format_of code =
    if code == 0x70 || code == 0x71 then Fixed else if code == 0x72 || code == 0x73 then Descriptor else Unknown

-- what the bytes say in a format: the key is the low four bits of its byte
abbrev pub sense_in : Format → List ℕ → Sense
sense_in Fixed sense = record {
  key = byte_at sense 2 % 2 ^ 4;
  asc = byte_at sense 12;
  ascq = byte_at sense 13;
  len = length sense;
}
sense_in Descriptor sense = record {
  key = byte_at sense 1 % 2 ^ 4;
  asc = byte_at sense 2;
  ascq = byte_at sense 3;
  len = length sense;
}
sense_in Unknown sense = record { key = 0; asc = 0; ascq = 0; len = length sense }

-- what the bytes say
abbrev pub sense_of : List ℕ → Sense
sense_of sense = sense_in (format_of (response_code sense)) sense

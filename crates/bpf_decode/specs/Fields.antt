-- The fields of the slot with which bytes begin (RFC 9669, section 3.1): the opcode; the numbers of two registers in
-- the second byte, dst in its low half and src in its high half; offset in 16 bits and imm in 32 bits,
-- both little-endian and signed in two's complement.
use Rattle.std.specs.Prelude.{ℕ, ◌%◌, ◌/◌, List, length, drop, slice_index, nat_lt, Option, Some, None, if◌then◌else◌}
use Rattle.std.specs.Int.{w16, w32, cast_signed}
use Rattle.byteorder.specs.Endian.{little_from}
use Rattle.bpf_decode.specs.declared.fields.Fields.{Fields}

abbrev pub fields_of : List ℕ → Fields
fields_of bytes = record {
  opcode = slice_index bytes 0;
  dst = slice_index bytes 1 % 16;
  src = slice_index bytes 1 / 16;
  offset = cast_signed w16 (little_from 2 2 bytes);
  imm = cast_signed w32 (little_from 4 4 bytes);
}

-- the fields of the slot after that one, where there is one
abbrev pub fields_behind : List ℕ → Option Fields
fields_behind bytes = if nat_lt (length bytes) 16 then None else Some (fields_of (drop 8 bytes))

-- The 96 bytes of a context.
use Rattle.std.specs.Prelude.{ℕ, List, [], ◌∷◌}
use Rattle.std.specs.List.{flat_map}
use Rattle.byteorder.specs.Endian.{little_bytes}
use Rattle.sense_record.specs.Sense.{sense_of}
use Rattle.ccb.specs.declared.ccb.Ccb.{Ccb}
use Rattle.ccb.specs.Ccb.{status_word_of}
use Rattle.base.specs.ShortBytes.{padded_bytes}

-- one field: a byte, a word of four bytes with the lowest first, or bytes as they are
pub data Field : Type 0 where
  Byte : ℕ → Field
  Word : ℕ → Field
  Bytes : List ℕ → Field

abbrev pub field_bytes : Field → List ℕ
field_bytes (Byte value) = value ∷ []
field_bytes (Word value) = little_bytes 4 value
field_bytes (Bytes values) = values

-- the fields, at the offsets 0, 4, 8, 12, 13, 14, 15, 16, 20, 24, 28 and 32
abbrev pub context_fields : Ccb → List Field
context_fields ccb =
    let sense = sense_of ccb.sense in
    Word ccb.number.0 ∷ Word ccb.queue.0 ∷ Word (status_word_of ccb)
    ∷ Byte ccb.scsi ∷ Byte sense.key ∷ Byte sense.asc ∷ Byte sense.ascq
    ∷ Word ccb.retries ∷ Word sense.len ∷ Word ccb.attempts ∷ Word ccb.class
    ∷ Bytes (padded_bytes ccb.sense) ∷ []

-- the fields, one after another
abbrev pub context_of : Ccb → List ℕ
context_of ccb = flat_map field_bytes (context_fields ccb)

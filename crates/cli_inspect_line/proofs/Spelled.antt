-- What a word spells that `clap` found under a name.
use Rattle.std.proofs.Common.{◌≡◌, ◌∙◌, List, Option, None, Some, ap, sym}
use Rattle.std.specs.Prelude.{MatchOption, unwrap_or}
use Rattle.clap.specs.Words.{Row, Text, first_of}
use Rattle.trace_lines.specs.Texts.{byte_text, field_text, long_number_text, number_text, sense_text, status_text}
use Rattle.trace_lines.specs.Values.{byte_in, bytes_in, long_number_in, number_in, status_in}
use Rattle.trace_lines.specs.Written.{Reads}
use Rattle.trace_lines.specs.declared.kind.Kind.TheVariants as kinds
use Rattle.trace_lines.specs.declared.value.Value.{Value}
use Rattle.trace_lines.specs.declared.value.Value.TheVariants as values
use Rattle.cli_inspect_line.specs.Deciding.{IsSpelled}

-- it is read, or spells nothing of the kind
abbrev pub Gives : {T : Type 0} → (T → Option Text) → Text → List Row → Option T → Type 0
Gives {T} text_of name rows read = MatchOption read ((value : T) → IsSpelled text_of name rows value → ⊥) (IsSpelled text_of name rows)

pub spelled_so : {T : Type 0} (text_of : T → Option Text) (name word : Text) (rows : List Row) (o : Option T) → first_of name rows ≡ Some word → Reads text_of word o → Gives text_of name rows o
spelled_so text_of name word rows (Some value) is read = (word, is, read.said)
spelled_so text_of name word rows None is read = λ value found.
    let same : found.0 ≡ word = ap (λ (o : Option Text). unwrap_or o word) (sym found.1 ∙ is) in
    let bad : None ≡ Some value = read.back value (found.2 ∙ ap Some same) in
    cc

pub number_so : (name : Text) (rows : List Row) (o : Option Value) → Gives (field_text kinds.Number) name rows o → Gives number_text name rows (number_in o)
unfolding field_text
number_so name rows None none = λ value found. none (values.Number value) found
number_so name rows (Some (values.Number value)) found = found
number_so name rows (Some (values.LongNumber value)) found = let bad : None ≡ Some found.0 = found.2 in absurd cc
number_so name rows (Some (values.Status value)) found = let bad : None ≡ Some found.0 = found.2 in absurd cc
number_so name rows (Some (values.Byte value)) found = let bad : None ≡ Some found.0 = found.2 in absurd cc
number_so name rows (Some (values.Bytes value)) found = let bad : None ≡ Some found.0 = found.2 in absurd cc
number_so name rows (Some (values.Stop value)) found = let bad : None ≡ Some found.0 = found.2 in absurd cc

pub clock_so : (name : Text) (rows : List Row) (o : Option Value) → Gives (field_text kinds.LongNumber) name rows o → Gives long_number_text name rows (long_number_in o)
unfolding field_text
clock_so name rows None none = λ value found. none (values.LongNumber value) found
clock_so name rows (Some (values.Number value)) found = let bad : None ≡ Some found.0 = found.2 in absurd cc
clock_so name rows (Some (values.LongNumber value)) found = found
clock_so name rows (Some (values.Status value)) found = let bad : None ≡ Some found.0 = found.2 in absurd cc
clock_so name rows (Some (values.Byte value)) found = let bad : None ≡ Some found.0 = found.2 in absurd cc
clock_so name rows (Some (values.Bytes value)) found = let bad : None ≡ Some found.0 = found.2 in absurd cc
clock_so name rows (Some (values.Stop value)) found = let bad : None ≡ Some found.0 = found.2 in absurd cc

pub status_so : (name : Text) (rows : List Row) (o : Option Value) → Gives (field_text kinds.Status) name rows o → Gives status_text name rows (status_in o)
unfolding field_text
status_so name rows None none = λ value found. none (values.Status value) found
status_so name rows (Some (values.Number value)) found = let bad : None ≡ Some found.0 = found.2 in absurd cc
status_so name rows (Some (values.LongNumber value)) found = let bad : None ≡ Some found.0 = found.2 in absurd cc
status_so name rows (Some (values.Status value)) found = found
status_so name rows (Some (values.Byte value)) found = let bad : None ≡ Some found.0 = found.2 in absurd cc
status_so name rows (Some (values.Bytes value)) found = let bad : None ≡ Some found.0 = found.2 in absurd cc
status_so name rows (Some (values.Stop value)) found = let bad : None ≡ Some found.0 = found.2 in absurd cc

pub byte_so : (name : Text) (rows : List Row) (o : Option Value) → Gives (field_text kinds.Byte) name rows o → Gives byte_text name rows (byte_in o)
unfolding field_text
byte_so name rows None none = λ value found. none (values.Byte value) found
byte_so name rows (Some (values.Number value)) found = let bad : None ≡ Some found.0 = found.2 in absurd cc
byte_so name rows (Some (values.LongNumber value)) found = let bad : None ≡ Some found.0 = found.2 in absurd cc
byte_so name rows (Some (values.Status value)) found = let bad : None ≡ Some found.0 = found.2 in absurd cc
byte_so name rows (Some (values.Byte value)) found = found
byte_so name rows (Some (values.Bytes value)) found = let bad : None ≡ Some found.0 = found.2 in absurd cc
byte_so name rows (Some (values.Stop value)) found = let bad : None ≡ Some found.0 = found.2 in absurd cc

pub sense_so : (name : Text) (rows : List Row) (o : Option Value) → Gives (field_text kinds.Sense) name rows o → Gives sense_text name rows (bytes_in o)
unfolding field_text
sense_so name rows None none = λ value found. none (values.Bytes value) found
sense_so name rows (Some (values.Number value)) found = let bad : None ≡ Some found.0 = found.2 in absurd cc
sense_so name rows (Some (values.LongNumber value)) found = let bad : None ≡ Some found.0 = found.2 in absurd cc
sense_so name rows (Some (values.Status value)) found = let bad : None ≡ Some found.0 = found.2 in absurd cc
sense_so name rows (Some (values.Byte value)) found = let bad : None ≡ Some found.0 = found.2 in absurd cc
sense_so name rows (Some (values.Bytes value)) found = found
sense_so name rows (Some (values.Stop value)) found = let bad : None ≡ Some found.0 = found.2 in absurd cc

-- a number is read as such a field is
pub number_read : (word : Text) (o : Option Value) → Reads (field_text kinds.Number) word o → Reads number_text word (number_in o)
unfolding field_text
number_read word None reads = record { said = tt; back = λ value is. let bad : None ≡ Some (values.Number value) = reads.back (values.Number value) is in absurd cc }
number_read word (Some (values.Number number)) reads =
    record { said = reads.said; back = λ value is. let same : Some (values.Number number) ≡ Some (values.Number value) = reads.back (values.Number value) is in cc }
number_read word (Some (values.LongNumber value)) reads = let bad : None ≡ Some word = reads.said in absurd cc
number_read word (Some (values.Status value)) reads = let bad : None ≡ Some word = reads.said in absurd cc
number_read word (Some (values.Byte value)) reads = let bad : None ≡ Some word = reads.said in absurd cc
number_read word (Some (values.Bytes value)) reads = let bad : None ≡ Some word = reads.said in absurd cc
number_read word (Some (values.Stop value)) reads = let bad : None ≡ Some word = reads.said in absurd cc

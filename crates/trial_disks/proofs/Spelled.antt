-- What a word spells, by its kind.
use Rattle.std.proofs.Common.{◌≡◌, ℕ, Option, Some, None, IfSome, List}
use Rattle.trace_lines.specs.Texts.{byte_text, field_text, sense_text, status_text}
use Rattle.trace_lines.specs.Values.{byte_in, bytes_in, status_in}
use Rattle.trace_lines.specs.Written.{Reads}
use Rattle.trace_lines.specs.declared.kind.Kind.TheVariants as kinds
use Rattle.trace_lines.specs.declared.value.Value.{Value}
use Rattle.trace_lines.specs.declared.value.Value.TheVariants as values

pub status_told : (word : List ℕ) (read : Option Value) → Reads (field_text kinds.Status) word read → IfSome (status_in read) (λ it. status_text it ≡ Some word)
unfolding field_text
status_told word None reads = tt
status_told word (Some (values.Number value)) reads = tt
status_told word (Some (values.LongNumber value)) reads = tt
status_told word (Some (values.Status value)) reads = reads.said
status_told word (Some (values.Byte value)) reads = tt
status_told word (Some (values.Bytes value)) reads = tt
status_told word (Some (values.Stop value)) reads = tt

pub byte_told : (word : List ℕ) (read : Option Value) → Reads (field_text kinds.Byte) word read → IfSome (byte_in read) (λ it. byte_text it ≡ Some word)
unfolding field_text
byte_told word None reads = tt
byte_told word (Some (values.Number value)) reads = tt
byte_told word (Some (values.LongNumber value)) reads = tt
byte_told word (Some (values.Status value)) reads = tt
byte_told word (Some (values.Byte value)) reads = reads.said
byte_told word (Some (values.Bytes value)) reads = tt
byte_told word (Some (values.Stop value)) reads = tt

pub sense_told : (word : List ℕ) (read : Option Value) → Reads (field_text kinds.Sense) word read → IfSome (bytes_in read) (λ it. sense_text it ≡ Some word)
unfolding field_text
sense_told word None reads = tt
sense_told word (Some (values.Number value)) reads = tt
sense_told word (Some (values.LongNumber value)) reads = tt
sense_told word (Some (values.Status value)) reads = tt
sense_told word (Some (values.Byte value)) reads = tt
sense_told word (Some (values.Bytes value)) reads = reads.said
sense_told word (Some (values.Stop value)) reads = tt

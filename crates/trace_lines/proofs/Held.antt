-- What a row's fields hold is of their kinds.
use Rattle.std.proofs.Common.{◌≡◌, ℕ, Option, Some, None, List, refl, codes}
use Rattle.trace_lines.specs.declared.kind.Kind.{Kind}
use Rattle.trace_lines.specs.declared.kind.Kind.TheVariants as kinds
use Rattle.trace_lines.specs.declared.kind.Slots.{Slots}
use Rattle.trace_lines.specs.declared.value.Stop.{Stop}
use Rattle.trace_lines.specs.declared.value.Value.{Value}
use Rattle.trace_lines.specs.declared.value.Value.TheVariants as values
use Rattle.ccb.specs.declared.cam_status.CamStatus.{CamStatus}
use Rattle.trace_lines.specs.Texts.{field_text, status_text}
use Rattle.trace_lines.specs.Calls.{number_of, one, two, three}
use Rattle.trace_lines.specs.Lines.{slot_text, fields_text}
use Rattle.trace_lines.proofs.Tests.{parts_of}

-- the four slots of fields that have a text
pub record HasSlots (fields : Slots Kind) (held : Slots Value) : Type 0 where
  pub one : List ℕ
  pub two : List ℕ
  pub three : List ℕ
  pub four : List ℕ
  pub first : slot_text fields.first held.first ≡ Some one
  pub second : slot_text fields.second held.second ≡ Some two
  pub third : slot_text fields.third held.third ≡ Some three
  pub fourth : slot_text fields.fourth held.fourth ≡ Some four

pub slots_of : (fields : Slots Kind) (held : Slots Value) (text : List ℕ) → fields_text fields held ≡ Some text → HasSlots fields held
unfolding fields_text
slots_of fields held text e =
    let a = parts_of (slot_text fields.first held.first) _ text e in
    let b = parts_of (slot_text fields.second held.second) _ a.1 a.3 in
    let d = parts_of (slot_text fields.third held.third) (slot_text fields.fourth held.fourth) b.1 b.3 in
    record { one = a.0; two = b.0; three = d.0; four = d.1; first = a.2; second = b.2; third = d.2; fourth = d.3 }

pub holds_nothing : (value : Option Value) (text : List ℕ) → slot_text None value ≡ Some text → value ≡ None
holds_nothing None text e = refl
holds_nothing (Some value) text e = absurd cc

pub holds_number : (value : Option Value) (text : List ℕ) → slot_text (Some kinds.Number) value ≡ Some text → (number : ℕ) × (value ≡ Some (values.Number number))
unfolding field_text
holds_number (Some (values.Number number)) text e = (number, refl)
holds_number value text e = absurd cc

-- a class, or none
pub holds_class : (value : Option Value) (text : List ℕ) → slot_text (Some kinds.Class) value ≡ Some text → (class : Option ℕ) × (value ≡ number_of class)
unfolding field_text
holds_class None text e = (None, refl)
holds_class (Some (values.Number number)) text e = (Some number, refl)
holds_class value text e = absurd cc

pub holds_long_number : (value : Option Value) (text : List ℕ) → slot_text (Some kinds.LongNumber) value ≡ Some text → (number : ℕ) × (value ≡ Some (values.LongNumber number))
unfolding field_text
holds_long_number (Some (values.LongNumber number)) text e = (number, refl)
holds_long_number value text e = absurd cc

pub holds_instructions : (value : Option Value) (text : List ℕ) → slot_text (Some kinds.Instructions) value ≡ Some text → (count : ℕ) × (value ≡ Some (values.Number count))
unfolding field_text
holds_instructions (Some (values.Number count)) text e = (count, refl)
holds_instructions value text e = absurd cc

pub holds_stop : (value : Option Value) (text : List ℕ) → slot_text (Some kinds.Stop) value ≡ Some text → (stop : Stop) × (value ≡ Some (values.Stop stop))
unfolding field_text
holds_stop (Some (values.Stop stop)) text e = (stop, refl)
holds_stop value text e = absurd cc

pub holds_status : (value : Option Value) (text : List ℕ) → slot_text (Some kinds.Status) value ≡ Some text
    → (status : CamStatus) × (value ≡ Some (values.Status status)) × (told : List ℕ) × (status_text status ≡ Some told)
unfolding field_text
holds_status (Some (values.Status status)) text e = let parts = parts_of (Some (codes " ")) (status_text status) text e in (status, refl, parts.1, parts.3)
holds_status value text e = absurd cc

pub holds_byte : (value : Option Value) (text : List ℕ) → slot_text (Some kinds.Byte) value ≡ Some text → (byte : ℕ) × (value ≡ Some (values.Byte byte))
unfolding field_text
holds_byte (Some (values.Byte byte)) text e = (byte, refl)
holds_byte value text e = absurd cc

pub holds_bytes : (value : Option Value) (text : List ℕ) → slot_text (Some kinds.Sense) value ≡ Some text → (bytes : List ℕ) × (value ≡ Some (values.Bytes bytes))
unfolding field_text
holds_bytes (Some (values.Bytes bytes)) text e = (bytes, refl)
holds_bytes value text e = absurd cc

-- values that are these
pub as_one : (held : Slots Value) (a : Value) → held.first ≡ Some a → held.second ≡ None → held.third ≡ None → held.fourth ≡ None → held ≡ one a
as_one held a p q r s = λ i. record { first = p i; second = q i; third = r i; fourth = s i }

pub as_two : (held : Slots Value) (a b : Value) → held.first ≡ Some a → held.second ≡ Some b → held.third ≡ None → held.fourth ≡ None → held ≡ two a b
as_two held a b p q r s = λ i. record { first = p i; second = q i; third = r i; fourth = s i }

pub as_three : (held : Slots Value) (a b d : Value) → held.first ≡ Some a → held.second ≡ Some b → held.third ≡ Some d → held.fourth ≡ None → held ≡ three a b d
as_three held a b d p q r s = λ i. record { first = p i; second = q i; third = r i; fourth = s i }

pub as_three_more : (held : Slots Value) (a b d : Value) (f : Option Value) → held.first ≡ Some a → held.second ≡ Some b → held.third ≡ Some d → held.fourth ≡ f
    → held ≡ record { first = Some a; second = Some b; third = Some d; fourth = f }
as_three_more held a b d f p q r s = λ i. record { first = p i; second = q i; third = r i; fourth = s i }

pub as_four : (held : Slots Value) (a b d f : Value) → held.first ≡ Some a → held.second ≡ Some b → held.third ≡ Some d → held.fourth ≡ Some f
    → held ≡ record { first = Some a; second = Some b; third = Some d; fourth = Some f }
as_four held a b d f p q r s = λ i. record { first = p i; second = q i; third = r i; fourth = s i }

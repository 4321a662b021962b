-- Words and what they spell, as the code finds it.
use Rattle.std.specs.Prelude.{◌≡◌, ◌==◌, ◌&&◌, ◌||◌, ◌++◌, not, ℕ, Option, Some, None, IfSome, IsSomeAnd, is_none, if◌then◌else◌, Bool, true, false, List, [], ◌∷◌}
use Rattle.std.specs.List.{list_all}
use Rattle.helpers.specs.declared.table.Helper.{Helper}
use Rattle.trace_lines.specs.Texts.{told_text}
use Rattle.trace_lines.specs.Lines.{slot_text, fields_text, line_text}
use Rattle.trace_lines.specs.declared.kind.Kind.{Kind}
use Rattle.trace_lines.specs.declared.kind.Kind.TheVariants as kinds
use Rattle.trace_lines.specs.declared.kind.Slots.{Slots}
use Rattle.trace_lines.specs.declared.value.Value.{Value}
use Rattle.trace_lines.specs.declared.word.Word.{Word}
use denote.Ref.{Bor}
use Rattle.trace_lines.specs.declared.value.Stop.{Stop}
use Rattle.trace_lines.specs.declared.value.Stop.TheVariants as stops

-- a 0 (48) stands before other digits
abbrev pub has_leading_zero : List ℕ → Bool
has_leading_zero [] = false
has_leading_zero (x ∷ []) = false
has_leading_zero (x ∷ y ∷ rest) = x == 48

-- no blank, which is 32
abbrev pub is_black : ℕ → Bool
is_black byte = not (byte == 32)

-- nothing follows, or a blank
abbrev pub ends_word : List ℕ → Bool
ends_word [] = true
ends_word (byte ∷ bytes) = byte == 32

-- the text is this word, up to its first blank, and this rest
pub record IsCut (text word rest : List ℕ) : Type 0 where
  pub whole : text ≡ word ++ rest
  pub black : list_all is_black word ≡ true
  pub ends : ends_word rest ≡ true

-- the stop is a call of that helper
abbrev pub IsOf : Helper → Stop → Type 0
IsOf helper (stops.Helper called) = called ≡ helper
IsOf helper (stops.Bytes called bytes) = called ≡ helper
IsOf helper (stops.Code called code) = called ≡ helper
IsOf helper stops.Exit = ⊥

-- what follows the helper is what is told of its call
pub record ReadsTold (helper : Helper) (text : List ℕ) (read : Option Stop) : Type 0 where
  pub said : IfSome read (λ stop. (told_text stop ≡ Some text) × IsOf helper stop)
  pub back : (stop : Stop) → told_text stop ≡ Some text → IsOf helper stop → read ≡ Some stop

-- nothing follows a field of this kind: where a run stopped has words of its own, and a class may be left out
abbrev pub is_last : Kind → Bool
is_last kinds.Stop = true
is_last kinds.Class = true
is_last kind = false

abbrev pub is_nothing : List ℕ → Bool
is_nothing [] = true
is_nothing (byte ∷ bytes) = false

-- what may follow a field
abbrev pub is_behind : Option Kind → List ℕ → Bool
is_behind None rest = true
is_behind (Some kind) rest = if is_last kind then is_nothing rest else ends_word rest

-- the text is this word of a field, and this rest
pub record IsCutFor (kind : Kind) (text word rest : List ℕ) : Type 0 where
  pub whole : text ≡ word ++ rest
  pub all : is_last kind ≡ true → rest ≡ []
  pub first : is_last kind ≡ false → IsCut text word rest

-- a field that stands in front is read, and what is after it is left
pub record ReadsSlot (kind : Option Kind) (text : List ℕ) (held : Option Value) (read : Option (Bor (List ℕ))) : Type 0 where
  pub said : IfSome read (λ rest. (told : List ℕ) × (slot_text kind held ≡ Some told) × (text ≡ told ++ rest.now))
  pub back : (value : Option Value) (told rest : List ℕ) → slot_text kind value ≡ Some told → text ≡ told ++ rest → is_behind kind rest ≡ true
      → (held ≡ value) × IsSomeAnd read (λ r. r.now ≡ rest)

-- nothing follows the field, if there is one
abbrev pub is_last_at : Option Kind → Bool
is_last_at None = false
is_last_at (Some kind) = is_last kind

abbrev pub are_last : Slots Kind → Bool
are_last fields = not (is_last_at fields.first) && not (is_last_at fields.second) && (not (is_last_at fields.third) || is_none fields.fourth)

-- the fields of such a row are read
pub record ReadsFields (fields : Slots Kind) (text : List ℕ) (read : Option (Slots Value)) : Type 0 where
  pub said : IfSome read (λ held. fields_text fields held ≡ Some text)
  pub back : are_last fields ≡ true → (held : Slots Value) → fields_text fields held ≡ Some text → read ≡ Some held

-- What is read is a line that is spelled so, and each such line is read.
pub record ReadsLine (text : List ℕ) (read : Option (Word × Slots Value)) : Type 0 where
  pub said : IfSome read (λ line. line_text line.0 line.1 ≡ Some text)
  pub back : (word : Word) (held : Slots Value) → line_text word held ≡ Some text → read ≡ Some (word, held)

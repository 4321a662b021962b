-- What is printed and what is read, where some values have a text.
use Rattle.std.specs.Prelude.{◌≡◌, ℕ, Option, Some, None, IfSome, Result, Ok, Err, OnErr, List, length, take}
use Rattle.std.specs.Fmt.{option_append}

-- a text that there is stands after what stood there
abbrev pub IsPut : Option (List ℕ) → List ℕ → List ℕ → Type 0
IsPut text old new = option_append (Some old) text ≡ Some new

-- the text, if there is one, is put; else it is told that there is none
abbrev pub Puts : {T E : Type 0} → Option (List ℕ) → List ℕ → Result T E → List ℕ → Type 0
Puts text old (Ok done) new = IsPut text old new
Puts text old (Err none) new = text ≡ None

-- Where there is no text, what stood there is in front still: a beginning of a line may stand after it.
abbrev pub KeepsFront : {T E : Type 0} → List ℕ → Result T E → List ℕ → Type 0
KeepsFront old result new = OnErr result (take (length old) new ≡ old)

-- What is read is spelled as it stands there, and what is spelled so is read.
pub record Reads {T : Type 0} (text_of : T → Option (List ℕ)) (text : List ℕ) (read : Option T) : Type 0 where
  pub said : IfSome read (λ value. text_of value ≡ Some text)
  pub back : (value : T) → text_of value ≡ Some text → read ≡ Some value

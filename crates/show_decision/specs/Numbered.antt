-- Decisions as texts, each of which has a number: its place.
use Rattle.std.specs.Prelude.{◌≡◌, ◌<◌, ◌++◌, ℕ, List, [], ◌∷◌, Some, String, length, slice_get, slice_index_or}
use Rattle.std.specs.Global.{Global}
use Rattle.std.specs.BTreeMap.{BTreeMap, get_by_text}

-- the text of that number; nothing if there is none
abbrev pub text_at : List (List ℕ) → ℕ → List ℕ
text_at texts number = slice_index_or texts number []

-- each text is there once
abbrev pub AreApart : List (List ℕ) → Type 0
AreApart texts = (one other : ℕ) → one < length texts → other < length texts → text_at texts one ≡ text_at texts other → one ≡ other

-- under each text the map has its number
abbrev pub AreFound : BTreeMap (String Global) ℕ → List (List ℕ) → Type 0
AreFound places texts = (number : ℕ) → number < length texts → get_by_text places (text_at texts number) ≡ Some number

-- texts may have come after those that there were, and that one has the number
pub record IsNumbered (old : List (List ℕ)) (text : List ℕ) (new : List (List ℕ)) (number : ℕ) : Type 0 where
  pub more : List (List ℕ)
  pub same : new ≡ old ++ more
  pub is : slice_get new number ≡ Some text

-- the number of that text came after those of the others
pub record IsPushed (numbers : List ℕ) (old : List (List ℕ)) (text : List ℕ) (new_numbers : List ℕ) (new : List (List ℕ)) : Type 0 where
  pub number : ℕ
  pub is : IsNumbered old text new number
  pub numbers_are : new_numbers ≡ numbers ++ number ∷ []

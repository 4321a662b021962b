-- What stands under a key of a TOML table.
use Rattle.std.specs.Prelude.{ℕ, ℤ, Bool, true, ◌&&◌, ◌||◌, List, [], ◌∷◌, Option, Some, None, is_some, bytes_eq}
use Rattle.std.specs.List.{list_all, list_any}
use Rattle.toml.specs.Data.{Data, table, Items, no_items, item, Members, no_members, member, get, get_member, as_integer, as_array, as_str}

abbrev pub elements : Items → List Data
elements no_items = []
elements (item first rest) = first ∷ elements rest

abbrev pub array_of : Option Data → Option Items
array_of None = None
array_of (Some value) = as_array value

unfoldable pub array_at : List ℕ → Data → Option Items
array_at key value = array_of (get key value)

-- the elements of an array; where there is none there are none
abbrev pub elements_of : Option Items → List Data
elements_of None = []
elements_of (Some items) = elements items

abbrev pub elements_at : List ℕ → Data → List Data
elements_at key value = elements_of (array_at key value)

abbrev pub integer_of : Option Data → Option ℤ
integer_of None = None
integer_of (Some value) = as_integer value

unfoldable pub integer_at : List ℕ → Data → Option ℤ
integer_at key value = integer_of (get key value)

abbrev pub text_of : Option Data → Option (List ℕ)
text_of None = None
text_of (Some value) = as_str value

unfoldable pub text_at : List ℕ → Data → Option (List ℕ)
text_at key value = text_of (get key value)

-- the keys of a table
abbrev pub keys : Members → List (List ℕ)
keys no_members = []
keys (member key value rest) = key ∷ keys rest

abbrev pub is_among : List (List ℕ) → List ℕ → Bool
is_among names name = list_any (λ other. bytes_eq other name) names

-- The required keys are there, and no other but those that may be.
abbrev pub members_have_keys : List (List ℕ) → List (List ℕ) → Members → Bool
members_have_keys required optional members =
    list_all (λ key. is_some (get_member key members)) required
    && list_all (λ key. is_among required key || is_among optional key) (keys members)

-- the same of a table; what is none has no keys that could be wrong
unfoldable pub has_keys : List (List ℕ) → List (List ℕ) → Data → Bool
has_keys required optional (table members) = members_have_keys required optional members
has_keys required optional _ = true

-- Lists, and the members of a table beside the entries of its map.
use Rattle.std.proofs.Common.{◌≡◌, ℕ, Bool, ◌&&◌, ◌||◌, List, [], ◌∷◌, map, Option, Some, None, option_map, is_some, refl, ap, ◌∙◌, String, Global, string_bytes, bytes_eq, Bor}
use Rattle.std.specs.Map.{keys_of}
use Rattle.toml.specs.Data.{get_member}
use Rattle.std.specs.List.{list_all, list_any}
use Rattle.toml.specs.declared.value.Value.{Value}
use Rattle.toml.specs.View.{view, items_view, members_view}
use Rattle.manifest_form.specs.Document.{elements, keys, is_among, members_have_keys}

pub list_any-map : {X Y : Type 0} (test : Y → Bool) (f : X → Y) (xs : List X) → list_any test (map f xs) ≡ list_any (λ x. test (f x)) xs
list_any-map test f [] = refl
list_any-map test f (x ∷ xs) = rw (list_any-map test f xs)

pub list_all-map : {X Y : Type 0} (test : Y → Bool) (f : X → Y) (xs : List X) → list_all test (map f xs) ≡ list_all (λ x. test (f x)) xs
list_all-map test f [] = refl
list_all-map test f (x ∷ xs) = rw (list_all-map test f xs)

pub elements_view : (values : List Value) → elements (items_view values) ≡ map view values
elements_view [] = refl
elements_view (value ∷ values) = ap (λ rest. view value ∷ rest) (elements_view values)

pub keys_view : (entries : List (String Global × Value)) → keys (members_view entries) ≡ map (λ entry. string_bytes entry.0) entries
keys_view [] = refl
keys_view (entry ∷ entries) = ap (λ rest. string_bytes entry.0 ∷ rest) (keys_view entries)

pub is_some_map : {X Y : Type 0} (f : X → Y) (o : Option X) → is_some (option_map f o) ≡ is_some o
is_some_map f None = refl
is_some_map f (Some x) = refl

pub list_all_same : {X : Type 0} (p q : X → Bool) → ((x : X) → p x ≡ q x) → (xs : List X) → list_all p xs ≡ list_all q xs
list_all_same p q same [] = refl
list_all_same p q same (x ∷ xs) = rw (same x, list_all_same p q same xs)

pub keys_all : (p : List ℕ → Bool) (entries : List (String Global × Value)) → list_all p (keys (members_view entries)) ≡ list_all (λ key. p (string_bytes key)) (keys_of entries)
keys_all p [] = refl
keys_all p (entry ∷ entries) = rw (keys_all p entries)

-- the test of a table's keys, over the code's lists
pub has_keys_by : (required optional : List (Bor (List ℕ))) (entries : List (String Global × Value)) →
    members_have_keys (map (λ key. key.now) required) (map (λ key. key.now) optional) (members_view entries)
    ≡ (list_all (λ key. is_some (get_member key.now (members_view entries))) required
    && list_all (λ key. list_any (λ other. bytes_eq other.now (string_bytes key)) required || list_any (λ other. bytes_eq other.now (string_bytes key)) optional) (keys_of entries))
has_keys_by required optional entries =
    let there = list_all-map (λ key. is_some (get_member key (members_view entries))) (λ (key : Bor (List ℕ)). key.now) required in
    let known = λ (key : String Global). ap (λ (found : Bool). found || is_among (map (λ (key : Bor (List ℕ)). key.now) optional) (string_bytes key)) (list_any-map (λ (other : List ℕ). bytes_eq other (string_bytes key)) (λ (key : Bor (List ℕ)). key.now) required)
    ∙ ap (λ (found : Bool). list_any (λ (other : Bor (List ℕ)). bytes_eq other.now (string_bytes key)) required || found) (list_any-map (λ (other : List ℕ). bytes_eq other (string_bytes key)) (λ (key : Bor (List ℕ)). key.now) optional) in
    let others = keys_all (λ key. is_among (map (λ (key : Bor (List ℕ)). key.now) required) key || is_among (map (λ (key : Bor (List ℕ)). key.now) optional) key) entries ∙ list_all_same _ _ known (keys_of entries) in
    λ i. there i && others i

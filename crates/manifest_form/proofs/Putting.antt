-- A value that is put under a key of a table.
use Rattle.std.proofs.Common.{◌≡◌, ℕ, List, [], ◌∷◌, map, Option, Some, option_map, String, Vec, Global, Bor, Ordering, Less, Equal, Greater, string_bytes, refl, ap, sym, ◌∙◌}
use Rattle.std.specs.String.{string_cmp}
use Rattle.std.specs.Ordering.{match_ordering}
use Rattle.std.specs.BTreeMap.{insert_entry}
use Rattle.toml.specs.declared.value.Value.{Value}
use Rattle.toml.specs.Data.{Data, array, Members}
use Rattle.toml.specs.View.{view, array_view, items_of, members_view}
use Rattle.manifest_form.specs.declared.migration.Kind.{Kind}
use Rattle.manifest_form.specs.Document.{elements}
use Rattle.manifest_form.specs.Migration.{entry_kept, put, put_entries}
use Rattle.manifest_form.proofs.Lists.{elements_view}

by_order : (o : Ordering) (before at behind : List (String Global × Value)) → members_view (match_ordering o before at behind) ≡ match_ordering o (members_view before) (members_view at) (members_view behind)
by_order Less before at behind = refl
by_order Equal before at behind = refl
by_order Greater before at behind = refl

pub put_there : (entries : List (String Global × Value)) (key : String Global) (value : Value) → members_view (insert_entry string_cmp entries key value) ≡ put (string_bytes key) (view value) (members_view entries)
put_there [] key value = refl
put_there (entry ∷ entries) key value = by_order (string_cmp key entry.0) _ _ _ ∙ rw (put_there entries key value)

-- entries that were made one by one, under their key
pub entries_put : (controllers : Option ℕ) (kind : Kind) (entries : Option (Bor (Vec Value Global))) (there : Bor (Vec Value Global)) (lent : List Value) (made : Vec Value Global)
    (value : Data) (key : List ℕ) (members : Members) → entries ≡ Some there → lent ≡ there.now.items
    → map view made.items ≡ map (entry_kept controllers kind) (map view lent) → value ≡ array (array_view made)
    → put key value members ≡ put_entries controllers kind key (option_map (λ (e : Bor (Vec Value Global)). array_view e.now) entries) members
entries_put controllers kind entries there lent made value key members is same each value_is =
    let all : map view made.items ≡ map (entry_kept controllers kind) (elements (array_view there.now)) =
    each ∙ ap (λ (values : List Value). map (entry_kept controllers kind) (map view values)) same ∙ ap (map (entry_kept controllers kind)) (sym (elements_view there.now.items)) in
    ap (λ (d : Data). put key d members) value_is
    ∙ ap (λ (ds : List Data). put key (array (items_of ds)) members) all
    ∙ ap (λ (e : Option (Bor (Vec Value Global))). put_entries controllers kind key (option_map (λ (b : Bor (Vec Value Global)). array_view b.now) e) members) (sym is)

use Rattle.std.proofs.Common.{◌≡◌, Bool, List, ℕ, Option, Some, IfOk, map, option_map, Vec, Global, ap, sym, subst, ◌∙◌}
use Rattle.toml.specs.Data.{Items}
use Rattle.toml.specs.declared.value.Value.{Value}
use Rattle.toml.specs.View.{view, items_view}
use Rattle.manifest_form.specs.Entries.{are_written, words_by, words_in, words_written}
use Rattle.manifest_form.proofs.Lists.{elements_view}
use Rattle.manifest_form.proofs.entries.words_written.Goals as goal

pub returns-in-Some : goal.returns-in-Some
returns-in-Some c =
    let values : List Value = c.in-Some.array.now.items in
    let of_items : words_in (map view values) ≡ words_by c.are_written.result (Some (items_view values)) =
    ap words_in (sym (elements_view values)) ∙ ap (λ (b : Bool). words_by b (Some (items_view values))) (sym c.if-not-are_written.false) in
    let is : words_in (map view c.as_slice.result.now) ≡ words_written c.args.version (view c.args.value.now) =
    ap (λ (those : List Value). words_in (map view those)) c.as_slice.ensures.value
    ∙ of_items
    ∙ ap (λ (b : Bool). words_by b (Some (items_view values))) c.are_written.ensures
    ∙ ap (λ (items : Option Items). words_by (are_written c.args.version (view c.args.value.now)) items) c.in-Some.ensures in
    subst (λ (o : Option (List ℕ)). IfOk c.words_in.result (λ words. option_map (λ (those : Vec ℕ Global). those.items) words ≡ o)) is c.words_in.ensures

use Rattle.std.proofs.Common.{◌≡◌, Bool, List, is_some, map, ap, sym, ◌∙◌}
use Rattle.std.specs.List.{list_all}
use Rattle.toml.specs.declared.value.Value.{Value}
use Rattle.toml.specs.Data.{Data, as_integer}
use Rattle.toml.specs.View.{view}
use Rattle.manifest_form.specs.Document.{elements}
use Rattle.manifest_form.proofs.Lists.{elements_view, list_all-map}
use Rattle.manifest_form.proofs.entries.are_integers.Goals as goal

pub returns-in-Some : goal.returns-in-Some
returns-in-Some c =
    let is_number : Data → Bool = λ (d : Data). is_some (as_integer d) in
    rw c.in-Some.is (
    c.all_integers.ensures
    ∙ sym (list_all-map is_number view c.as_slice.result.now)
    ∙ ap (λ (values : List Value). list_all is_number (map view values)) c.as_slice.ensures.value
    ∙ sym (ap (list_all is_number) (elements_view c.in-Some.array.now.items)))

use Rattle.std.proofs.Common.{◌∙◌, ap, sym, map}
use Rattle.toml.specs.View.{view}
use Rattle.manifest_form.specs.Document.{elements_of}
use Rattle.manifest_form.proofs.Lists.{elements_view}
use Rattle.manifest_form.proofs.document.elements.Goals as goal

pub returns-in-Some : goal.returns-in-Some
returns-in-Some c = ap (map view) c.as_slice.ensures.value ∙ sym (elements_view c.in-Some.array.now.items) ∙ ap elements_of c.in-Some.ensures

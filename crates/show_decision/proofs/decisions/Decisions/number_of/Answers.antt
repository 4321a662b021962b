use Rattle.std.proofs.Common.{◌≡◌, ◌∙◌, ◌<◌, ℕ, Global, List, Some, ap, arith, length, map, string_bytes, subst, sym}
use Rattle.std.proofs.lemmas.List.{length-map}
use Rattle.std.specs.Prelude.{slice_get}
use Rattle.show_decision.proofs.TextsAt.{at_found}
use Rattle.show_decision.proofs.decisions.Decisions.number_of.Goals as goal

pub add-requires-clause-new : goal.add-requires-clause-new
add-requires-clause-new c = λ number below is.
    let texts = map (string_bytes {Z = Global}) c.args.self.now.texts.items in
    let place = c.place_of-place.result in
    let fits : number < length texts = omega (arith, below, length-map c.args.self.now.texts.items (string_bytes {Z = Global})) in
    let found : place ≡ number = c.place_of-place.ensures number below (is ∙ sym c.as_str-2.ensures.value) in
    c.if-is_at-2.ensures
    (subst (λ (text : List ℕ). slice_get texts place ≡ Some text) (sym c.as_str-3.ensures.value) (at_found texts (string_bytes c.args.text) number place fits is found))

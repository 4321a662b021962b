use Rattle.std.proofs.Common.{◌≡◌, ◌∙◌, ◌<◌, ℕ, Global, None, Some, ap, arith, length, map, string_bytes, sym}
use Rattle.std.specs.BTreeMap.{get_by_text}
use Rattle.std.proofs.lemmas.List.{length-map}
use Rattle.show_decision.proofs.decisions.Decisions.place_of.Goals as goal

pub returns-in-Some : goal.returns-in-Some
returns-in-Some c = λ number below is.
    let its = c.args.self.now in
    let fits : number < length (map (string_bytes {Z = Global}) its.texts.items) = omega (arith, below, length-map its.texts.items (string_bytes {Z = Global})) in
    let so : Some c.in-Some.place.now ≡ Some number = c.in-Some.ensures.value ∙ ap (get_by_text its.places) (sym is) ∙ c.requires number fits in
    cc

pub returns-in-None : goal.returns-in-None
returns-in-None c = λ number below is.
    let its = c.args.self.now in
    let fits : number < length (map (string_bytes {Z = Global}) its.texts.items) = omega (arith, below, length-map its.texts.items (string_bytes {Z = Global})) in
    absurd (let bad : None ≡ Some number = c.in-None.ensures.value ∙ ap (get_by_text its.places) (sym is) ∙ c.requires number fits in cc)

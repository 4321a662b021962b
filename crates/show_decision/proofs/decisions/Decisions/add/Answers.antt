use Rattle.std.proofs.Common.{◌≡◌, ◌≢◌, ◌∙◌, ◌<◌, ℕ, Global, List, Some, arith, length, map, string_bytes, sym}
use Rattle.std.specs.BTreeMap.{get_by_text}
use Rattle.std.proofs.lemmas.List.{length-map}
use Rattle.std.proofs.lemmas.Map.Text.{text_keys}
use Rattle.show_decision.specs.Numbered.{text_at}
use Rattle.show_decision.proofs.TextsAt.{found_more, numbered_last, texts_more}
use Rattle.show_decision.proofs.decisions.Decisions.add.Goals as goal

pub returns-clause-numbered : goal.returns-clause-numbered
returns-clause-numbered c =
    let texts = c.args.self.now.texts in
    let place : c.len-number.result ≡ length texts.items = omega (arith, c.len-number.ensures, texts.ok.0) in
    numbered_last texts.items c.push.new.self.items c.in_ok-clone.field-0 c.args.text c.len-number.result c.in_ok-push.ensures.items c.in_ok-clone.ensures.cases place

pub returns-clause-found : goal.returns-clause-found
returns-clause-found c =
    let its = c.args.self.now in
    let texts = map (string_bytes {Z = Global}) its.texts.items in
    let text = string_bytes c.args.text in
    let many : length texts ≡ length its.texts.items = length-map its.texts.items (string_bytes {Z = Global}) in
    let place : c.len-number.result ≡ length texts = omega (arith, c.len-number.ensures, its.texts.ok.0, many) in
    let apart : (k : ℕ) → k < length texts → text_at texts k ≢ text = λ k below. c.requires.new k (omega (arith, below, many)) in
    let here : get_by_text c.insert.new.self text ≡ Some c.len-number.result = grind (arith, text_keys) in
    let others : (other : List ℕ) → other ≢ text → get_by_text c.insert.new.self other ≡ get_by_text its.places other = λ other differs. grind (arith, text_keys, differs) in
    found_more its.places c.insert.new.self texts (map (string_bytes {Z = Global}) c.push.new.self.items) text c.len-number.result c.requires.found apart
    (texts_more its.texts.items c.push.new.self.items c.in_ok-clone.field-0 c.args.text c.in_ok-push.ensures.items c.in_ok-clone.ensures.cases) place here others

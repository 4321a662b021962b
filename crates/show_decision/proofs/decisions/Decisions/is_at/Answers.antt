use Rattle.std.proofs.Common.{◌≡◌, ◌<◌, ℕ, List, Global, String, get_or, length, subst}
use Rattle.std.specs.Str.{bytes_eq}
use Rattle.show_decision.proofs.TextsAt.{text_is_at}
use Rattle.show_decision.proofs.decisions.Decisions.is_at.Goals as goal

pub returns-in-Some : goal.returns-in-Some
returns-in-Some c =
    let at = c.in-Some.ensures.lookup in
    let known = c.in-Some.known.now in
    text_is_at c.args.self.now.texts.items c.args.number known c.args.text.now c.eq.result
    (subst (λ (texts : List (String Global)). c.args.number < length texts) c.deref.ensures.value at.3.0)
    (subst (λ (texts : List (String Global)). known ≡ get_or texts c.args.number known) c.deref.ensures.value at.1)
    (subst (λ (bytes : List ℕ). c.eq.result ≡ bytes_eq bytes c.args.text.now) c.as_str.ensures.value c.eq.ensures)

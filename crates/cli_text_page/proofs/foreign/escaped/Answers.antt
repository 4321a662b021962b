use Rattle.std.proofs.Common.{◌≡◌, ℕ, List, Result, Ok, Err, IfOk, String, sym, subst, All, chars, string_bytes}
use Rattle.cli_text_page.specs.Escaping.{escaped}
use Rattle.cli_text_page.proofs.Harmless.{IsShown, escaped_same, harmless}
use Rattle.cli_text_page.proofs.foreign.escaped.Goals as goal

carried : {A E : Type 0} (P : List ℕ → Type 0) (text : List ℕ) (r : Result (String A) E) → IfOk r (λ s. string_bytes s ≡ text) → P text → IfOk r (λ s. P (string_bytes s))
carried P text (Ok s) e h = subst P (sym e) h
carried P text (Err _) e h = tt

pub returns-clause-same : goal.returns-clause-same
returns-clause-same c all =
    carried (λ bs. bs ≡ c.args.text.now) (escaped c.args.text.now) c.format.result c.format.ensures.ok (escaped_same c.args.text.now c.utf8.text all)

pub returns-clause-harmless : goal.returns-clause-harmless
returns-clause-harmless c =
    carried (λ bs. All IsShown (chars bs)) (escaped c.args.text.now) c.format.result c.format.ensures.ok (harmless c.args.text.now c.utf8.text).all

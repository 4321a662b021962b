-- One text is put on a page after another.
use Rattle.std.proofs.Common.{◌∙◌, ℕ, List, [], ◌++◌, ap, append_assoc, string_bytes, sym}
use Rattle.std.proofs.lemmas.List.{append-nil}
use Rattle.cli_text_page.specs.declared.page.Page.{Page}
use Rattle.cli_text_page.specs.Page.{Puts}

pub puts_none : (page : Page) → Puts page [] page
puts_none page whole = (whole, sym (append-nil (string_bytes page.text)))

pub puts_both : (a b c : Page) (first second : List ℕ) → Puts a first b → Puts b second c → Puts a (first ++ second) c
puts_both a b c first second one two whole =
    let later = two whole in
    let before = one later.0 in
    (before.0, later.1 ∙ ap (λ t. t ++ second) before.1 ∙ append_assoc (string_bytes a.text) first second)

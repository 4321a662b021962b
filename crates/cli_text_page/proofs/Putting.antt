-- One text is put on a page after another.
use Rattle.std.proofs.Common.{◌≡◌, ℕ, zero, suc, ◌+◌, List, [], ◌∷◌, ◌++◌, refl, sym, ap, ◌∙◌, append_assoc, replicate, subst, arith, string_bytes}
use Rattle.std.proofs.lemmas.List.{append-nil}
use Rattle.cli_text_page.specs.declared.page.Page.{Page}
use Rattle.cli_text_page.specs.Page.{Adds, Puts}

pub puts_none : (page : Page) → Puts page [] page
puts_none page whole = (whole, sym (append-nil (string_bytes page.text)))

pub puts_both : (a b c : Page) (first second : List ℕ) → Puts a first b → Puts b second c → Puts a (first ++ second) c
puts_both a b c first second one two whole =
    let later = two whole in
    let before = one later.0 in
    (before.0, later.1 ∙ ap (λ t. t ++ second) before.1 ∙ append_assoc (string_bytes a.text) first second)

pub adds_none : (page : Page) → Adds page page
adds_none page = ([], puts_none page)

pub adds_one : (a b c : Page) (text : List ℕ) → Adds a b → Puts b text c → Adds a c
adds_one a b c text one two = (one.0 ++ text, puts_both a b c one.0 text one.1 two)

replicate_more : (n x : ℕ) → replicate n x ++ x ∷ [] ≡ replicate (suc n) x
replicate_more zero x = refl
replicate_more (suc n) x = ap (λ t. x ∷ t) (replicate_more n x)

-- one blank more
pub puts_blank : (a b c : Page) (n m : ℕ) → m ≡ n + 1 → Puts a (replicate n 32) b → Puts b (32 ∷ []) c → Puts a (replicate m 32) c
puts_blank a b c n m next one two =
    let same : m ≡ suc n = omega (arith, next) in
    subst (λ (t : List ℕ). Puts a t c) (replicate_more n 32 ∙ ap (λ k. replicate k 32) (sym same)) (puts_both a b c (replicate n 32) (32 ∷ []) one two)

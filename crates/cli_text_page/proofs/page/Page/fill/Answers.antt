use Rattle.std.proofs.Common.{sym, subst}
use Rattle.std.specs.Fmt.{decimal}
use Rattle.cli_text_page.specs.declared.page.Page.{Page}
use Rattle.cli_text_page.specs.Page.{Adds}
use Rattle.cli_text_page.proofs.Putting.{adds_one}
use Rattle.cli_text_page.proofs.page.Page.fill.Goals.{then-place-gt0+in-Some-next, then-place-gt0+in_default, else-place-gt0}
use Rattle.cli_text_page.proofs.page.Page.fill.Goals as goal

pub loop-place-preserved : goal.loop-place-preserved
loop-place-preserved c =
    let old = c.args.self.now in
    let before = c.if-place-gt0.self in
    let begun : Adds old before = elim c.if-place-gt0.branch [
      | then-place-gt0+in-Some-next w ↦ subst (λ (p : Page). Adds old p) (sym w.self-is)
          (adds_one old c.loop-place.self w.number.new.self (decimal w.in-Some-next.number.now) c.loop-place.invariant w.number.ensures)
      | then-place-gt0+in_default w ↦ subst (λ (p : Page). Adds old p) (sym w.self-is) c.loop-place.invariant
      | else-place-gt0 w ↦ subst (λ (p : Page). Adds old p) (sym w.self-is) c.loop-place.invariant
    ] in
    adds_one old before c.text.new.self c.in-Some.words.now begun c.text.ensures

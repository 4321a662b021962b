use Rattle.std.proofs.Common.{◌++◌, [], ◌∷◌, ℕ, codes, subst}
use Rattle.std.specs.Fmt.{decimal}
use Rattle.cli_text_page.specs.Page.{Puts}
use Rattle.show_account.proofs.Putting.{puts_both}
use Rattle.show_decision.proofs.words.put_instructions.Goals as goal

pub returns : goal.returns
returns c =
    let first = codes "; " ++ decimal c.args.instructions in
    let second = codes " of " ++ decimal c.args.budget in
    let last = codes " instructions" ++ 10 ∷ [] in
    let second_put : Puts c.put_count.new.page second c.put_count-2.new.page =
    subst (λ (budget : ℕ). Puts c.put_count.new.page (codes " of " ++ decimal budget) c.put_count-2.new.page) c.from.ensures c.put_count-2.ensures in
    puts_both c.args.page.now c.put_count.new.page c.text.new.self first (second ++ last) c.put_count.ensures
    (puts_both c.put_count.new.page c.put_count-2.new.page c.text.new.self second last second_put c.text.ensures)

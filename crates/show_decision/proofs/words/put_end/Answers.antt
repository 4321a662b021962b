use Rattle.std.proofs.Common.{ℕ, List, codes, refl, subst, sym}
use Rattle.cli_text_page.specs.Page.{Puts}
use Rattle.host_decision.specs.declared.decision.End.{End}
use Rattle.show_decision.specs.Words.{IsEndText}
use Rattle.show_decision.proofs.words.put_end.Goals as goal

pub returns-in-Requeued : goal.returns-in-Requeued
returns-in-Requeued c =
    subst (λ (end : End). (text : List ℕ) × IsEndText end c.args.retries text × Puts c.args.page.now text c.put_requeued.new.page) (sym c.in-Requeued.is) c.put_requeued.ensures

pub returns-in-Finished : goal.returns-in-Finished
returns-in-Finished c =
    let it = c.put_finished.ensures in
    subst (λ (end : End). (text : List ℕ) × IsEndText end c.args.retries text × Puts c.args.page.now text c.put_finished.new.page) (sym c.in-Finished.is) (it.0, it.1, it.2)

pub returns-in-Kept : goal.returns-in-Kept
returns-in-Kept c =
    subst (λ (end : End). (text : List ℕ) × IsEndText end c.args.retries text × Puts c.args.page.now text c.text.new.self) (sym c.in-Kept.is) (codes "left in recovery", refl, c.text.ensures)

use Rattle.std.proofs.Common.{ℕ, List, ◌++◌, ◌∷◌, [], false, subst, sym}
use Rattle.host_journal.specs.Texts.{IsScanned}
use Rattle.host_journal.proofs.LastLine.{scanned_line}
use Rattle.host_journal.proofs.last_line.LastLine.end_line.Goals as goal

pub returns : goal.returns
returns c = λ before scanned.
    subst (λ (kept : List ℕ). IsScanned (before ++ 10 ∷ []) kept false c.is_last-self.result) (sym c.clear.ensures)
    (scanned_line before c.args.self.now.line c.args.self.now.is_long c.args.self.now.is_end c.is_last-self.result scanned c.is_last-self.ensures.long c.is_last-self.ensures.last)

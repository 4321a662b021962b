use Rattle.std.proofs.Common.{ℕ, List, ◌≤◌, get_or, subst}
use Rattle.show_decision.proofs.Usual.{usual_so}
use Rattle.show_decision.proofs.rows.most_frequent.Goals as goal

pub returns : goal.returns
returns c =
    usual_so c.args.decisions.now c.in_ok-counts.counts.items c.args.count c.greatest.result c.in_ok-counts.ensures c.requires.each
    (subst (λ (counts : List ℕ). (place : ℕ) → get_or counts place 0 ≤ get_or counts c.greatest.result 0) c.deref.ensures.value c.greatest.ensures)

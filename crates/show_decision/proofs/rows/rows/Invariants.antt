-- the rows say of the codes so far what was decided of them
use Rattle.show_decision.specs.Rows.{AreRowsOf}
use Rattle.show_decision.proofs.rows.rows.Given as goal

abbrev pub invariant-loop-code : goal.invariant-loop-code
invariant-loop-code l = AreRowsOf l.decisions l.usual l.code l.rows.items

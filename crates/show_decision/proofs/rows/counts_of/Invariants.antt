-- the codes so far are counted
use Rattle.std.proofs.Common.{take}
use Rattle.show_decision.specs.Rows.{AreCounts}
use Rattle.show_decision.proofs.rows.counts_of.Given as goal

abbrev pub invariant-loop-code : goal.invariant-loop-code
invariant-loop-code l = AreCounts (take l.code l.decisions) l.count l.counts.items

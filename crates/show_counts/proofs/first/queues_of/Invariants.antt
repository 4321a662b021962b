-- the table has what the lines so far carry over
use Rattle.std.proofs.Common.{◌≡◌, ℕ, take}
use Rattle.show_counts.specs.Columns.{at, carried_queue}
use Rattle.show_counts.proofs.first.queues_of.Given as goal

abbrev pub invariant-loop-line : goal.invariant-loop-line
invariant-loop-line l = (number : ℕ) → at l.table number ≡ carried_queue number (take l.line-index l.lines)

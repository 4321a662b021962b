use Rattle.std.proofs.Common.{◌≡◌, ◌≤◌, ◌<◌, ◌+◌, ◌-◌, ◌*◌, length, Some}
use Rattle.call_shape.specs.WrittenOut.{total}
use Rattle.reg_domain.specs.Enough.{IsEntryKnown}
use Rattle.verifier.specs.Arrives.{AllArrive, IsNeverLacking}
use Rattle.verifier.specs.Function.{ArePassed, checks_at, deep_under}
use Rattle.verifier.specs.Table.{described}
use Rattle.verifier.proofs.pass.+functions.Given as goal

-- each call has one function more that waits
abbrev pub decreases-call : goal.decreases-call
decreases-call g l = 3 * (8 - length l.callers.now.items)

abbrev pub decreases-visit : goal.decreases-visit
decreases-visit g l = 3 * (8 - length l.callers.now.items) + 1

abbrev pub decreases-visit_function : goal.decreases-visit_function
decreases-visit_function g l = 3 * (8 - length l.callers.now.items) + 2

-- the places so far are done with, by as many checks at most as they have instructions with calls written out
abbrev pub invariant-visit_function-loop-at : goal.invariant-visit_function-loop-at
invariant-visit_function-loop-at g l = record {
  whole : length l.table.items ≡ l.len;
  done : ArePassed l.limits l.program l.fn.callers.items l.fn.entry l.start l.table.items l.left l.at l.fn.visits l.visits;
  callers : l.callers.items ≡ l.fn.callers.items;
  visits : l.visits ≤ l.fn.visits + total (checks_at (deep_under l.fn.callers.items) l.program l.start) (l.start + l.at);
  more : l.fn.visits ≤ l.visits;
  first : l.at ≡ 0 → described l.table.items 0 ≡ Some l.fn.entry;
  counted : 0 < l.at → l.fn.visits < l.visits;
  arrives : IsNeverLacking l.program l.fn.callers.items l.start → IsEntryKnown l.fn.entry → AllArrive l.program l.table.items;
}

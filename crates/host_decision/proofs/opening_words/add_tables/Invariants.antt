-- the lines of the tables so far are added
use Rattle.std.proofs.Common.{◌≡◌, ◌++◌, take}
use Rattle.engine_beginning.specs.Lines.{tables_from}
use Rattle.host_decision.proofs.opening_words.add_tables.Given as goal

abbrev pub invariant-loop-table : goal.invariant-loop-table
invariant-loop-table l = l.lines.items ≡ l.fn.lines.items ++ tables_from 0 (take l.table l.tables)

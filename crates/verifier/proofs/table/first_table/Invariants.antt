use Rattle.std.proofs.Common.{◌≤◌}
use Rattle.std.specs.Prelude.{vec_capacity}
use Rattle.verifier.specs.Table.{IsFirstTable}
use Rattle.verifier.proofs.table.first_table.Given as goal

-- the entry, and as many places that nothing leads to yet
abbrev pub invariant-loop : goal.invariant-loop
invariant-loop l = IsFirstTable l.counter l.fn.entry l.table.items × (l.len ≤ vec_capacity l.table) × (l.counter ≤ l.len)

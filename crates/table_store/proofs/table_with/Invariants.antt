use Rattle.std.proofs.Common.{◌≡◌, take}
use Rattle.table_store.specs.Tables.{table_with}
use Rattle.table_store.proofs.table_with.Given as goal

-- the words so far
abbrev pub invariant-loop-index : goal.invariant-loop-index
invariant-loop-index l = l.table.items ≡ take l.index (table_with l.length l.words)

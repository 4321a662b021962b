use Rattle.std.proofs.Common.{◌≡◌, map, take}
use Rattle.table_store.specs.Tables.{zero_table}
use Rattle.table_store.proofs.TableStore.with_lengths.Given as goal

-- the tables so far are those of the lengths so far
abbrev pub invariant-loop-length : goal.invariant-loop-length
invariant-loop-length l = map (λ table. table.items) l.tables.items ≡ map zero_table (take l.length-index l.lengths)

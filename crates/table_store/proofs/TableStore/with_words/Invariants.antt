use Rattle.std.proofs.Common.{◌≡◌, map, take}
use Rattle.table_store.specs.Tables.{tables_with}
use Rattle.table_store.proofs.TableStore.with_words.Given as goal

-- the tables so far
abbrev pub invariant-loop-number : goal.invariant-loop-number
invariant-loop-number l = map (λ table. table.items) l.tables.items ≡ take l.number (tables_with l.lengths (map (λ words. words.items) l.firsts))
